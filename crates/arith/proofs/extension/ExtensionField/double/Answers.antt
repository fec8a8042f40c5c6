-- `arith::ExtensionField::double` meets its contract. Assumes nothing.
use Rattle.arith.proofs.extension.Elements.{size-high, double-kept, double-reduced, double_byte}
use native.Mathlib.Omega.{arith}
use Rattle.arith.proofs.extension.ExtensionField.double.Goals as goal

pub overflow_cast-result : goal.overflow_cast-result
overflow_cast-result c =
    let w = c.args.self in omega (arith, size-high w, w.size_is_right)

pub overflow_cast-result-else-d-self : goal.overflow_cast-result-else-d-self
overflow_cast-result-else-d-self c =
    omega (arith, double_byte c.args.self c.args.x c.requires)

pub returns-then-d-self : goal.returns-then-d-self
returns-then-d-self c = double-kept c.args.self c.args.x (omega arith)

pub returns-else-d-self : goal.returns-else-d-self
returns-else-d-self c =
    double-reduced c.args.self c.args.x c.requires (omega arith)
