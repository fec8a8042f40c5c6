-- `arith::ExtensionField::new` meets its contract. Assumes nothing.
use native.Mathlib.Omega.{arith}
use Rattle.bridge.proofs.Binary.BinaryNumbers.{binary-name}
use Rattle.arith.proofs.extension.ExtensionField.new.Goals as goal

pub power_of_two-requires : goal.power_of_two-requires
power_of_two-requires c = (binary-name c.args.degree c.args.low c.requires).most

pub overflow_cast-result-2 : goal.overflow_cast-result-2
overflow_cast-result-2 c =
    let a = c.args in
    omega (arith, (binary-name a.degree a.low c.requires).most)

pub overflow_cast-result-3 : goal.overflow_cast-result-3
overflow_cast-result-3 c =
    let a = c.args in
    let b = binary-name a.degree a.low c.requires in
    omega (arith, b.small, c.power_of_two.ensures)
