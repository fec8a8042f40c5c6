-- `arith::ExtensionField::element` meets its contract. Assumes nothing.
use Rattle.arith.proofs.extension.Elements.{size-high, element_mask}
use native.Mathlib.Omega.{arith}
use Rattle.arith.proofs.extension.ExtensionField.element.Goals as goal

pub overflow_cast-mask : goal.overflow_cast-mask
overflow_cast-mask c = omega (arith, size-high c.args.self, c.args.self.size_is_right)

pub returns : goal.returns
returns c = element_mask c.args.self c.args.a
