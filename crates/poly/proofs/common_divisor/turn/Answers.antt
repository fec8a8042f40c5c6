-- `common_divisor::turn` meets its contract: the remainder is what the next turn takes.
-- Assumes nothing.
use native.Mathlib.Omega.{arith}
use Rattle.arith.proofs.Represented.{field-is_field}
use Rattle.poly.proofs.common_divisor.Euclid.{divisor-nonempty, euclid_turned}
use Rattle.poly.proofs.common_divisor.turn.Goals as goal

pub overflow_sub-e : goal.overflow_sub-e
overflow_sub-e c =
    omega (arith, divisor-nonempty (field-is_field c.args.field) c.requires)

pub returns : goal.returns
returns c =
    euclid_turned c.args.field c.requires c.divide.ensures c.trimmed_length.ensures
