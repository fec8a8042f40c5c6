-- `is_usable` meets its contract. Assumes nothing.
use native.Mathlib.Omega.{arith}
use Rattle.meter.proofs.Keeping.{usable_no, usable_last}
use Rattle.meter.proofs.is_usable.Goals as goal

pub returns-then-meter : goal.returns-then-meter
returns-then-meter c = usable_last c.args.meter (omega (arith, c.if-meter.true))

pub returns-else-meter : goal.returns-else-meter
returns-else-meter c = usable_no c.args.meter (omega (arith, c.if-meter.false))
