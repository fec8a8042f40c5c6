-- `numbers::power_exceeds` meets its contract. The invariant: `power` is q^i, and at most 65,536.
-- Assumes nothing.
use native.Mathlib.Omega.{arith}
use Rattle.refusals.proofs.conditions.numbers.Powers.{power-beyond, power_of_large}
use Rattle.refusals.proofs.conditions.numbers.power_exceeds.Goals as goal

pub returns-then-q-gt65536 : goal.returns-then-q-gt65536
returns-then-q-gt65536 c = power_of_large _ _ _ (omega arith) c.if-q-gt65536.true

pub returns-then-power-gt65536 : goal.returns-then-power-gt65536
returns-then-power-gt65536 c =
    power-beyond _ _ _ _ c.loop-i.invariant.0 c.loop-i-test.true c.if-power-gt65536.true
