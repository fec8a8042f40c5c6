-- `numbers::power_exceeds` meets its contract. The invariant: `power` is q^i, and at most 65,536.
-- Assumes nothing.
use Prim.Native.Nat.{◌^◌, ◌≤◌}
use mathlib.Core.Path.{◌≡◌}
use Rattle.refusals.proofs.conditions.numbers.power_exceeds.Given as goal

abbrev pub invariant-loop-i : goal.invariant-loop-i
invariant-loop-i l = (l.power ≡ l.q ^ l.i) × (l.power ≤ 65536)
