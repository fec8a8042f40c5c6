-- `levels::level_reaching` meets its contract. The invariant: the power before that of the level is less than
-- r. The measure is how much is missing to r. Assumes nothing.
use Prim.Native.Nat.{◌-◌}
use Rattle.powers.proofs.levels.Climbing.{Climbing}
use Rattle.powers.proofs.levels.level_reaching.Given as goal

abbrev pub invariant-loop-level : goal.invariant-loop-level
invariant-loop-level l = Climbing l.p l.r l.level

abbrev pub decreases-loop-level : goal.decreases-loop-level
decreases-loop-level l = l.r - l.level.power
