-- `levels::level_dividing` meets its contract. The invariant: n is the power of the level times the rest. The
-- measure is the rest. Assumes nothing.
use Rattle.powers.proofs.levels.Climbing.{Splitting}
use Rattle.powers.proofs.levels.level_dividing.Given as goal

abbrev pub invariant-loop-rest : goal.invariant-loop-rest
invariant-loop-rest l = Splitting l.p l.n l.level l.rest

abbrev pub decreases-loop-rest : goal.decreases-loop-rest
decreases-loop-rest l = l.rest
