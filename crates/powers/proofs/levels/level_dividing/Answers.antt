-- `levels::level_dividing` meets its contract. The invariant: n is the power of the level times the rest. The
-- measure is the rest. Assumes nothing.
use Rattle.powers.proofs.levels.Climbing.{splitting_more}
use Rattle.powers.proofs.levels.level_dividing.Goals as goal

pub loop-rest-preserved : goal.loop-rest-preserved
loop-rest-preserved c =
    splitting_more c.requires.0 c.loop-rest.invariant c.loop-rest-test.true c.next-level.ensures.0
    c.next-level.ensures.2
