-- `levels::level_reaching` meets its contract. The invariant: the power before that of the level is less than
-- r. The measure is how much is missing to r. Assumes nothing.
use native.Mathlib.Omega.{arith}
use Rattle.powers.proofs.levels.Climbing.{climbing_end, level-rises}
use Rattle.powers.proofs.levels.level_reaching.Goals as goal

pub loop-level-smaller : goal.loop-level-smaller
loop-level-smaller c =
    omega (arith, level-rises c.loop-level.level, c.next-level.ensures.2)

pub returns : goal.returns
returns c = climbing_end c.requires.0 c.loop-level.invariant c.loop-level-test.false
