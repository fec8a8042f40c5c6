-- `words::add_moved` meets its contract. The invariant: the words before j are added. The measure is the
-- number of those left. Assumes nothing.
use Rattle.massey.proofs.words.Moving.{adding_more, adding_end}
use native.Mathlib.Omega.{arith}
use Rattle.massey.proofs.words.add_moved.Goals as goal

pub loop-j-preserved : goal.loop-j-preserved
loop-j-preserved c =
    (omega arith, adding_more _ _ _ _ _ (omega arith) (omega arith) c.loop-j.invariant.1 c.window.ensures)

pub returns : goal.returns
returns c =
    adding_end _ _ _ _ c.requires.0 c.requires.1 (omega arith) c.loop-j.invariant.0 c.loop-j.invariant.1
