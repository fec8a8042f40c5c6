-- `words::move_word` meets its contract. The invariant: the words before j are moved. The measure is the
-- number of those left. Assumes nothing.
use Rattle.massey.proofs.words.Moving.{moving_end}
use native.Mathlib.Omega.{arith}
use Rattle.massey.proofs.words.move_word.Goals as goal

pub returns : goal.returns
returns c =
    moving_end _ _ c.requires.0 (omega arith) c.loop-j.invariant.0 c.loop-j.invariant.1
