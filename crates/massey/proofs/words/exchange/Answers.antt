-- `words::exchange` meets its contract. The invariant: the words before j are exchanged. The measure is the
-- number of those left. Assumes nothing.
use Rattle.massey.proofs.words.Moving.{exchanging_more, exchanging_end}
use native.Mathlib.Omega.{arith}
use Rattle.massey.proofs.words.exchange.Goals as goal

pub loop-j-preserved : goal.loop-j-preserved
loop-j-preserved c = (
  omega arith,
  exchanging_more _ _ _ _ _ (omega arith) (omega arith) (omega arith) c.loop-j.invariant.1 c.window.ensures,
)

pub returns : goal.returns
returns c =
    exchanging_end _ _ _ _ c.requires.0 c.requires.1 (omega arith) c.loop-j.invariant.0 c.loop-j.invariant.1
