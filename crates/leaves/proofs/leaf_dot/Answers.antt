-- `leaf_dot` meets its contract.
-- Assumes nothing.
use lib.ListN.{length}
use Rattle.meaning.specs.Sequence.{act_at, known}
use Rattle.leaves.specs.Suited.{suited}
use Rattle.leaves.proofs.Suiting.{answer-prime}
use Rattle.leaves.proofs.leaf_dot.Goals as goal

pub returns : goal.returns
returns c =
    let a = c.args in
    answer-prime a.p (suited (length a.c.now) (length a.s.now)) (λ F. act_at F a.c.now (known a.s.now) 0) 0
    c.dot_in.ensures
