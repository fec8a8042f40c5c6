-- `leaf_update` meets its contract.
-- Assumes nothing.
use lib.ListN.{length}
use Rattle.arith.specs.Slices.{combined}
use Rattle.leaves.specs.Suited.{suited}
use Rattle.leaves.proofs.Suiting.{answer-prime}
use Rattle.leaves.proofs.leaf_update.Goals as goal

pub returns : goal.returns
returns c =
    let a = c.args in
    answer-prime a.p (suited (length a.b.now) (length a.a.now)) (λ F. combined F a.a.now a.c a.b.now) a.a.now
    c.update_in.ensures
