-- `words::next_one` meets its contract. The invariant: the bits of the numbers from n to t − 1 are 0. The
-- measure is how far t is from past the words. Assumes nothing.
use Rattle.massey.proofs.words.Searching.{searching_more}
use Rattle.massey.proofs.words.Searching.{searching_found}
use native.Mathlib.Omega.{arith}
use Rattle.massey.proofs.words.next_one.Goals as goal

pub returns-then-rest-ne0 : goal.returns-then-rest-ne0
returns-then-rest-ne0 c =
    searching_found c.loop-t.invariant.1 (omega arith) c.if-rest-ne0.true _ (omega arith) c.min.ensures

pub loop-t-preserved : goal.loop-t-preserved
loop-t-preserved c =
    (omega arith, searching_more c.loop-t.invariant.1 (omega arith) c.if-rest-ne0.false)
