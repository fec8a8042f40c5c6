-- `vectors::multiply_add_within` meets its contract. The invariant: the first i numbers of b + c·a
-- are written from x on. The measure is what is left of the n places. Assumes nothing.
use native.Mathlib.Omega.{arith}
use Rattle.arith.proofs.Writing.{same-places, combining_more}
use Rattle.arith.proofs.vectors.multiply_add_within.Goals as goal

pub loop-i-preserved : goal.loop-i-preserved
loop-i-preserved g c =
    let p = c.requires in
    combining_more c.loop-i.invariant p (same-places p) (omega arith)
    c.plus_times.ensures
