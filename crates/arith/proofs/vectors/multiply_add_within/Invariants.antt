-- `vectors::multiply_add_within` meets its contract. The invariant: the first i numbers of b + c·a
-- are written from x on. The measure is what is left of the n places. Assumes nothing.
use Prim.Native.Nat.{◌-◌}
use Rattle.arith.proofs.Writing.{Combining}
use Rattle.arith.proofs.vectors.multiply_add_within.Given as goal

abbrev pub invariant-loop-i : goal.invariant-loop-i
invariant-loop-i g l =
    let m = g.M.Multiples in
    Combining (m.field l.multiples) l.initial.w l.x l.y (m.factor l.multiples) l.x l.n l.w l.i

abbrev pub decreases-loop-i : goal.decreases-loop-i
decreases-loop-i g l = l.n - l.i
