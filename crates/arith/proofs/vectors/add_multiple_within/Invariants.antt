-- `vectors::add_multiple_within` meets its contract. The invariant: the first i numbers of a + c·b
-- are written from x on. The measure is what is left of the n places. Assumes nothing.
use Prim.Native.Nat.{◌-◌}
use Rattle.arith.proofs.Writing.{Combining}
use Rattle.arith.proofs.vectors.add_multiple_within.Given as goal

abbrev pub invariant-loop-i : goal.invariant-loop-i
invariant-loop-i g l =
    let m = g.M.Multiples in
    Combining (m.field l.multiples) l.initial.w l.x l.x (m.factor l.multiples) l.y l.n l.w l.i

abbrev pub decreases-loop-i : goal.decreases-loop-i
decreases-loop-i g l = l.n - l.i
