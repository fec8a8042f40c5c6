-- `vectors::add_multiple` meets its contract. The invariant: the first i numbers of a + c·b are
-- written over a. The measure is what is left of b. Assumes nothing.
use Prim.Native.Nat.{◌-◌, ◌≤◌}
use mathlib.Core.Path.{◌≡◌}
use lib.ListN.{length}
use Rattle.arith.specs.Slices.{combined}
use Rattle.arith.proofs.Writing.{Writing}
use Rattle.arith.proofs.vectors.add_multiple.Given as goal

abbrev pub invariant-loop-i : goal.invariant-loop-i
invariant-loop-i g l =
    let m = g.M.Multiples in
    (l.i ≤ l.i-end) × (l.i-end ≡ length l.b) × Writing l.initial.a 0
    (combined (m.field l.multiples) l.initial.a (m.factor l.multiples) l.b) l.a l.i

abbrev pub decreases-loop-i : goal.decreases-loop-i
decreases-loop-i g l = l.i-end - l.i
