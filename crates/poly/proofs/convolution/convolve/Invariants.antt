-- `convolution::convolve` meets its contract. The invariant: the places after the first `left` are
-- made, and all others as they were. The measure is `left`. Assumes nothing.
use Prim.Native.Nat.{◌+◌, ◌-◌, ◌≤◌}
use Rattle.meaning.specs.Sequence.{known}
use Rattle.arith.specs.Represented.{field_of}
use Rattle.poly.specs.convolution.Convolution.{convolved}
use Rattle.poly.proofs.convolution.Between.{Between}
use Rattle.poly.proofs.convolution.convolve.Given as goal

abbrev pub invariant-loop-left : goal.invariant-loop-left
invariant-loop-left l = (l.left ≤ l.m) × Between l.initial.w (l.to + l.left) (l.m - l.left)
    (convolved (field_of l.field) l.f l.q (known l.initial.w)) (l.at + l.left) l.w

abbrev pub decreases-loop-left : goal.decreases-loop-left
decreases-loop-left l = l.left
