-- `words::unpack` meets its contract. The invariant: the first i bits are written. The measure is the number
-- of those left. Assumes nothing.
use Prim.Native.Nat.{◌-◌, ◌≤◌}
use Rattle.arith.proofs.Writing.{Writing}
use Rattle.massey.specs.words.Words.{bits_from}
use Rattle.massey.proofs.words.unpack.Given as goal

abbrev pub invariant-loop-i : goal.invariant-loop-i
invariant-loop-i l = (l.i ≤ l.n) × Writing l.initial.answer 0 (bits_from l.w l.o l.n) l.answer l.i

abbrev pub decreases-loop-i : goal.decreases-loop-i
decreases-loop-i l = l.n - l.i
