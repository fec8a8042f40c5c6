-- `unpack` meets its contract. The invariant: the coefficients so far, and those of the rest after them, are
-- those of n. Assumes nothing.
use Rattle.find_entry.proofs.Unpacking.{Unpacking}
use Rattle.find_entry.proofs.unpack.Given as goal

abbrev pub invariant-loop-i : goal.invariant-loop-i
invariant-loop-i l = Unpacking l.n l.coefficients l.rest l.i
