-- `parts::nine_parts` meets its contract. The invariant is `Parted`.
-- Assumes nothing.
use Rattle.poly.proofs.parts.Splitting.{Parted}
use Rattle.poly.proofs.parts.nine_parts.Given as goal

abbrev pub invariant-loop-i : goal.invariant-loop-i
invariant-loop-i l = Parted l.flat l.lengths l.parts l.rest l.i
