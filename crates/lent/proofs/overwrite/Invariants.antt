-- `overwrite` meets its contract. The invariant: the first i bytes are copied, and the others as they were.
-- Assumes nothing.
use Rattle.arith.proofs.Writing.{Writing}
use Rattle.lent.proofs.overwrite.Given as goal

abbrev pub invariant-loop-i : goal.invariant-loop-i
invariant-loop-i l = Writing l.initial.to 0 l.from l.to l.i
