-- `Printed::push_digits` ends: the number gets smaller.
-- Assumes nothing.
use Rattle.printing.proofs.buffer.Printed.+push_digits.Given as goal

abbrev pub decreases-push_digits : goal.decreases-push_digits
decreases-push_digits l = l.n
