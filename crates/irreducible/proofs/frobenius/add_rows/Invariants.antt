-- `add_rows` meets its contract. The invariant is `Summing`. Assumes nothing.
use mathlib.Core.Path.{◌≡◌}
use lib.ListN.{length}
use Rattle.irreducible.proofs.frobenius.Summing.{Summing}
use Rattle.irreducible.proofs.frobenius.add_rows.Given as goal

abbrev pub invariant-loop-j : goal.invariant-loop-j
invariant-loop-j l = (l.d ≡ length l.h) × Summing l.field l.table l.h l.sum l.j
