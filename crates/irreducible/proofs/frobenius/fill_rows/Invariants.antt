-- `fill_rows` meets its contract. The invariant is `Filling`. Assumes nothing.
use mathlib.Core.Path.{◌≡◌}
use Rattle.meaning.specs.Polynomial.{degree}
use Rattle.irreducible.proofs.frobenius.Filling.{Filling}
use Rattle.irreducible.proofs.frobenius.fill_rows.Given as goal

abbrev pub invariant-loop-j : goal.invariant-loop-j
invariant-loop-j l = (l.d ≡ degree l.ring.f.now) × Filling l.ring.field l.ring.f.now l.y l.table l.row l.j
