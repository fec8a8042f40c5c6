-- `numbers::degree_out_of_range` meets its contract.
-- Assumes nothing.
use mathlib.Core.Path.{sym}
use mathlib.Core.Logic.{inl, inr}
use borrow.Author.Tests.{eq-eqb, ne_eqb, lt-ltb, le-ltb}
use Rattle.refusals.proofs.conditions.numbers.Tests.{degree-tests}
use Rattle.refusals.proofs.conditions.numbers.degree_out_of_range.Goals as goal

pub returns-then-d-eq0 : goal.returns-then-d-eq0
returns-then-d-eq0 c = elim c.then-d-eq0.either [
  | inl h ↦ simp (degree-tests, eq-eqb _ _ h)
  | inr h ↦ simp (degree-tests, ne_eqb _ _ h.0, lt-ltb _ _ h.1)
]

pub returns : goal.returns
returns c =
    simp (
      degree-tests,
      ne_eqb _ _ c.if-d-eq0.false,
      le-ltb _ _ c.if-d-gt32.false,
      sym c.size.ensures,
      c.power_exceeds.ensures,
    )
