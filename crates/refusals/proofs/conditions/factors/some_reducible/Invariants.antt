-- `some_reducible` meets its contract. The invariant: the factors from f on decide.
-- Assumes nothing.
use mathlib.Core.Path.{◌≡◌}
use lib.ListN.{drop}
use Rattle.meaning.specs.Search.{holds_for_some}
use Rattle.meaning.specs.Conditions.{is_reducible}
use Rattle.meaning.specs.Slices.{lists_of}
use Rattle.arith.specs.Represented.{field_of}
use Rattle.refusals.proofs.conditions.factors.some_reducible.Given as goal

abbrev pub invariant-loop-f : goal.invariant-loop-f
invariant-loop-f l = holds_for_some (is_reducible (field_of l.field)) (drop l.f-index (lists_of l.factors))
    ≡ holds_for_some (is_reducible (field_of l.field)) (lists_of l.factors)
