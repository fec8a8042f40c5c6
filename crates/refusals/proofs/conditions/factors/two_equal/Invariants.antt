-- `two_equal` meets its contract. The invariant: the factors from i on decide.
-- Assumes nothing.
use mathlib.Core.Path.{◌≡◌}
use lib.ListN.{drop}
use Rattle.meaning.specs.Conditions.{two_equal}
use Rattle.meaning.specs.Slices.{lists_of}
use Rattle.refusals.proofs.conditions.factors.two_equal.Given as goal

abbrev pub invariant-loop-i : goal.invariant-loop-i
invariant-loop-i l = two_equal (drop l.i (lists_of l.factors)) ≡ two_equal (lists_of l.factors)
