-- `some_upper_zero` meets its contract. The invariant: the factors from i on decide.
-- Assumes nothing.
use mathlib.Core.Path.{◌≡◌}
use lib.Dec.{eqb}
use lib.ListN.{drop}
use Rattle.meaning.specs.Search.{holds_for_some}
use Rattle.meaning.specs.Conditions.{named}
use Rattle.meaning.specs.Slices.{lists_of}
use Rattle.refusals.proofs.conditions.factors.some_upper_zero.Given as goal

abbrev pub invariant-loop-i : goal.invariant-loop-i
invariant-loop-i l = holds_for_some (λ f. eqb f.1 0)
    (drop l.i (named (lists_of l.set.factors.now) l.set.powers.now))
    ≡ holds_for_some (λ f. eqb f.1 0) (named (lists_of l.set.factors.now) l.set.powers.now)
