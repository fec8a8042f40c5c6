-- `lists::factor_degree_out_of_range` meets its contract.
-- Assumes nothing.
use mathlib.Core.Path.{◌∙◌, ap, sym}
use mathlib.Core.Bool.{not}
use borrow.Author.Tests.{eqb-true, eqb-false}
use Rattle.refusals.proofs.conditions.lists.Coefficients.{empty-degree-passes}
use Rattle.bridge.proofs.Lists.Irreducibles.{list-degree}
use Rattle.refusals.proofs.conditions.lists.factor_degree_out_of_range.Goals as goal

pub returns-then-not-is_empty : goal.returns-then-not-is_empty
returns-then-not-is_empty c =
    c.degree_out_of_range.ensures
    ∙ list-degree _ _ (eqb-false _ _ (sym c.is_empty.ensures ∙ c.if-not-is_empty.true))

pub returns-else-not-is_empty : goal.returns-else-not-is_empty
returns-else-not-is_empty c =
    ap not c.if-not-is_empty.false
    ∙ empty-degree-passes _ _ (eqb-true _ _ (sym c.is_empty.ensures ∙ c.if-not-is_empty.false))
