-- `lists::term_out_of_field` meets its contract.
-- Assumes nothing.
use mathlib.Core.Path.{◌∙◌, ap, ap₂, sym}
use mathlib.Core.Bool.{not}
use lib.Dec.{leb}
use borrow.Author.Tests.{eqb-true, eqb-false}
use Rattle.refusals.proofs.conditions.lists.Coefficients.{empty-terms_pass}
use Rattle.refusals.proofs.conditions.lists.Maximum.{terms-largest}
use Rattle.refusals.proofs.conditions.lists.term_out_of_field.Goals as goal

pub returns-then-not-is_empty : goal.returns-then-not-is_empty
returns-then-not-is_empty c =
    ap₂ leb c.size.ensures c.largest.ensures
    ∙ terms-largest _ _ (eqb-false _ _ (sym c.is_empty.ensures ∙ c.if-not-is_empty.true))

pub returns-else-not-is_empty : goal.returns-else-not-is_empty
returns-else-not-is_empty c =
    ap not c.if-not-is_empty.false
    ∙ empty-terms_pass _ _ (eqb-true _ _ (sym c.is_empty.ensures ∙ c.if-not-is_empty.false))
