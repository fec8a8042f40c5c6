-- `lists::not_monic` meets its contract.
-- Assumes nothing.
use mathlib.Core.Path.{◌∙◌, ap, sym}
use lib.Dec.{eqb}
use mathlib.Core.Bool.{not}
use Prim.Native.Nat.{ℕ}
use Rattle.refusals.proofs.conditions.lists.Coefficients.{foreign_not-monic, leading-not-monic}
use Rattle.refusals.proofs.conditions.lists.not_monic.Goals as goal

pub returns-then-term_out_of_field : goal.returns-then-term_out_of_field
returns-then-term_out_of_field c =
    c.if-term_out_of_field.true
    ∙ foreign_not-monic _ _ (sym c.term_out_of_field.ensures ∙ c.if-term_out_of_field.true)

pub returns-else-term_out_of_field : goal.returns-else-term_out_of_field
returns-else-term_out_of_field c =
    ap (λ (n : ℕ). not (eqb n 1)) c.leading.ensures
    ∙ leading-not-monic _ _ (sym c.term_out_of_field.ensures ∙ c.if-term_out_of_field.false)
