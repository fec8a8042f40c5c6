-- `lists::coefficient_out_of_range` meets its contract.
-- Assumes nothing.
use mathlib.Core.Path.{◌∙◌, ap, sym}
use lib.Dec.{eqb}
use Prim.Native.Nat.{ℕ}
use Rattle.refusals.proofs.conditions.lists.Coefficients.{foreign_coefficient, leading-coefficient}
use Rattle.refusals.proofs.conditions.lists.coefficient_out_of_range.Goals as goal

pub returns-then-term_out_of_field : goal.returns-then-term_out_of_field
returns-then-term_out_of_field c =
    c.if-term_out_of_field.true
    ∙ foreign_coefficient _ _ (sym c.term_out_of_field.ensures ∙ c.if-term_out_of_field.true)

pub returns-else-term_out_of_field : goal.returns-else-term_out_of_field
returns-else-term_out_of_field c =
    ap (λ (n : ℕ). eqb n 0) c.leading.ensures
    ∙ leading-coefficient _ _ (sym c.term_out_of_field.ensures ∙ c.if-term_out_of_field.false)
