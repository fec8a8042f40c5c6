-- `upper_powers_out_of_range` meets its contract.
-- Assumes nothing.
use mathlib.Core.Path.{◌∙◌, sym}
use Rattle.refusals.proofs.conditions.factors.Uppers.{zero-upper, large-total}
use Rattle.refusals.proofs.conditions.factors.upper_powers_out_of_range.Goals as goal

pub returns-then-some_upper_zero : goal.returns-then-some_upper_zero
returns-then-some_upper_zero c =
    c.if-some_upper_zero.true ∙ zero-upper _ (sym c.some_upper_zero.ensures ∙ c.if-some_upper_zero.true)

pub returns-else-some_upper_zero : goal.returns-else-some_upper_zero
returns-else-some_upper_zero c =
    large-total _
    (sym c.some_upper_zero.ensures ∙ c.if-some_upper_zero.false)
    c.total_degree.ensures
