-- `numbers::factor_count_out_of_range` meets its contract.
-- Assumes nothing.
use borrow.Author.Tests.{eq-eqb, ne_eqb}
use Rattle.meaning.specs.Conditions.{factor_count_out_of_range}
use Rattle.refusals.proofs.conditions.numbers.factor_count_out_of_range.Goals as goal

pub returns-then-n-eq0 : goal.returns-then-n-eq0
unfolding factor_count_out_of_range
returns-then-n-eq0 c = simp (eq-eqb _ _ c.if-n-eq0.true)

pub returns-else-n-eq0 : goal.returns-else-n-eq0
unfolding factor_count_out_of_range
returns-else-n-eq0 c = simp (ne_eqb _ _ c.if-n-eq0.false)
