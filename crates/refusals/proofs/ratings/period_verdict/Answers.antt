-- `ratings::period_verdict` meets its contract: the multiple is reducible, or else the rest decides.
-- Assumes nothing.
use mathlib.Core.Path.{sym, ◌∙◌}
use Rattle.meaning.specs.Answers.{number_of}
use Rattle.refusals.specs.Verdicts.{number_in, period_rest}
use Rattle.refusals.proofs.Order.{first_here, first_skip}
use Rattle.refusals.proofs.ratings.period_verdict.Goals as goal

pub returns-then-reducible : goal.returns-then-reducible
unfolding number_in number_of period_rest
returns-then-reducible c = first_here _ _ c.reducible.ensures c.if-reducible.true

pub returns : goal.returns
unfolding period_rest
returns c =
    c.lent_verdict.ensures ∙ sym (first_skip _ _ c.reducible.ensures c.if-reducible.false)
