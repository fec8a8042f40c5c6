-- `lent_verdict` meets its contract: the condition holds, or none is left.
-- Assumes nothing.
use mathlib.Core.Path.{sym, ◌∙◌}
use Rattle.meaning.specs.Answers.{number_of}
use Rattle.refusals.specs.Verdicts.{number_in, lent_table}
use Rattle.refusals.proofs.Order.{first_here, first_skip, first-nowhere}
use Rattle.refusals.proofs.lent_verdict.Goals as goal

pub returns-then-lent_too_short : goal.returns-then-lent_too_short
unfolding number_in number_of lent_table
returns-then-lent_too_short c = first_here _ _ c.lent_too_short.ensures c.if-lent_too_short.true

pub returns : goal.returns
unfolding number_in lent_table
returns c = first-nowhere ∙ sym (first_skip _ _ c.lent_too_short.ensures c.if-lent_too_short.false)
