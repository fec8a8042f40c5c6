-- `numbers::lent_too_short` meets its contract.
-- Assumes nothing.
use borrow.Author.Tests.{lt-ltb, le-ltb}
use Rattle.meaning.specs.Conditions.{lent_too_short}
use Rattle.refusals.proofs.conditions.numbers.lent_too_short.Goals as goal

pub returns-then-answer-lt4097 : goal.returns-then-answer-lt4097
unfolding lent_too_short
returns-then-answer-lt4097 c = simp (lt-ltb _ _ c.if-answer-lt4097.true)

pub returns-else-answer-lt4097 : goal.returns-else-answer-lt4097
unfolding lent_too_short
returns-else-answer-lt4097 c = simp (le-ltb _ _ c.if-answer-lt4097.false)
