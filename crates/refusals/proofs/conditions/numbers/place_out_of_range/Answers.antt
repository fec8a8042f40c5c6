-- `numbers::place_out_of_range` meets its contract.
-- Assumes nothing.
use borrow.Author.Tests.{lt-ltb, le-ltb}
use Rattle.meaning.specs.Conditions.{place_out_of_range}
use Rattle.refusals.proofs.conditions.numbers.place_out_of_range.Goals as goal

pub returns-then-size-place : goal.returns-then-size-place
unfolding place_out_of_range
returns-then-size-place c = simp (lt-ltb _ _ c.if-size-place.true)

pub returns-else-size-place : goal.returns-else-size-place
unfolding place_out_of_range
returns-else-size-place c = simp (le-ltb _ _ c.if-size-place.false, c.count_out_of_range.ensures)
