-- `Mode::suits` meets its contract: each way out is a law of its mode.
-- Assumes nothing.
use mathlib.Core.Path.{ap, ◌∙◌}
use Rattle.meaning.specs.Route.{factor_upper}
use Rattle.route.proofs.mode.Modes.{period_more, period_one, set_none, set_some, free_none}
use Rattle.route.proofs.mode.Mode.suits.Goals as goal

pub returns-then-count-eq1 : goal.returns-then-count-eq1
returns-then-count-eq1 c =
    rw c.in-Period.is
    (period_one _ c.count_of-count.ensures c.if-count-eq1.true _
    (c.upper_power.ensures ∙ ap factor_upper c.first_body.ensures))

pub returns-else-count-eq1 : goal.returns-else-count-eq1
returns-else-count-eq1 c = rw c.in-Period.is (period_more _ c.count_of-count.ensures c.if-count-eq1.false)

pub returns-then-count-ge1 : goal.returns-then-count-ge1
returns-then-count-ge1 c = rw c.in-Set.is (set_some _ c.count_of-count.ensures c.if-count-ge1.true)

pub returns-else-count-ge1 : goal.returns-else-count-ge1
returns-else-count-ge1 c = rw c.in-Set.is (set_none _ c.count_of-count.ensures c.if-count-ge1.false)

pub returns-in-Free : goal.returns-in-Free
returns-in-Free c = rw c.in-Free.is (free_none _ c.count_of-count.ensures)
