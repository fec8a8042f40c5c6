-- `period_way::search_level` meets its contract. Assumes nothing.
use Rattle.period_way.proofs.Periodic.{period-nonempty, period-fits, period_searchable}
use Rattle.period_way.proofs.Periodic.{period_levelled}
use Rattle.period_way.proofs.Periodic.{searched-none, searched-some}
use Rattle.period_way.proofs.search_level.Goals as goal

pub annihilates_at_level-requires : goal.annihilates_at_level-requires
annihilates_at_level-requires c = period_levelled _ _ _ c.requires.period_input c.args.level
    c.requires.dividing

pub returns-then-not-annihilates_at_level : goal.returns-then-not-annihilates_at_level
returns-then-not-annihilates_at_level c =
    searched-none _ _ _ c.requires.period_input c.args.level c.requires.dividing
    c.annihilates_at_level.ensures _ c.if-not-annihilates_at_level.true

pub overflow_sub-f : goal.overflow_sub-f
overflow_sub-f c = period-nonempty _ _ _ c.requires.period_input c.args.level c.requires.dividing

pub overflow_mul-level : goal.overflow_mul-level
overflow_mul-level c =
    record { fits = period-fits _ _ _ c.requires.period_input c.args.level c.requires.dividing }

pub least_power-requires-clause-searchable : goal.least_power-requires-clause-searchable
least_power-requires-clause-searchable c =
    period_searchable _ _ _ c.requires.period_input c.args.level c.requires.dividing

pub returns : goal.returns
returns c =
    searched-some _ _ _ c.requires.period_input c.args.level c.requires.dividing
    c.annihilates_at_level.ensures
    c.min-count.ensures
    c.load.ensures
    c.if-not-annihilates_at_level.false
    c.least_power.ensures
