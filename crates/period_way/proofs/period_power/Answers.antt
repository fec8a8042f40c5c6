-- `period_way::period_power` meets its contract. Assumes nothing.
use mathlib.Core.Path.{sym, subst}
use Rattle.powers.specs.levels.Levels.{Base}
use Rattle.powers.proofs.levels.Climbing.{field-base}
use Rattle.period_way.proofs.Periodic.{cleared-found}
use Rattle.period_way.proofs.period_power.Goals as goal

pub level_dividing-level-requires : goal.level_dividing-level-requires
level_dividing-level-requires c =
    let base = subst Base (sym c.characteristic.ensures) (field-base c.args.field) in
    (base, c.requires.period_input.at_least_one, c.requires.period_input.not_many)

pub returns : goal.returns
returns c = cleared-found c.search_level-found.ensures c.clear.ensures
