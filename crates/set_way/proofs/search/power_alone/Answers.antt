-- `search::power_alone` meets its contract. Assumes nothing.
use mathlib.Core.Path.{sym, subst, ◌∙◌}
use native.Mathlib.Omega.{arith}
use Rattle.powers.specs.levels.Levels.{Base}
use Rattle.powers.proofs.levels.Climbing.{field-base}
use Rattle.meaning.proofs.Slices.{lists_length, lists_at}
use Rattle.set_way.proofs.actions.Inputs.{input_few, enough_uppers}
use Rattle.set_way.proofs.search.Alone.{factor_searchable, alone_found}
use Rattle.set_way.proofs.search.power_alone.Goals as goal

pub bounds-set-0 : goal.bounds-set-0
bounds-set-0 c =
    omega (
      arith,
      enough_uppers c.requires.set_input,
      lists_length c.args.set.factors.now,
      c.requires.factors_len,
    )

pub level_reaching-level-requires : goal.level_reaching-level-requires
level_reaching-level-requires c =
    let base = subst Base (sym c.characteristic.ensures) (field-base c.args.field) in (
      base,
      input_few c.requires.set_input 0
          (omega (arith, lists_length c.args.set.factors.now, c.requires.factors_len)),
    )

pub least_power-requires-clause-searchable : goal.least_power-requires-clause-searchable
least_power-requires-clause-searchable c =
    let one = lists_length c.args.set.factors.now ∙ c.requires.factors_len in
    rw (← lists_at c.args.set.factors.now 0)
    (factor_searchable c.args.field c.requires.set_input one c.level_reaching-level.result
    (rw c.characteristic.ensures at c.level_reaching-level.ensures))

pub returns : goal.returns
returns c =
    let one = lists_length c.args.set.factors.now ∙ c.requires.factors_len in
    alone_found c.args.field c.requires.set_input one c.level_reaching-level.result
    (rw c.characteristic.ensures at c.level_reaching-level.ensures) c.requires.terms_len c.load.ensures
    (rw (← lists_at c.args.set.factors.now 0) at c.least_power.ensures)
