-- `payload::lay_factor` meets its contract.
-- Assumes nothing.
use mathlib.Core.Path.{◌∙◌}
use Rattle.route.proofs.payload.Factors.{factor_laid}
use Rattle.route.proofs.payload.lay_factor.Goals as goal

pub returns : goal.returns
returns c =
    let a = c.args in
    factor_laid a.body.now c.from.result (c.from.ensures ∙ c.byte_at-degree.ensures)
    c.part-low.result.now c.part-low.ensures a.to.now _ _ a.at c.lay.ensures
    c.lay-2.ensures
