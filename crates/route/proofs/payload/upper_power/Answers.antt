-- `payload::upper_power` meets its contract.
-- Assumes nothing.
use mathlib.Core.Path.{ap, ◌∙◌}
use Rattle.meaning.specs.Route.{number, factor_upper}
use Rattle.route.proofs.payload.upper_power.Goals as goal

pub returns : goal.returns
unfolding factor_upper
returns c = c.big_endian.ensures ∙ ap number c.part.ensures
