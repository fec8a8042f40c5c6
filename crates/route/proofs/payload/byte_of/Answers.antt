-- `payload::byte_of` meets its contract.
-- Assumes nothing.
use mathlib.Core.Path.{ap, ◌∙◌}
use lib.ListN.{get_or}
use Rattle.meaning.specs.Route.{byte_of}
use Rattle.route.proofs.payload.byte_of.Goals as goal

pub returns : goal.returns
unfolding byte_of
returns c = c.byte_at.ensures ∙ ap (λ l. get_or l 0 0) c.first_body.ensures
