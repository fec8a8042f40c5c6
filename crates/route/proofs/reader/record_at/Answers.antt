-- `reader::record_at` meets its contract.
-- Assumes nothing.
use mathlib.Core.Path.{ap, ◌∙◌}
use lib.ListN.{get_or}
use Rattle.meaning.specs.Route.{end_record}
use Rattle.route.specs.framing.Iterating.{read, left}
use Rattle.route.proofs.framing.Frames.{reached}
use Rattle.route.proofs.reader.Readings.{end_or}
use Rattle.route.proofs.reader.record_at.Goals as goal

pub returns : goal.returns
unfolding end_record
returns c =
    rw c.unwrap_or.ensures
    (end_or _ c.args.n _ (rw c.from.ensures) c.nth.result _
    (reached read left c.args.n _ c.nth.result c.nth.new.self c.nth.ensures.ran)
    ∙ ap (λ rs. get_or rs c.args.n end_record) c.of.ensures)
