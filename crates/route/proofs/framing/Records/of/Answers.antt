-- `Records::of` meets its contract.
-- Assumes nothing.
use Rattle.std.proofs.Common.{refl}
use Rattle.route.specs.framing.Framing.{records_from}
use Rattle.route.proofs.framing.Records.of.Goals as goal

pub returns : goal.returns
unfolding records_from
returns c = refl
