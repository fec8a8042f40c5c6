-- `numbers::meter_full` meets its contract.
-- Assumes nothing.
use mathlib.Core.Path.{refl}
use Rattle.meaning.specs.Meter.{meter_full}
use Rattle.refusals.proofs.conditions.numbers.meter_full.Goals as goal

pub returns : goal.returns
unfolding meter_full
returns c = refl
