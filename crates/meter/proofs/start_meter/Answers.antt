-- `start_meter` meets its contract: the refusal of the name, or the start of the model. Assumes nothing.
use native.Mathlib.Omega.{arith}
use mathlib.Core.Path.{sym, subst}
use Rattle.meaning.specs.Calls.{StartCall}
use Rattle.meaning.proofs.Replies.{handed_on}
use Rattle.meter.specs.Model.{meter_model}
use Rattle.meter.proofs.Steps.{start_refused, start_taken}
use Rattle.meter.proofs.start_meter.Goals as goal

pub returns-in_err-try_from : goal.returns-in_err-try_from
returns-in_err-try_from c =
    subst (λ r. StartCall meter_model c.args.name c.args.work.now r c.args.work.now)
    (sym (handed_on _ c.from_residual.ensures))
    (start_refused _ c.in_err-try_from.ensures)

pub returns : goal.returns
returns c =
    start_taken _ c.in_ok-try_from.ensures.exists c.start-known.ensures
    (omega (arith, c.start-known.auto.work)) c.meter_of.ensures
