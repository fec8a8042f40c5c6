-- `take_term` meets its contract: there is a meter after the term, or a refusal. Assumes nothing.
use native.Mathlib.Omega.{arith}
use Rattle.meter.proofs.Steps.{term_refused, term_taken}
use Rattle.meter.proofs.take_term.Goals as goal

pub returns-in-Ok : goal.returns-in-Ok
returns-in-Ok c = term_taken _ _ (omega arith) c.in-Ok.ensures c.reading.ensures

pub returns-in-Err : goal.returns-in-Err
returns-in-Err c = term_refused _ _ c.in-Err.ensures
