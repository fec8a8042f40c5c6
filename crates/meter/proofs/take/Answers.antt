-- `take` meets its contract: the step of the recurrence on the stored term. Assumes nothing.
use native.Mathlib.Omega.{arith}
use Rattle.meter.proofs.Steps.{term-stepped}
use Rattle.meter.proofs.take.Goals as goal

pub returns : goal.returns
returns c =
    let a = c.args in
    let p = c.requires.terms_len in
    term-stepped _ a.meter a.term (omega (arith, p)) (omega (arith, p)) c.recurrence_of-known.ensures
    c.after_all-next.ensures.begun_2.1 c.after_all-next.ensures.stepped
    (omega (arith, c.after_all-next.auto, p))
    c.meter_of.ensures
