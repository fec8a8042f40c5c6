-- `continue_sequence` meets its contract: the name or the verdict refuses, or the filler leaves the
-- continuation in the part that it is lent. Assumes nothing.
use native.Mathlib.Omega.{arith}
use mathlib.Core.Path.{sym, subst}
use Rattle.meaning.specs.Calls.{ContinueCall}
use Rattle.meaning.proofs.Replies.{handed_on}
use Rattle.continue_sequence.proofs.Filling.{continue_declined, continue_refused, continue_place}
use Rattle.continue_sequence.proofs.Filling.{continue_accepted, continue_filled}
use Rattle.continue_sequence.proofs.continue_sequence.Goals as goal

pub slice_bounds-fill-count : goal.slice_bounds-fill-count
slice_bounds-fill-count c =
    omega (arith, continue_place _ _ _ _ _ c.continue_verdict.ensures c.in_ok-continue_verdict.was)

pub slice_bounds-fill-start : goal.slice_bounds-fill-start
slice_bounds-fill-start = slice_bounds-fill-count

pub fill-requires : goal.fill-requires
fill-requires c = continue_accepted _ _ _ _ _ c.continue_verdict.ensures c.in_ok-continue_verdict.was

pub returns-in_err-field : goal.returns-in_err-field
returns-in_err-field c =
    let a = c.args in
    subst (λ r. ContinueCall a.name a.polynomial.now a.start.now a.buffer.now a.place r a.buffer.now)
    (sym (handed_on _ c.from_residual.ensures))
    (continue_declined _ _ _ _ _ c.in_err-field.ensures)

pub returns-in_err-continue_verdict : goal.returns-in_err-continue_verdict
returns-in_err-continue_verdict c =
    let a = c.args in
    subst (λ r. ContinueCall a.name a.polynomial.now a.start.now a.buffer.now a.place r a.buffer.now)
    (sym (handed_on _ c.from_residual-in_err-continue_verdict.ensures))
    (continue_refused _ _ _ _ _ c.in_ok-field.ensures c.continue_verdict.ensures
    c.in_err-continue_verdict.was)

pub returns : goal.returns
returns c =
    continue_filled _ _ _ _ _ c.in_ok-field.ensures c.continue_verdict.ensures
    c.in_ok-continue_verdict.was c.fill.ensures
