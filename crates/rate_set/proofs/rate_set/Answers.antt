-- `rate_set` meets its contract: the name is refused, or the answer is that in its field.
-- Assumes nothing.
use Rattle.rate_set.proofs.Given.{call_refused, call_made}
use mathlib.Core.Path.{sym, subst}
use Rattle.meaning.specs.Calls.{SetCall}
use Rattle.meaning.specs.Slices.{lists_of}
use Rattle.meaning.proofs.Replies.{handed_on}
use Rattle.rate_set.proofs.rate_set.Goals as goal

pub returns-in_err-field : goal.returns-in_err-field
returns-in_err-field c =
    let a = c.args in
    subst (λ r. SetCall a.name (lists_of a.factors.now) a.uppers.now a.terms.now a.answer.now a.work.now r
    a.answer.now a.work.now)
    (sym (handed_on _ c.from_residual.ensures))
    (call_refused _ _ _ _ _ c.in_err-field.ensures)

pub returns : goal.returns
returns c = call_made _ _ _ _ _ c.in_ok-field.ensures c.rate_in.ensures
