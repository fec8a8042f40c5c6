-- `rate_free` meets its contract: the name is refused, or the answer is that in its field.
-- Assumes nothing.
use mathlib.Core.Path.{sym, subst}
use Rattle.meaning.specs.Calls.{FreeCall}
use Rattle.meaning.proofs.Replies.{handed_on}
use Rattle.rate_free.proofs.FreeAnswer.{call_refused, call_made}
use Rattle.rate_free.proofs.rate_free.Goals as goal

pub returns-in_err-field : goal.returns-in_err-field
returns-in_err-field c =
    let a = c.args in
    subst (λ r. FreeCall a.name a.terms.now a.answer.now a.work.now r a.answer.now a.work.now)
    (sym (handed_on _ c.from_residual.ensures))
    (call_refused _ _ _ c.in_err-field.ensures)

pub returns : goal.returns
returns c = call_made _ _ _ c.in_ok-field.ensures c.rate_in.ensures
