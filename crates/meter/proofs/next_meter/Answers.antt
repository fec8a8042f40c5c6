-- `next_meter` meets its contract: the name, the numbers of the meter or the term is refused, or the term is
-- taken. Assumes nothing.
use native.Mathlib.Omega.{arith}
use mathlib.Core.Path.{sym, subst}
use Rattle.meaning.proofs.Replies.{handed_on}
use Rattle.meter.specs.Model.{Usable, NextCall}
use Rattle.meter.proofs.Steps.{next_unusable, next_refused, next_taken, room-left}
use Rattle.meter.proofs.next_meter.Goals as goal

pub take-requires : goal.take-requires
take-requires c =
    record {
      usable = subst (Usable _) c.if-not-is_usable.false c.is_usable.ensures;
      terms_len = (
        omega arith,
        omega arith,
        room-left _ _ _ c.term_verdict.ensures c.in_ok-term_verdict.was,
      );
    }

pub returns-in_err-term_verdict : goal.returns-in_err-term_verdict
returns-in_err-term_verdict c =
    subst (λ r. NextCall c.args.meter c.args.term c.args.terms.now c.args.work.now r c.args.terms.now
    c.args.work.now) (sym (handed_on _ c.from_residual-in_err-term_verdict.ensures))
    (next_refused _ _ c.in_ok-field.ensures _ c.term_verdict.ensures c.in_err-term_verdict.was)

pub returns-then-not-is_usable : goal.returns-then-not-is_usable
returns-then-not-is_usable c =
    next_unusable _ _ (subst (Usable _) c.if-not-is_usable.true c.is_usable.ensures)

pub returns : goal.returns
returns c =
    next_taken _ _ c.in_ok-field.ensures _ c.term_verdict.ensures (omega arith) c.in_ok-term_verdict.was
    c.take.ensures
