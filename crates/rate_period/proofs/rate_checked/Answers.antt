-- `rate_checked` meets its contract: 12 or 16 refuses, or the answer is that of the power found.
-- Assumes nothing.
use Rattle.arith.proofs.Represented.{field-is_field}
use Rattle.rate_period.proofs.PeriodAnswer.{period_refused, period-lent, period-input}
use Rattle.rate_period.proofs.PeriodAnswer.{period_answerable, period-rated}
use mathlib.Core.Path.{sym, subst}
use mathlib.Core.Bool.{false}
use lib.ListN.{length}
use Rattle.meaning.specs.Period.{period_answer}
use Rattle.meaning.proofs.Replies.{handed_on}
use Rattle.arith.specs.Represented.{field_of}
use Rattle.rate_period.specs.Ratings.{RatedAs}
use Rattle.rate_period.proofs.rate_checked.Goals as goal

pub returns-in_err-period_verdict : goal.returns-in_err-period_verdict
returns-in_err-period_verdict c =
    let a = c.args in
    subst (λ r. RatedAs (period_answer (field_of a.field) false false a.f.now a.terms.now
    (length a.answer.now) (length a.work.now)) a.answer.now a.work.now r a.answer.now a.work.now)
    (sym (handed_on _ c.from_residual.ensures))
    (period_refused _ _ _ _ _ c.requires c.period_verdict.ensures c.in_err-period_verdict.was)

pub period_power-found-requires : goal.period_power-found-requires
period_power-found-requires c =
    let q = c.in_ok-period_verdict.was in record {
      in_bounds = (period-lent _ _ _ _ _ c.requires c.period_verdict.ensures q).1;
      period_input = period-input _ _ _ _ _ c.requires c.period_verdict.ensures q;
    }

pub rated-requires : goal.rated-requires
rated-requires c =
    let q = c.in_ok-period_verdict.was in record {
      in_bounds = (period-lent _ _ _ _ _ c.requires c.period_verdict.ensures q).0;
      answerable = period_answerable _ _ _ _ _ c.requires c.period_verdict.ensures q
          (field-is_field c.args.field) c.period_power-found.ensures;
    }

pub returns : goal.returns
returns c =
    period-rated _ _ _ _ _ c.requires c.period_verdict.ensures c.in_ok-period_verdict.was
    c.period_power-found.ensures
    c.rated.ensures
