-- `rate_in` meets its contract: one of 7 and 8 refuses, or the terms are rated.
-- Assumes nothing.
use mathlib.Core.Path.{sym, ap, subst, ◌∙◌}
use lib.ListN.{length}
use Rattle.meaning.specs.Free.{free_in}
use Rattle.meaning.proofs.Replies.{handed_on}
use Rattle.arith.specs.Represented.{field_of}
use Rattle.refusals.specs.Verdicts.{number_in}
use Rattle.rate_free.specs.Ratings.{FreeRatedAs}
use Rattle.rate_free.proofs.FreeAnswer.{terms_refused}
use Rattle.rate_free.proofs.rate_in.Goals as goal

pub rate_checked-requires : goal.rate_checked-requires
unfolding number_in
rate_checked-requires c = sym c.terms_verdict.ensures ∙ ap number_in c.in_ok-terms_verdict.was

pub returns-in_err-terms_verdict : goal.returns-in_err-terms_verdict
returns-in_err-terms_verdict c =
    let a = c.args in
    subst (λ r. FreeRatedAs (free_in (field_of a.field) a.terms.now (length a.answer.now) (length a.work.now))
    a.answer.now a.work.now r a.answer.now a.work.now)
    (sym (handed_on _ c.from_residual.ensures))
    (terms_refused _ _ _ _ c.terms_verdict.ensures c.in_err-terms_verdict.was)
