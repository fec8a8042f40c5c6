-- `rate_in` meets its contract: what is given is refused, or its monic multiple is rated.
-- Assumes nothing.
use mathlib.Core.Path.{sym, subst}
use lib.ListN.{length, replicate}
use Rattle.arith.specs.Represented.{field_of}
use Rattle.arith.proofs.Represented.{field-is_field}
use Rattle.rate_period.specs.Ratings.{Checked}
use Rattle.rate_period.proofs.Given.{given_checked, given-leads, given-short, given-front}
use Rattle.rate_period.proofs.Given.{given-room, given_refused, given-rated}
use Rattle.meaning.specs.Period.{period_in}
use Rattle.meaning.proofs.Replies.{handed_on}
use Rattle.rate_period.specs.Ratings.{RatedAs}
use Rattle.rate_period.proofs.rate_in.Goals as goal

pub returns-in_err-given_verdict : goal.returns-in_err-given_verdict
returns-in_err-given_verdict c =
    let a = c.args in
    subst (λ r. RatedAs (period_in (field_of a.field) a.factor.now a.terms.now (length a.answer.now)
    (length a.work.now)) a.answer.now a.work.now r a.answer.now a.work.now)
    (sym (handed_on _ c.from_residual.ensures))
    (given_refused (field-is_field a.field) _ _ _ _ c.given_verdict.ensures c.in_err-given_verdict.was)

pub monic_multiple-requires : goal.monic_multiple-requires
monic_multiple-requires c =
    let I = field-is_field c.args.field in
    let q = c.in_ok-given_verdict.was in
    record {
      leads = given-leads I _ _ c.given_verdict.ensures q;
      f_in_bounds = given-short I _ _ c.given_verdict.ensures q;
    }

pub slice_bounds-rate_checked-end : goal.slice_bounds-rate_checked-end
slice_bounds-rate_checked-end c =
    given-room (field-is_field c.args.field) _ _ c.given_verdict.ensures c.in_ok-given_verdict.was
    (replicate 33 0) c.monic_multiple.ensures

pub rate_checked-requires : goal.rate_checked-requires
rate_checked-requires c =
    let I = field-is_field c.args.field in
    let q = c.in_ok-given_verdict.was in
    subst (λ g. Checked (field_of c.args.field) g c.args.terms.now)
    (sym (given-front I _ _ c.given_verdict.ensures q (replicate 33 0) c.monic_multiple.ensures))
    (given_checked I _ _ c.given_verdict.ensures q)

pub returns : goal.returns
returns c =
    let I = field-is_field c.args.field in
    let q = c.in_ok-given_verdict.was in
    given-rated I _ _ _ _ c.given_verdict.ensures q
    (given-front I _ _ c.given_verdict.ensures q (replicate 33 0) c.monic_multiple.ensures)
    c.rate_checked.ensures
