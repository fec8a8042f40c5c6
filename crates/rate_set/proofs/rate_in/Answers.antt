-- `rate_in` meets its contract: what is given is refused, or the monic multiples are packed and rated.
-- Assumes nothing.
use Prim.Native.Nat.{ℕ, ◌-◌}
use mathlib.Core.Path.{◌≡◌, sym, subst, ◌∙◌}
use mathlib.Core.Bool.{false}
use mathlib.Core.List.{List, map}
use lib.ListN.{length, take, drop, length-replicate}
use native.Mathlib.Omega.{arith}
use Rattle.meaning.specs.Polynomial.{Polynomial, monic_multiple}
use Rattle.meaning.specs.Conditions.{named}
use Rattle.meaning.specs.Portion.{set_answer}
use Rattle.meaning.specs.Slices.{lists_of}
use Rattle.meaning.proofs.Slices.{lists_length}
use Rattle.arith.specs.Represented.{field_of}
use Rattle.arith.proofs.Represented.{field-is_field}
use Rattle.poly.proofs.parts.Splitting.{parts_first}
use Rattle.rate_set.specs.Ratings.{Checked, SetRatedAs}
use Rattle.rate_set.proofs.Given.{given-set_refused, given-set-packable}
use Rattle.rate_set.proofs.Given.{given-set_few, given_checked, given-set-rated}
use Rattle.meaning.specs.Portion.{set_in}
use Rattle.meaning.proofs.Replies.{handed_on}
use Rattle.rate_set.proofs.rate_in.Goals as goal

pub pack_multiples-lengths-requires : goal.pack_multiples-lengths-requires
pack_multiples-lengths-requires c =
    given-set-packable (field-is_field c.args.field) _ _ c.given_set_verdict.ensures
    c.in_ok-given_set_verdict.was (length-replicate {A = ℕ} 264 0)

pub slice_bounds-set-end : goal.slice_bounds-set-end
slice_bounds-set-end c =
    let fs = c.args.factors.now in
    omega (
      arith,
      given-set_few (field-is_field c.args.field) (lists_of fs) c.args.terms.now
          c.given_set_verdict.ensures c.in_ok-given_set_verdict.was,
      lists_length fs,
    )

pub rate_checked-requires : goal.rate_checked-requires
rate_checked-requires c =
    let multiples : lists_of (take (length c.args.factors.now - 0) (drop 0 c.nine_parts-multiples.result))
    ≡ map (monic_multiple (field_of c.args.field)) (lists_of c.args.factors.now) = let fs =
    c.args.factors.now in
    parts_first _ _ c.nine_parts-multiples.result (length fs) c.nine_parts-multiples.ensures
    ∙ c.pack_multiples-lengths.ensures in
    subst (λ gs. Checked (field_of c.args.field) gs c.args.terms.now) (sym multiples)
    (given_checked (field-is_field c.args.field) _ _ c.given_set_verdict.ensures
    c.in_ok-given_set_verdict.was)

pub returns-in_err-given_set_verdict : goal.returns-in_err-given_set_verdict
returns-in_err-given_set_verdict c =
    let a = c.args in
    subst (λ r. SetRatedAs (set_in (field_of a.field) (lists_of a.factors.now) a.uppers.now a.terms.now
    (length a.answer.now) (length a.work.now)) a.answer.now a.work.now r a.answer.now a.work.now)
    (sym (handed_on _ c.from_residual.ensures))
    (given-set_refused (field-is_field a.field) _ _ _ _ _ c.given_set_verdict.ensures
    c.in_err-given_set_verdict.was)

pub returns : goal.returns
returns c =
    let multiples : lists_of (take (length c.args.factors.now - 0) (drop 0 c.nine_parts-multiples.result))
    ≡ map (monic_multiple (field_of c.args.field)) (lists_of c.args.factors.now) = let fs =
    c.args.factors.now in
    parts_first _ _ c.nine_parts-multiples.result (length fs) c.nine_parts-multiples.ensures
    ∙ c.pack_multiples-lengths.ensures in
    given-set-rated (field-is_field c.args.field) _ _ _ _ _ c.given_set_verdict.ensures
    c.in_ok-given_set_verdict.was
    (subst
    (λ (gs : List Polynomial).
    SetRatedAs
    (set_answer (field_of c.args.field) false false (named gs c.args.uppers.now)
    c.args.terms.now
    (length c.args.answer.now) (length c.args.work.now))
    c.args.answer.now
    c.args.work.now
    c.rate_checked.result
    c.rate_checked.new.answer
    c.rate_checked.new.work)
    multiples
    c.rate_checked.ensures)
