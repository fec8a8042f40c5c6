-- `rate_checked` meets its contract: the verdict refuses, or the search finds no powers, which is 17, or
-- the powers that are found are written as a product. Assumes nothing.
use mathlib.Core.Path.{sym, subst}
use mathlib.Core.Bool.{false}
use lib.ListN.{length}
use Rattle.meaning.specs.Conditions.{named}
use Rattle.meaning.specs.Portion.{set_answer}
use Rattle.meaning.specs.Slices.{lists_of}
use Rattle.meaning.proofs.Slices.{lists_length}
use Rattle.meaning.proofs.Replies.{handed_on}
use Rattle.arith.specs.Represented.{field_of}
use Rattle.arith.proofs.Represented.{field-is_field}
use Rattle.rate_set.specs.Ratings.{SetRatedAs}
use Rattle.rate_set.proofs.Powered.{accepted-at}
use Rattle.rate_set.proofs.SetWay.{set_refused, set-seventeen, set-rated, set-lent, set-input}
use Rattle.rate_set.proofs.SetWay.{set-powers-input, set-powered}
use Rattle.rate_set.proofs.rate_checked.Goals as goal

pub returns-in_err-set_verdict : goal.returns-in_err-set_verdict
returns-in_err-set_verdict c =
    let a = c.args in
    subst (λ r. SetRatedAs (set_answer (field_of a.field) false false
    (named (lists_of a.set.factors.now) a.set.powers.now) a.terms.now
    (length a.answer.now) (length a.work.now)) a.answer.now a.work.now r a.answer.now a.work.now)
    (sym (handed_on _ c.from_residual.ensures))
    (set_refused _ _ _ _ _ _ c.requires c.set_verdict.ensures c.in_err-set_verdict.was)

pub returns-in_default : goal.returns-in_default
returns-in_default c =
    set-seventeen _ _ _ _ _ _ c.requires c.set_verdict.ensures c.in_ok-set_verdict.was
    (field-is_field c.args.field) c.set_powers.ensures.told
    c.set_powers.ensures.work
    c.in_default.is

pub set_verdict-requires : goal.set_verdict-requires
set_verdict-requires c = accepted-at c.requires

pub set_powers-requires : goal.set_powers-requires
set_powers-requires c =
    let q = c.in_ok-set_verdict.was in record {
      in_bounds = (set-lent _ _ _ _ _ _ c.requires c.set_verdict.ensures q).1;
      set_input = set-input _ _ _ _ _ _ c.requires c.set_verdict.ensures q;
    }

pub write_product-degree-requires : goal.write_product-degree-requires
write_product-degree-requires c =
    let q = c.in_ok-set_verdict.was in record {
      in_bounds = (set-lent _ _ _ _ _ _ c.requires c.set_verdict.ensures q).0;
      product_input = set-powers-input _ _ _ _ _ _ c.requires c.set_verdict.ensures q
          (field-is_field c.args.field) c.set_powers.ensures.told c.in-Some.is;
    }

pub repeat_length-repeat-requires : goal.repeat_length-repeat-requires
repeat_length-repeat-requires c =
    let q = c.in_ok-set_verdict.was in
    set-powered c.args.field c.requires
    (set-input _ _ _ _ _ _ c.requires c.set_verdict.ensures q)
    (set-powers-input _ _ _ _ _ _ c.requires c.set_verdict.ensures q
    (field-is_field c.args.field) c.set_powers.ensures.told c.in-Some.is)

pub returns : goal.returns
returns c =
    set-rated _ _ _ _ _ _ c.requires c.set_verdict.ensures c.in_ok-set_verdict.was
    (field-is_field c.args.field) c.set_powers.ensures.told
    c.set_powers.ensures.work
    c.in-Some.is
    (sym (lists_length _))
    c.write_product-degree.ensures
    c.repeat_length-repeat.ensures
