-- `ratings::given_verdict` meets its contract: the terms decide, or else the factor.
-- Assumes nothing.
use mathlib.Core.Path.{sym, ap, ◌∙◌}
use mathlib.Core.List.{List}
use Rattle.meaning.specs.Result.{Check}
use Rattle.meaning.specs.Irreducibility.{irreducible_table}
use Rattle.refusals.specs.Verdicts.{number_in, terms_table, given_table}
use Rattle.meaning.proofs.Replies.{handed_on}
use Rattle.arith.specs.Represented.{field_of}
use Rattle.refusals.proofs.Order.{refused_before, accepted-before}
use Rattle.refusals.proofs.ratings.given_verdict.Goals as goal

pub returns-in_err-terms_verdict : goal.returns-in_err-terms_verdict
unfolding given_table
returns-in_err-terms_verdict c =
    let before : List Check = terms_table (field_of c.args.field) c.args.terms.now in
    let after : List Check = irreducible_table (field_of c.args.field) c.args.factor.now in
    ap number_in (handed_on _ c.from_residual.ensures)
    ∙ refused_before before after c.terms_verdict.ensures c.in_err-terms_verdict.was

pub returns : goal.returns
unfolding given_table
returns c =
    let before : List Check = terms_table (field_of c.args.field) c.args.terms.now in
    let after : List Check = irreducible_table (field_of c.args.field) c.args.factor.now in
    c.factor_verdict.ensures
    ∙ sym (accepted-before before after c.terms_verdict.ensures c.in_ok-terms_verdict.was)
