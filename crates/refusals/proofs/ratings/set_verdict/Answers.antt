-- `ratings::set_verdict` meets its contract: the multiples decide, or else the rest.
-- Assumes nothing.
use mathlib.Core.Path.{sym, ap, ◌∙◌}
use mathlib.Core.List.{List}
use Rattle.meaning.specs.Result.{Check}
use Rattle.meaning.specs.Conditions.{named}
use Rattle.meaning.specs.Slices.{lists_of}
use Rattle.refusals.specs.Verdicts.{number_in, multiples_table, powers_table, set_rest}
use Rattle.meaning.proofs.Replies.{handed_on}
use Rattle.arith.specs.Represented.{field_of}
use Rattle.refusals.proofs.Order.{refused_before, accepted-before}
use Rattle.refusals.proofs.ratings.set_verdict.Goals as goal

pub returns-in_err-multiples_verdict : goal.returns-in_err-multiples_verdict
unfolding set_rest
returns-in_err-multiples_verdict c =
    let before : List Check = multiples_table (field_of c.args.field) (lists_of c.args.set.factors.now) in
    let after : List Check = powers_table (named (lists_of c.args.set.factors.now) c.args.set.powers.now)
    c.args.terms.now
    c.args.answer
    c.args.work in
    ap number_in (handed_on _ c.from_residual.ensures)
    ∙ refused_before before after c.multiples_verdict.ensures c.in_err-multiples_verdict.was

pub returns : goal.returns
unfolding set_rest
returns c =
    let before : List Check = multiples_table (field_of c.args.field) (lists_of c.args.set.factors.now) in
    let after : List Check = powers_table (named (lists_of c.args.set.factors.now) c.args.set.powers.now)
    c.args.terms.now
    c.args.answer
    c.args.work in
    c.powers_verdict.ensures
    ∙ sym (accepted-before before after c.multiples_verdict.ensures c.in_ok-multiples_verdict.was)
