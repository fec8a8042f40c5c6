-- `free_verdict` meets its contract: the terms decide, or else the lent bytes.
-- Assumes nothing.
use mathlib.Core.Path.{sym, ap, ◌∙◌}
use mathlib.Core.List.{List}
use Rattle.meaning.specs.Result.{Check}
use Rattle.meaning.specs.Free.{free_table}
use Rattle.meaning.proofs.Replies.{handed_on}
use Rattle.arith.specs.Represented.{field_of}
use Rattle.refusals.specs.Verdicts.{number_in, terms_table, lent_table}
use Rattle.refusals.proofs.Order.{refused_before, accepted-before}
use Rattle.refusals.proofs.free_verdict.Goals as goal

pub returns-in_err-terms_verdict : goal.returns-in_err-terms_verdict
unfolding terms_table lent_table free_table
returns-in_err-terms_verdict c =
    let terms : List Check = terms_table (field_of c.args.field) c.args.terms.now in
    let rest : List Check = lent_table c.args.answer c.args.work in
    ap number_in (handed_on _ c.from_residual.ensures)
    ∙ refused_before terms rest c.terms_verdict.ensures c.in_err-terms_verdict.was

pub returns : goal.returns
unfolding terms_table lent_table free_table
returns c =
    let terms : List Check = terms_table (field_of c.args.field) c.args.terms.now in
    let rest : List Check = lent_table c.args.answer c.args.work in
    c.lent_verdict.ensures
    ∙ sym (accepted-before terms rest c.terms_verdict.ensures c.in_ok-terms_verdict.was)
