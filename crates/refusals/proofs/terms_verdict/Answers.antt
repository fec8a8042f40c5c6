-- `terms_verdict` meets its contract: each condition that does not hold is passed over.
-- Assumes nothing.
use mathlib.Core.Path.{sym, ◌∙◌}
use mathlib.Core.List.{List}
use Rattle.meaning.specs.Result.{Check}
use Rattle.meaning.specs.Answers.{number_of}
use Rattle.arith.specs.Represented.{field_of}
use Rattle.refusals.specs.Verdicts.{number_in, terms_table}
use Rattle.refusals.proofs.Order.{Passed, first_here, first_skip, first-nowhere}
use Rattle.refusals.proofs.terms_verdict.Goals as goal

pub returns-then-count_out_of_range : goal.returns-then-count_out_of_range
unfolding number_in number_of terms_table
returns-then-count_out_of_range c = first_here _ _ c.count_out_of_range.ensures c.if-count_out_of_range.true

pub returns-then-term_out_of_field : goal.returns-then-term_out_of_field
unfolding number_in number_of terms_table
returns-then-term_out_of_field c =
    let table : List Check = terms_table (field_of c.args.field) c.args.terms.now in
    let passed-1 : Passed 1 table =
    first_skip _ _ c.count_out_of_range.ensures c.if-count_out_of_range.false in
    first_here _ _ c.term_out_of_field.ensures c.if-term_out_of_field.true
    ∙ sym passed-1

pub returns : goal.returns
unfolding number_in terms_table
returns c =
    let table : List Check = terms_table (field_of c.args.field) c.args.terms.now in
    let passed-1 : Passed 1 table =
    first_skip _ _ c.count_out_of_range.ensures c.if-count_out_of_range.false in
    let passed-2 : Passed 2 table = passed-1
    ∙ first_skip _ _ c.term_out_of_field.ensures c.if-term_out_of_field.false in
    first-nowhere ∙ sym passed-2
