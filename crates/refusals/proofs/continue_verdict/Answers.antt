-- `continue_verdict` meets its contract: each condition that does not hold is passed over.
-- Assumes nothing.
use mathlib.Core.Path.{sym, ◌∙◌}
use mathlib.Core.List.{List}
use Rattle.meaning.specs.Result.{Check}
use Rattle.meaning.specs.Answers.{number_of}
use Rattle.meaning.specs.Continuation.{continue_table}
use Rattle.arith.specs.Represented.{field_of}
use Rattle.refusals.specs.Verdicts.{number_in}
use Rattle.refusals.proofs.Order.{Passed, first_here, first_skip, first-nowhere}
use Rattle.refusals.proofs.continue_verdict.Goals as goal

pub returns-then-place_out_of_range : goal.returns-then-place_out_of_range
unfolding number_in number_of continue_table
returns-then-place_out_of_range c = first_here _ _ c.place_out_of_range.ensures c.if-place_out_of_range.true

pub returns-then-term_out_of_field : goal.returns-then-term_out_of_field
unfolding number_in number_of continue_table
returns-then-term_out_of_field c =
    let table : List Check = continue_table (field_of c.args.field) c.args.polynomial.now c.args.start.now
    c.args.place c.args.size in
    let passed-1 : Passed 1 table =
    first_skip _ _ c.place_out_of_range.ensures c.if-place_out_of_range.false in
    first_here _ _ c.term_out_of_field.ensures c.if-term_out_of_field.true
    ∙ sym passed-1

pub returns-then-continuation_degree_out_of_range : goal.returns-then-continuation_degree_out_of_range
unfolding number_in number_of continue_table
returns-then-continuation_degree_out_of_range c =
    let table : List Check = continue_table (field_of c.args.field) c.args.polynomial.now c.args.start.now
    c.args.place c.args.size in
    let passed-1 : Passed 1 table =
    first_skip _ _ c.place_out_of_range.ensures c.if-place_out_of_range.false in
    let passed-2 : Passed 2 table = passed-1
    ∙ first_skip _ _ c.term_out_of_field.ensures c.if-term_out_of_field.false in
    first_here _ _ c.continuation_degree_out_of_range.ensures c.if-continuation_degree_out_of_range.true
    ∙ sym passed-2

pub returns-then-coefficient_out_of_range : goal.returns-then-coefficient_out_of_range
unfolding number_in number_of continue_table
returns-then-coefficient_out_of_range c =
    let table : List Check = continue_table (field_of c.args.field) c.args.polynomial.now c.args.start.now
    c.args.place c.args.size in
    let passed-1 : Passed 1 table =
    first_skip _ _ c.place_out_of_range.ensures c.if-place_out_of_range.false in
    let passed-2 : Passed 2 table = passed-1
    ∙ first_skip _ _ c.term_out_of_field.ensures c.if-term_out_of_field.false in
    let passed-3 : Passed 3 table = passed-2
    ∙ first_skip _ _ c.continuation_degree_out_of_range.ensures c.if-continuation_degree_out_of_range.false in
    first_here _ _ c.coefficient_out_of_range.ensures c.if-coefficient_out_of_range.true
    ∙ sym passed-3

pub returns-then-start_unlike_degree : goal.returns-then-start_unlike_degree
unfolding number_in number_of continue_table
returns-then-start_unlike_degree c =
    let table : List Check = continue_table (field_of c.args.field) c.args.polynomial.now c.args.start.now
    c.args.place c.args.size in
    let passed-1 : Passed 1 table =
    first_skip _ _ c.place_out_of_range.ensures c.if-place_out_of_range.false in
    let passed-2 : Passed 2 table = passed-1
    ∙ first_skip _ _ c.term_out_of_field.ensures c.if-term_out_of_field.false in
    let passed-3 : Passed 3 table = passed-2
    ∙ first_skip _ _ c.continuation_degree_out_of_range.ensures c.if-continuation_degree_out_of_range.false in
    let passed-4 : Passed 4 table = passed-3
    ∙ first_skip _ _ c.coefficient_out_of_range.ensures c.if-coefficient_out_of_range.false in
    first_here _ _ c.start_unlike_degree.ensures c.if-start_unlike_degree.true
    ∙ sym passed-4

pub returns : goal.returns
unfolding number_in continue_table
returns c =
    let table : List Check = continue_table (field_of c.args.field) c.args.polynomial.now c.args.start.now
    c.args.place c.args.size in
    let passed-1 : Passed 1 table =
    first_skip _ _ c.place_out_of_range.ensures c.if-place_out_of_range.false in
    let passed-2 : Passed 2 table = passed-1
    ∙ first_skip _ _ c.term_out_of_field.ensures c.if-term_out_of_field.false in
    let passed-3 : Passed 3 table = passed-2
    ∙ first_skip _ _ c.continuation_degree_out_of_range.ensures c.if-continuation_degree_out_of_range.false in
    let passed-4 : Passed 4 table = passed-3
    ∙ first_skip _ _ c.coefficient_out_of_range.ensures c.if-coefficient_out_of_range.false in
    let passed-5 : Passed 5 table = passed-4
    ∙ first_skip _ _ c.start_unlike_degree.ensures c.if-start_unlike_degree.false in
    first-nowhere ∙ sym passed-5
