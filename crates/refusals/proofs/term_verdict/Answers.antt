-- `term_verdict` meets its contract: each condition that does not hold is passed over.
-- Assumes nothing.
use mathlib.Core.Path.{sym, ◌∙◌}
use mathlib.Core.List.{List}
use Rattle.meaning.specs.Result.{Check}
use Rattle.meaning.specs.Answers.{number_of}
use Rattle.meaning.specs.Meter.{term_table}
use Rattle.arith.specs.Represented.{field_of}
use Rattle.refusals.specs.Verdicts.{number_in}
use Rattle.refusals.proofs.Order.{Passed, first_here, first_skip, first-nowhere}
use Rattle.refusals.proofs.term_verdict.Goals as goal

pub returns-then-term_out_of_field : goal.returns-then-term_out_of_field
unfolding number_in number_of term_table
returns-then-term_out_of_field c = first_here _ _ c.term_out_of_field.ensures c.if-term_out_of_field.true

pub returns-then-meter_full : goal.returns-then-meter_full
unfolding number_in number_of term_table
returns-then-meter_full c =
    let table : List Check = term_table (field_of c.args.field) c.args.held c.args.term in
    let passed-1 : Passed 1 table = first_skip _ _ c.term_out_of_field.ensures c.if-term_out_of_field.false in
    first_here _ _ c.meter_full.ensures c.if-meter_full.true ∙ sym passed-1

pub returns : goal.returns
unfolding number_in term_table
returns c =
    let table : List Check = term_table (field_of c.args.field) c.args.held c.args.term in
    let passed-1 : Passed 1 table = first_skip _ _ c.term_out_of_field.ensures c.if-term_out_of_field.false in
    let passed-2 : Passed 2 table = passed-1 ∙ first_skip _ _ c.meter_full.ensures c.if-meter_full.false in
    first-nowhere ∙ sym passed-2
