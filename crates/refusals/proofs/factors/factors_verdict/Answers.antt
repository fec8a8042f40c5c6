-- `factors::factors_verdict` meets its contract: each condition that does not hold is passed over.
-- Assumes nothing.
use mathlib.Core.Path.{◌≡◌, sym, ap, ◌∙◌}
use mathlib.Core.List.{List}
use lib.ListN.{length}
use Rattle.meaning.specs.Result.{Check}
use Rattle.meaning.specs.Answers.{number_of}
use Rattle.meaning.specs.Conditions.{factor_count_out_of_range}
use Rattle.meaning.specs.Slices.{lists_of}
use Rattle.meaning.proofs.Slices.{lists_length}
use Rattle.arith.specs.Represented.{field_of}
use Rattle.refusals.specs.Verdicts.{number_in, factors_table}
use Rattle.refusals.proofs.Order.{Passed, first_here, first_skip, first-nowhere}
use Rattle.refusals.proofs.factors.factors_verdict.Goals as goal

pub returns-then-factor_count_out_of_range : goal.returns-then-factor_count_out_of_range
unfolding number_in number_of factors_table
returns-then-factor_count_out_of_range c =
    let counted : c.factor_count_out_of_range.result
    ≡ factor_count_out_of_range (length (lists_of c.args.factors.now)) = c.factor_count_out_of_range.ensures
    ∙ ap factor_count_out_of_range (sym (lists_length c.args.factors.now)) in
    first_here _ _ counted c.if-factor_count_out_of_range.true

pub returns-then-some_degree_out_of_range : goal.returns-then-some_degree_out_of_range
unfolding number_in number_of factors_table
returns-then-some_degree_out_of_range c =
    let table : List Check = factors_table (field_of c.args.field) (lists_of c.args.factors.now) in
    let counted : c.factor_count_out_of_range.result
    ≡ factor_count_out_of_range (length (lists_of c.args.factors.now)) = c.factor_count_out_of_range.ensures
    ∙ ap factor_count_out_of_range (sym (lists_length c.args.factors.now)) in
    let passed-1 : Passed 1 table = first_skip _ _ counted c.if-factor_count_out_of_range.false in
    first_here _ _ c.some_degree_out_of_range.ensures c.if-some_degree_out_of_range.true
    ∙ sym passed-1

pub returns-then-some_coefficient_out_of_range : goal.returns-then-some_coefficient_out_of_range
unfolding number_in number_of factors_table
returns-then-some_coefficient_out_of_range c =
    let table : List Check = factors_table (field_of c.args.field) (lists_of c.args.factors.now) in
    let counted : c.factor_count_out_of_range.result
    ≡ factor_count_out_of_range (length (lists_of c.args.factors.now)) = c.factor_count_out_of_range.ensures
    ∙ ap factor_count_out_of_range (sym (lists_length c.args.factors.now)) in
    let passed-1 : Passed 1 table = first_skip _ _ counted c.if-factor_count_out_of_range.false in
    let passed-2 : Passed 2 table = passed-1
    ∙ first_skip _ _ c.some_degree_out_of_range.ensures c.if-some_degree_out_of_range.false in
    first_here _ _ c.some_coefficient_out_of_range.ensures c.if-some_coefficient_out_of_range.true
    ∙ sym passed-2

pub returns : goal.returns
unfolding number_in factors_table
returns c =
    let table : List Check = factors_table (field_of c.args.field) (lists_of c.args.factors.now) in
    let counted : c.factor_count_out_of_range.result
    ≡ factor_count_out_of_range (length (lists_of c.args.factors.now)) = c.factor_count_out_of_range.ensures
    ∙ ap factor_count_out_of_range (sym (lists_length c.args.factors.now)) in
    let passed-1 : Passed 1 table = first_skip _ _ counted c.if-factor_count_out_of_range.false in
    let passed-2 : Passed 2 table = passed-1
    ∙ first_skip _ _ c.some_degree_out_of_range.ensures c.if-some_degree_out_of_range.false in
    let passed-3 : Passed 3 table = passed-2
    ∙ first_skip _ _ c.some_coefficient_out_of_range.ensures c.if-some_coefficient_out_of_range.false in
    first-nowhere ∙ sym passed-3
