-- `factors::factor_verdict` meets its contract: each condition that does not hold is passed over.
-- Assumes nothing.
use mathlib.Core.Path.{sym, ◌∙◌}
use mathlib.Core.List.{List}
use Rattle.meaning.specs.Result.{Check}
use Rattle.meaning.specs.Answers.{number_of}
use Rattle.meaning.specs.Irreducibility.{irreducible_table}
use Rattle.arith.specs.Represented.{field_of}
use Rattle.refusals.specs.Verdicts.{number_in}
use Rattle.refusals.proofs.Order.{Passed, first_here, first_skip, first-nowhere}
use Rattle.refusals.proofs.factors.factor_verdict.Goals as goal

pub returns-then-factor_degree_out_of_range : goal.returns-then-factor_degree_out_of_range
unfolding number_in number_of irreducible_table
returns-then-factor_degree_out_of_range c =
    first_here _ _ c.factor_degree_out_of_range.ensures c.if-factor_degree_out_of_range.true

pub returns-then-coefficient_out_of_range : goal.returns-then-coefficient_out_of_range
unfolding number_in number_of irreducible_table
returns-then-coefficient_out_of_range c =
    let table : List Check = irreducible_table (field_of c.args.field) c.args.factor.now in
    let passed-1 : Passed 1 table =
    first_skip _ _ c.factor_degree_out_of_range.ensures c.if-factor_degree_out_of_range.false in
    first_here _ _ c.coefficient_out_of_range.ensures c.if-coefficient_out_of_range.true
    ∙ sym passed-1

pub returns : goal.returns
unfolding number_in irreducible_table
returns c =
    let table : List Check = irreducible_table (field_of c.args.field) c.args.factor.now in
    let passed-1 : Passed 1 table =
    first_skip _ _ c.factor_degree_out_of_range.ensures c.if-factor_degree_out_of_range.false in
    let passed-2 : Passed 2 table = passed-1
    ∙ first_skip _ _ c.coefficient_out_of_range.ensures c.if-coefficient_out_of_range.false in
    first-nowhere ∙ sym passed-2
