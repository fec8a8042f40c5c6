-- `factors::multiples_verdict` meets its contract: each condition that does not hold is passed over.
-- Assumes nothing.
use mathlib.Core.Path.{sym, ◌∙◌}
use mathlib.Core.List.{List}
use Rattle.meaning.specs.Result.{Check}
use Rattle.meaning.specs.Answers.{number_of}
use Rattle.meaning.specs.Slices.{lists_of}
use Rattle.arith.specs.Represented.{field_of}
use Rattle.refusals.specs.Verdicts.{number_in, multiples_table}
use Rattle.refusals.proofs.Order.{Passed, first_here, first_skip, first-nowhere}
use Rattle.refusals.proofs.factors.multiples_verdict.Goals as goal

pub returns-then-some_reducible : goal.returns-then-some_reducible
unfolding number_in number_of multiples_table
returns-then-some_reducible c = first_here _ _ c.some_reducible.ensures c.if-some_reducible.true

pub returns-then-two_equal : goal.returns-then-two_equal
unfolding number_in number_of multiples_table
returns-then-two_equal c =
    let table : List Check = multiples_table (field_of c.args.field) (lists_of c.args.multiples.now) in
    let passed-1 : Passed 1 table = first_skip _ _ c.some_reducible.ensures c.if-some_reducible.false in
    first_here _ _ c.two_equal.ensures c.if-two_equal.true
    ∙ sym passed-1

pub returns : goal.returns
unfolding number_in multiples_table
returns c =
    let table : List Check = multiples_table (field_of c.args.field) (lists_of c.args.multiples.now) in
    let passed-1 : Passed 1 table = first_skip _ _ c.some_reducible.ensures c.if-some_reducible.false in
    let passed-2 : Passed 2 table = passed-1
    ∙ first_skip _ _ c.two_equal.ensures c.if-two_equal.false in
    first-nowhere ∙ sym passed-2
