-- `written_factors_verdict` meets its contract: each condition that does not hold is passed over.
-- Assumes nothing.
use mathlib.Core.Path.{sym, ◌∙◌}
use mathlib.Core.List.{List}
use Rattle.std.proofs.Common.{rules, tests}
use Rattle.std.proofs.lemmas.Iterator.Consumers.{YieldsList-from_first}
use Rattle.std.proofs.lemmas.Iterator.Search.{any_from_yields_List}
use Rattle.meaning.specs.Result.{Check}
use Rattle.meaning.specs.Answers.{number_of}
use Rattle.meaning.specs.File.{file_factor, file_degree_out_of_range, file_coefficient_out_of_range}
use Rattle.arith.specs.Represented.{field_of}
use Rattle.route.specs.framing.Iterating.{bodies_left}
use Rattle.refusals.specs.Verdicts.{number_in}
use Rattle.refusals.proofs.Order.{Passed, first_here, first_skip, first-nowhere}
use Rattle.rate_file.specs.factors.Written.{bodies_in, factors_in, written_table}
use Rattle.rate_file.proofs.factors.Places.{some-factor}
use Rattle.rate_file.proofs.factors.written_factors_verdict.Goals as goal

pub returns-then-any : goal.returns-then-any
unfolding number_in number_of written_table
returns-then-any c =
    let file = c.args.file.now in
    let ten = file_degree_out_of_range (field_of c.args.field) in
    let all = YieldsList-from_first (λ y. y.now) bodies_left (bodies_in file) c.of-factors.ensures in
    let e = any_from_yields_List (λ body. ten (file_factor body)) c.any.new.self _ c.any.result
    c.any.ensures.ran all (λ x b q k. search (rules, tests)) ∙ some-factor ten file in
    first_here _ _ e c.if-any.true

pub returns-then-any-2 : goal.returns-then-any-2
unfolding number_in number_of written_table
returns-then-any-2 c =
    let file = c.args.file.now in
    let table : List Check = written_table (field_of c.args.field) (factors_in file) in
    let ten = file_degree_out_of_range (field_of c.args.field) in
    let eleven = file_coefficient_out_of_range (field_of c.args.field) in
    let all = YieldsList-from_first (λ y. y.now) bodies_left (bodies_in file) c.of-factors.ensures in
    let again = YieldsList-from_first (λ y. y.now) bodies_left (bodies_in file) c.of-factors-2.ensures in
    let e = any_from_yields_List (λ body. ten (file_factor body)) c.any.new.self _ c.any.result
    c.any.ensures.ran all (λ x b q k. search (rules, tests)) ∙ some-factor ten file in
    let f = any_from_yields_List (λ body. eleven (file_factor body)) c.any-2.new.self _ c.any-2.result
    c.any-2.ensures.ran again (λ x b q k. search (rules, tests)) ∙ some-factor eleven file in
    let passed : Passed 1 table = first_skip _ _ e c.if-any.false in
    first_here _ _ f c.if-any-2.true ∙ sym passed

pub returns : goal.returns
unfolding number_in written_table
returns c =
    let file = c.args.file.now in
    let table : List Check = written_table (field_of c.args.field) (factors_in file) in
    let ten = file_degree_out_of_range (field_of c.args.field) in
    let eleven = file_coefficient_out_of_range (field_of c.args.field) in
    let all = YieldsList-from_first (λ y. y.now) bodies_left (bodies_in file) c.of-factors.ensures in
    let again = YieldsList-from_first (λ y. y.now) bodies_left (bodies_in file) c.of-factors-2.ensures in
    let e = any_from_yields_List (λ body. ten (file_factor body)) c.any.new.self _ c.any.result
    c.any.ensures.ran all (λ x b q k. search (rules, tests)) ∙ some-factor ten file in
    let f = any_from_yields_List (λ body. eleven (file_factor body)) c.any-2.new.self _ c.any-2.result
    c.any-2.ensures.ran again (λ x b q k. search (rules, tests)) ∙ some-factor eleven file in
    let passed : Passed 1 table = first_skip _ _ e c.if-any.false in
    first-nowhere ∙ sym (passed ∙ first_skip _ _ f c.if-any-2.false)
