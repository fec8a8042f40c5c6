-- `ratings::powers_verdict` meets its contract: each condition that does not hold is passed over.
-- Assumes nothing.
use Prim.Native.Nat.{ℕ}
use mathlib.Core.Path.{◌≡◌, sym, ap, ◌∙◌}
use mathlib.Core.List.{List}
use Rattle.meaning.specs.Result.{Check}
use Rattle.meaning.specs.Answers.{number_of}
use Rattle.meaning.specs.Polynomial.{Polynomial}
use Rattle.meaning.specs.Conditions.{named, total_degree, fewer_terms_than}
use Rattle.meaning.specs.Slices.{lists_of}
use Rattle.poly.proofs.factors.Totals.{total-known}
use Rattle.refusals.specs.Verdicts.{number_in, powers_table}
use Rattle.refusals.proofs.Order.{Passed, first_here, first_skip}
use Rattle.refusals.proofs.ratings.powers_verdict.Goals as goal

pub returns-then-upper_powers_out_of_range : goal.returns-then-upper_powers_out_of_range
unfolding number_in number_of powers_table
returns-then-upper_powers_out_of_range c =
    first_here _ _ c.upper_powers_out_of_range.ensures c.if-upper_powers_out_of_range.true

pub returns-then-fewer_terms_than : goal.returns-then-fewer_terms_than
unfolding number_in number_of powers_table
returns-then-fewer_terms_than c =
    let pairs : List (Polynomial × ℕ) = named (lists_of c.args.set.factors.now) c.args.set.powers.now in
    let counted : c.fewer_terms_than.result
    ≡ fewer_terms_than (total_degree pairs) c.args.terms.now = let passed =
    sym c.upper_powers_out_of_range.ensures ∙ c.if-upper_powers_out_of_range.false in
    c.fewer_terms_than.ensures
    ∙ ap (λ (d : ℕ). fewer_terms_than d c.args.terms.now)
    (c.total_degree.ensures ∙ (total-known _ passed).1) in
    let table : List Check = powers_table pairs c.args.terms.now c.args.answer c.args.work in
    let passed-1 : Passed 1 table =
    first_skip _ _ c.upper_powers_out_of_range.ensures c.if-upper_powers_out_of_range.false in
    first_here _ _ counted c.if-fewer_terms_than.true
    ∙ sym passed-1

pub returns : goal.returns
unfolding powers_table
returns c =
    let pairs : List (Polynomial × ℕ) = named (lists_of c.args.set.factors.now) c.args.set.powers.now in
    let table : List Check = powers_table pairs c.args.terms.now c.args.answer c.args.work in
    let passed-1 : Passed 1 table =
    first_skip _ _ c.upper_powers_out_of_range.ensures c.if-upper_powers_out_of_range.false in
    let counted : c.fewer_terms_than.result
    ≡ fewer_terms_than (total_degree pairs) c.args.terms.now = let passed =
    sym c.upper_powers_out_of_range.ensures ∙ c.if-upper_powers_out_of_range.false in
    c.fewer_terms_than.ensures
    ∙ ap (λ (d : ℕ). fewer_terms_than d c.args.terms.now)
    (c.total_degree.ensures ∙ (total-known _ passed).1) in
    let passed-2 : Passed 2 table = passed-1
    ∙ first_skip _ _ counted c.if-fewer_terms_than.false in
    c.lent_verdict.ensures ∙ sym passed-2
