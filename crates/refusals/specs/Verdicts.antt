-- What the contracts of the verdicts cite beside crate meaning.
--
--   number_in v         == the number of the refusal that a verdict tells, or none
--   terms_table F ts    == the refusals 7 and 8, with which every way of rating begins in a field
--   factors_table F fs  == the refusals 9, 10 and 11 of the factors of a set
--   multiples_table F gs == the refusals 12 and 13 of the monic multiples of these
--   lent_table answer work == the refusal 16
--   powers_table l ts answer work == the refusals 14, 15 and 16, for factors with their upper powers
--   all_but_last table   == the table without its last condition
--   given_table F f ts, given_set_table F fs ts == what the terms and the factors as they are given meet: 7,
-- 8,
--                         10, 11; for a set 7 to 11
--   period_rest, set_rest == what the monic multiples, the upper powers and the lent bytes meet after that:
--                            12,
--                         16; 12 to 16
--   period_checks, set_checks == the tables of the two ways without 17, for monic multiples whose factors 10
--                         and 11 let pass
use Rattle.std.specs.Prelude.{ℕ, false, List, [], ◌∷◌, ◌++◌, length}
use Rattle.std.proofs.Math.Option.{Option, none, some}
use Rattle.meaning.specs.Search.{holds_for_some}
use Rattle.meaning.specs.Field.{Field}
use Rattle.meaning.specs.Polynomial.{Polynomial}
use Rattle.meaning.specs.Result.{Check}
use Rattle.meaning.specs.Conditions.{named, total_degree, count_out_of_range, term_out_of_field}
use Rattle.meaning.specs.Conditions.{factor_count_out_of_range, factor_degree_out_of_range}
use Rattle.meaning.specs.Conditions.{coefficient_out_of_range}
use Rattle.meaning.specs.Conditions.{is_reducible, two_equal, upper_powers_out_of_range, fewer_terms_than}
use Rattle.meaning.specs.Conditions.{lent_too_short}
use Rattle.meaning.specs.Irreducibility.{irreducible_table}
use Rattle.meaning.specs.Period.{period_table}
use Rattle.meaning.specs.Portion.{set_table}
use Rattle.meaning.specs.Answers.{number_of}
use Rattle.std.specs.Prelude.{Ok, Err}
use Rattle.meaning.specs.Answers.{Reply}

unfoldable pub number_in : Reply (Unit {0}) → Option ℕ
number_in (Ok u) = none
number_in (Err r) = some (number_of r)

unfoldable pub terms_table : Field → List ℕ → List Check
terms_table F ts =
    (7, λ _. count_out_of_range (length ts)) ∷ (8, λ _. term_out_of_field F ts) ∷ []

unfoldable pub factors_table : Field → List Polynomial → List Check
factors_table F fs =
    (9, λ _. factor_count_out_of_range (length fs))
    ∷ (10, λ _. holds_for_some (factor_degree_out_of_range F) fs)
    ∷ (11, λ _. holds_for_some (coefficient_out_of_range F) fs)
    ∷ []

unfoldable pub multiples_table : Field → List Polynomial → List Check
multiples_table F gs = (12, λ _. holds_for_some (is_reducible F) gs) ∷ (13, λ _. two_equal gs) ∷ []

unfoldable pub lent_table : ℕ → ℕ → List Check
lent_table answer work = (16, λ _. lent_too_short answer work) ∷ []

unfoldable pub powers_table : List (Polynomial × ℕ) → List ℕ → ℕ → ℕ → List Check
powers_table l ts answer work =
    (14, λ _. upper_powers_out_of_range l)
    ∷ (15, λ _. fewer_terms_than (total_degree l) ts)
    ∷ lent_table answer work

unfoldable pub all_but_last : {A : Type 0} → List A → List A
all_but_last [] = []
all_but_last (a ∷ l) = elim l [ [] ↦ [] | b ∷ m ↦ a ∷ all_but_last l ]

unfoldable pub given_table : Field → Polynomial → List ℕ → List Check
given_table F f ts = terms_table F ts ++ irreducible_table F f

unfoldable pub given_set_table : Field → List Polynomial → List ℕ → List Check
given_set_table F fs ts = terms_table F ts ++ factors_table F fs

unfoldable pub period_rest : Field → Polynomial → ℕ → ℕ → List Check
period_rest F g answer work = (12, λ _. is_reducible F g) ∷ lent_table answer work

unfoldable pub set_rest : Field → List Polynomial → List ℕ → List ℕ → ℕ → ℕ → List Check
set_rest F gs us ts answer work = multiples_table F gs ++ powers_table (named gs us) ts answer work

unfoldable pub period_checks : Field → Polynomial → List ℕ → ℕ → ℕ → List Check
period_checks F g ts answer work = all_but_last (period_table F false false g ts answer work)

unfoldable pub set_checks : Field → List Polynomial → List ℕ → List ℕ → ℕ → ℕ → List Check
set_checks F gs us ts answer work = all_but_last (set_table F false false (named gs us) ts answer work)
