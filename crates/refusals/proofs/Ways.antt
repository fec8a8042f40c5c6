-- The tables of the two ways with factors by their parts: what is given, then the rest, then 17.
--
--   period-parts, set-parts == the table for a factor, or factors, and what stands for them
--   period-rest, set_rest_lem == where 7 to 11 pass, the rest decides all but 17
-- Assumes nothing.
use Prim.Native.Nat.{ℕ}
use mathlib.Core.Path.{◌≡◌, refl, ap, ◌∙◌}
use mathlib.Core.Bool.{false, not}
use mathlib.Core.List.{List, [], ◌∷◌, ◌++◌}
use lib.ListN.{length}
use Rattle.meaning.specs.Search.{holds_for_some, is_none}
use Rattle.meaning.specs.Field.{Field}
use Rattle.meaning.specs.Polynomial.{Polynomial, product}
use Rattle.meaning.specs.Sequence.{annihilates_known}
use Rattle.meaning.specs.Result.{first_of}
use Rattle.meaning.specs.Conditions.{named, count_out_of_range, term_out_of_field, factor_count_out_of_range}
use Rattle.meaning.specs.Conditions.{factor_degree_out_of_range, coefficient_out_of_range}
use Rattle.meaning.specs.Period.{period_table, period_power}
use Rattle.meaning.specs.Portion.{set_table}
use Rattle.meaning.proofs.Tables.{first_of_skip}
use Rattle.bridge.proofs.Lists.Products.{length-named, factors_of-named}
use Rattle.meaning.specs.Irreducibility.{irreducible_table}
use Rattle.refusals.specs.Verdicts.{terms_table, factors_table, multiples_table}
use Rattle.refusals.specs.Verdicts.{powers_table, lent_table, all_but_last, given_table, given_set_table}
use Rattle.refusals.specs.Verdicts.{period_rest, set_rest, period_checks, set_checks}

module _ (F : Field) (ts : List ℕ) (answer work : ℕ) where
  pub period-parts : (f g : Polynomial)
      → period_table F (factor_degree_out_of_range F f) (coefficient_out_of_range F f) g ts answer
      work
      ≡ given_table F f ts
      ++ (period_rest F g answer work ++ ((17, λ _. is_none (period_power F g ts)) ∷ []))
  unfolding period_table given_table terms_table irreducible_table period_rest lent_table
  period-parts f g = refl

  -- 9, 12 and 13 of the set way look at the factors with their upper powers
  pub set-parts : (fs gs : List Polynomial) (us : List ℕ)
      → length gs ≡ length fs
      → set_table F
      (holds_for_some (factor_degree_out_of_range F) fs)
      (holds_for_some (coefficient_out_of_range F) fs)
      (named gs us)
      ts
      answer
      work
      ≡ given_set_table F fs ts
      ++ (set_rest F gs us ts answer work
      ++ ((17, λ _. not (annihilates_known F (product F (named gs us)) ts)) ∷ []))
  unfolding set_table given_set_table terms_table factors_table set_rest multiples_table powers_table
      lent_table
  set-parts fs gs us e = simp (length-named, factors_of-named, e)

  -- where 7, 8 and, of a set, 9 pass
  module _ (seven : count_out_of_range (length ts) ≡ false)
      (eight : term_out_of_field F ts ≡ false) where
    pub period-rest : (g : Polynomial)
        → first_of (period_checks F g ts answer work) ≡ first_of (period_rest F g answer work)
    unfolding period_checks all_but_last period_table period_rest lent_table
    period-rest g =
        first_of_skip _ _ seven
        ∙ first_of_skip _ _ eight
        ∙ first_of_skip _ _ refl
        ∙ first_of_skip _ _ refl

    pub set_rest_lem : (gs : List Polynomial) (us : List ℕ)
        → factor_count_out_of_range (length gs) ≡ false
        → first_of (set_checks F gs us ts answer work) ≡ first_of (set_rest F gs us ts answer work)
    unfolding set_checks all_but_last set_table set_rest multiples_table powers_table lent_table
    set_rest_lem gs us nine =
        first_of_skip _ _ seven
        ∙ first_of_skip _ _ eight
        ∙ first_of_skip _ _ (ap factor_count_out_of_range (length-named gs us) ∙ nine)
        ∙ first_of_skip _ _ refl
        ∙ first_of_skip _ _ refl
        ∙ simp (factors_of-named)
