-- The rating by each mode, from the verdict on the terms (7, 8) and that on the factors as the file writes
-- them (10, 11): refused by the first that refuses, else the answer of the mode's way on the polynomials.
--
--   mode-terms       == the terms are refused, in any mode
--   period-factors, set-factors == the terms are accepted and the factors refused
--   period-way, set-way == both are accepted: the answer of the way past 11
--   period_checked, set_checked == so its polynomials are what the ways past 11 ask
-- Assumes nothing.
use Prim.Native.Nat.{ℕ, ◌≤◌, ◌<◌}
use native.Mathlib.Omega.{arith}
use mathlib.Core.Path.{◌≡◌, refl, sym, ap, ◌∙◌}
use mathlib.Core.Bool.{Bool, false, not}
use mathlib.Core.List.{List, [], ◌∷◌, ◌++◌, map}
use lib.ListN.{length, get_or, length-map}
use borrow.Author.Tests.{ne_eqb, le-ltb}
use Rattle.meaning.specs.declared.Refusal.{Refusal}
use Rattle.meaning.specs.Search.{holds_for_some, is_none}
use Rattle.meaning.specs.Field.{Field}
use Rattle.meaning.specs.Polynomial.{Polynomial, product}
use Rattle.meaning.specs.Sequence.{annihilates_known}
use Rattle.meaning.specs.Conditions.{named, total_degree, factor_count_out_of_range}
use Rattle.meaning.specs.Conditions.{factor_degree_out_of_range}
use Rattle.meaning.specs.Conditions.{not_monic, is_reducible, two_equal, upper_powers_out_of_range}
use Rattle.meaning.specs.Conditions.{fewer_terms_than}
use Rattle.meaning.specs.Conditions.{lent_too_short}
use Rattle.meaning.specs.Result.{refused, Check, first_of}
use Rattle.meaning.specs.Period.{period_table, period_power, period_answer}
use Rattle.meaning.specs.Portion.{factors_of, set_table, set_answer}
use Rattle.meaning.specs.Free.{free_table, free_in}
use Rattle.meaning.specs.Route.{Mode, period_mode, set_mode, free_mode}
use Rattle.meaning.specs.File.{WrittenFactor, polynomial_of, file_degree_out_of_range}
use Rattle.meaning.specs.File.{file_coefficient_out_of_range}
use Rattle.meaning.specs.File.{of_period, of_set, of_free, rate_mode}
use Rattle.std.specs.Prelude.{Ok, Err}
use Rattle.meaning.specs.Answers.{Reply, number_of}
use Rattle.meaning.proofs.Passes.{Passes}
use Rattle.bridge.proofs.Basics.Interpretation.{IsField}
use Rattle.bridge.proofs.Basics.Searches.{none-at}
use Rattle.bridge.proofs.Files.WrittenFactors.{AllFull, named-map, polynomials-ten, polynomials-eleven}
use Rattle.refusals.specs.Verdicts.{number_in, terms_table}
use Rattle.refusals.proofs.Order.{first_skip, refused_before, refused_second}
use Rattle.refusals.proofs.Settled.{settle_refused, verdict_passes}
use Rattle.rate_period.specs.Ratings as period
use Rattle.rate_set.specs.Ratings as set
use Rattle.rate_file.specs.factors.Written.{written_table}

count-passes : (n : ℕ) → 1 ≤ n → n ≤ 8 → factor_count_out_of_range n ≡ false
unfolding factor_count_out_of_range
count-passes n l u = rw (ne_eqb n 0 (λ e. omega arith), le-ltb 8 n u)

module _ {F : Field} (I : IsField F) (fs : List WrittenFactor) (ts : List ℕ) (answer work : ℕ) where
  abbrev first : Polynomial
  first = get_or (map polynomial_of fs) 0 []

  abbrev pairs : List (Polynomial × ℕ)
  pairs = map (λ f. (polynomial_of f, f.upper)) fs

  abbrev ten : Bool
  ten = holds_for_some (file_degree_out_of_range F) fs

  abbrev eleven : Bool
  eleven = holds_for_some (file_coefficient_out_of_range F) fs

  -- the tables by their parts: 7, 8; 9, 10 and 11; the others
  period_rest : List Check
  period_rest =
      (12, λ _. is_reducible F first)
      ∷ (16, λ _. lent_too_short answer work)
      ∷ (17, λ _. is_none (period_power F first ts))
      ∷ []

  period-parts : period_table F ten eleven first ts answer work
      ≡ terms_table F ts ++ (written_table F fs ++ period_rest)
  unfolding period_table terms_table written_table period_rest
  period-parts = refl

  set_rest : List Check
  set_rest =
      (12, λ _. holds_for_some (is_reducible F) (factors_of pairs))
      ∷ (13, λ _. two_equal (factors_of pairs))
      ∷ (14, λ _. upper_powers_out_of_range pairs)
      ∷ (15, λ _. fewer_terms_than (total_degree pairs) ts)
      ∷ (16, λ _. lent_too_short answer work)
      ∷ (17, λ _. not (annihilates_known F (product F pairs) ts))
      ∷ []

  counted : List Check
  counted = (9, λ _. factor_count_out_of_range (length pairs)) ∷ written_table F fs

  set-parts : set_table F ten eleven pairs ts answer work ≡ terms_table F ts ++ (counted ++ set_rest)
  unfolding set_table terms_table written_table counted set_rest
  set-parts = refl

  free-parts : free_table F ts answer work ≡ terms_table F ts ++ ((16, λ _. lent_too_short answer work) ∷ [])
  unfolding free_table terms_table
  free-parts = refl

  counted_skip : 1 ≤ length fs → length fs ≤ 8 → first_of counted ≡ first_of (written_table F fs)
  unfolding counted
  counted_skip low high = first_skip _ _ refl (rw length-map (count-passes (length fs) low high))

  -- u is the verdict on the terms
  module _ {u : Reply (Unit {0})} (eu : number_in u ≡ first_of (terms_table F ts)) where
    early : {x : Refusal} (T B : List Check) → T ≡ terms_table F ts ++ B → u ≡ Err x
        → number_in (Err x) ≡ first_of T
    early T B e q = refused_before (terms_table F ts) B eu q ∙ sym (ap first_of e)

    pub mode-terms : (m : Mode) {x : Refusal} → u ≡ Err x
        → rate_mode m F fs ts answer work ≡ refused (number_of x)
    unfolding rate_mode period_answer set_answer free_in of_period of_set of_free
    mode-terms period_mode q =
        ap of_period (settle_refused _ _ (early _ _ period-parts q) refl)
    mode-terms set_mode q = ap (of_set (length ts)) (settle_refused _ _ (early _ _ set-parts q) refl)
    mode-terms free_mode q = ap (of_free (length ts)) (settle_refused _ _ (early _ _ free-parts q) refl)

    module _ (accepted : u ≡ Ok tt) where
      terms : Passes (terms_table F ts)
      terms = verdict_passes (terms_table F ts) eu accepted

      -- the terms are accepted, and v is the verdict on the factors
      module _ {v : Reply (Unit {0})} (ev : number_in v ≡ first_of (written_table F fs)) where
        pub period-factors : {x : Refusal} → v ≡ Err x
            → rate_mode period_mode F fs ts answer work ≡ refused (number_of x)
        unfolding rate_mode period_answer of_period
        period-factors q =
            ap of_period
            (settle_refused _ _
            (refused_second (terms_table F ts) (written_table F fs) period_rest eu ev accepted q
            ∙ sym (ap first_of period-parts))
            refl)

        pub set-factors : {x : Refusal} → 1 ≤ length fs → length fs ≤ 8
            → v ≡ Err x
            → rate_mode set_mode F fs ts answer work ≡ refused (number_of x)
        unfolding rate_mode set_answer of_set
        set-factors low high q =
            ap (of_set (length ts))
            (settle_refused _ _
            (refused_second (terms_table F ts) counted set_rest eu (ev ∙ sym (counted_skip low high))
            accepted q
            ∙ sym (ap first_of set-parts))
            refl)

        -- the factors are accepted too
        module _ (q : v ≡ Ok tt) where
          passes : Passes (written_table F fs)
          passes = verdict_passes (written_table F fs) ev q

          pub period-way : rate_mode period_mode F fs ts answer work
              ≡ of_period (period_answer F false false first ts answer work)
          unfolding rate_mode written_table
          period-way = rw (passes.degrees_in_range, passes.coefficients_in_range)

          pub set-way : rate_mode set_mode F fs ts answer work
              ≡ of_set (length ts)
              (set_answer F false false (named (map polynomial_of fs) (map (λ f. f.upper) fs)) ts answer work)
          unfolding rate_mode written_table
          set-way = rw (passes.degrees_in_range, passes.coefficients_in_range, named-map)

          -- so their polynomials are accepted, and monic
          module _ (full : AllFull fs) (low : 1 ≤ length fs) where
            tens : holds_for_some (factor_degree_out_of_range F) (map polynomial_of fs) ≡ false
            unfolding written_table
            tens = polynomials-ten F fs full passes.degrees_in_range

            monics : holds_for_some (not_monic F) (map polynomial_of fs) ≡ false
            unfolding written_table
            monics = polynomials-eleven F I fs passes.coefficients_in_range

            pub period_checked : period.Checked F first ts
            unfolding terms_table
            period_checked =
                let n : 0 < length (map polynomial_of fs) = rw length-map low in
                record {
                  accepted =
                      record {
                        degree_in_range =
                            none-at (factor_degree_out_of_range F) [] (map polynomial_of fs) 0 tens n;
                        monic_over = none-at (not_monic F) [] (map polynomial_of fs) 0 monics n;
                      };
                  count_in_range = terms.count_in_range;
                  terms_in_field = terms.terms_in_field;
                }

            pub set_checked : length fs ≤ 8 → set.Checked F (map polynomial_of fs) ts
            unfolding terms_table
            set_checked high =
                record {
                  count_in_range = terms.count_in_range;
                  terms_in_field = terms.terms_in_field;
                  factor_count = rw length-map (count-passes (length fs) low high);
                  degrees_in_range = tens;
                  monic = monics;
                }
