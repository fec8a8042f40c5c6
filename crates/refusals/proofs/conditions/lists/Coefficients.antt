-- Polynomials as lists of coefficients: degree, leading coefficient, and the grounds of refusal 11.
-- Assumes nothing.
use Prim.Native.Nat.{ℕ, zero, suc, ◌-◌}
use native.Mathlib.Numerals.{sub-one}
use native.Mathlib.Omega.{arith}
use mathlib.Core.Path.{◌≡◌, refl, sym, ap, ◌∙◌}
use mathlib.Core.Bool.{true, false, not}
use mathlib.Core.List.{List, [], ◌∷◌}
use lib.Dec.{ltb, eqb, leb-suc-suc}
use lib.ListN.{length, get_or}
use borrow.Author.Tests.{le-ltb}
use Rattle.meaning.specs.Search.{holds_for_all}
use Rattle.meaning.specs.Field.{Field, are_elements}
use Rattle.meaning.specs.Polynomial.{leading, is_monic}
use Rattle.meaning.specs.Conditions.{term_out_of_field, factor_degree_out_of_range, coefficient_out_of_range}
use Rattle.meaning.specs.Conditions.{not_monic}

pub empty-degree-passes : (F : Field) (f : List ℕ) → length f ≡ 0 → false ≡ factor_degree_out_of_range F f
unfolding factor_degree_out_of_range
empty-degree-passes F [] h = refl
empty-degree-passes F (c ∷ f) h = absurd (omega arith)

pub leading-last : (f : List ℕ) → leading f ≡ get_or f (length f - 1) 0
unfolding leading
leading-last [] = refl
leading-last (c ∷ []) = refl
leading-last (c ∷ d ∷ f) =
    leading-last (d ∷ f)
    ∙ ap (λ (n : ℕ). get_or (d ∷ f) n 0) (sub-one (suc (length f)))
    ∙ ap (λ (n : ℕ). get_or (c ∷ d ∷ f) n 0) (sym (sub-one (suc (suc (length f)))))

pub empty-terms_pass : (F : Field) (ts : List ℕ) → length ts ≡ 0 → false ≡ term_out_of_field F ts
unfolding term_out_of_field are_elements holds_for_all
empty-terms_pass F [] h = refl
empty-terms_pass F (t ∷ ts) h = absurd (omega arith)

pub leading_none : (f : List ℕ) → length f ≡ 0 → 0 ≡ leading f
unfolding leading
leading_none [] h = refl
leading_none (c ∷ f) h = absurd (omega arith)

-- the two grounds of refusal 11
pub foreign_coefficient : (F : Field) (f : List ℕ) → term_out_of_field F f ≡ true
    → true ≡ coefficient_out_of_range F f
unfolding term_out_of_field coefficient_out_of_range
foreign_coefficient F f h = rw h

pub leading-coefficient : (F : Field) (f : List ℕ) → term_out_of_field F f ≡ false
    → eqb (leading f) 0 ≡ coefficient_out_of_range F f
unfolding term_out_of_field coefficient_out_of_range
leading-coefficient F f h = rw h

-- not monic
pub foreign_not-monic : (F : Field) (f : List ℕ) → term_out_of_field F f ≡ true → true ≡ not_monic F f
unfolding term_out_of_field not_monic
foreign_not-monic F f h = rw h

pub leading-not-monic : (F : Field) (f : List ℕ) → term_out_of_field F f ≡ false
    → not (eqb (leading f) 1) ≡ not_monic F f
unfolding term_out_of_field not_monic is_monic
leading-not-monic F f h = rw h

-- the degree is one less than the length, so is its limit
pub degree_limit : (n b : ℕ) → ltb (suc b) n ≡ ltb b (n - 1)
degree_limit zero b = le-ltb (suc b) 0 (omega arith) ∙ sym (le-ltb b (0 - 1) (omega arith))
degree_limit (suc n) b = leb-suc-suc (suc b) n ∙ ap (ltb b) (sym (sub-one (suc n)))
