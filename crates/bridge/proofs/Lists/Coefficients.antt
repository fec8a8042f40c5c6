-- The coefficients of sums, multiples and zeros, read past the end of the list too, where they are 0.
--
--   get_or-zeros        == of a list of zeros
--   get_or-sum          == of a sum of two lists of elements
--   get_or-multiple     == of a multiple
--
-- Assumes nothing.
use Prim.Native.Nat.{ℕ, zero, suc}
use mathlib.Core.Path.{◌≡◌, refl, sym, ap, ◌∙◌}
use mathlib.Core.List.{List, [], ◌∷◌}
use native.Mathlib.Decide.{dec_lt}
use native.Mathlib.Omega.{arith}
use lib.ListN.{length, get_or, replicate, get_or-eq_default}
use lib.Dec.{T}
use Rattle.meaning.specs.Field.{Field, are_elements}
use Rattle.meaning.specs.Polynomial.{plus, scale}
use Rattle.bridge.proofs.Basics.Interpretation.{IsField, number-add-zero, number-zero-add}
use Rattle.bridge.proofs.Basics.Interpretation.{number-mul-zero}
use Rattle.bridge.proofs.Lists.Polynomials.{length-scale, get_or-below, elements_uncons}
use Rattle.bridge.proofs.Basics.Padding.{get_or-scale}

pub get_or-zeros : (n k : ℕ) → get_or {A = ℕ} (replicate n 0) k 0 ≡ 0
get_or-zeros zero k = refl
get_or-zeros (suc n) zero = refl
get_or-zeros (suc n) (suc k) = get_or-zeros n k

module _ {F : Field} (I : IsField F) where
  pub get_or-sum : (v w : List ℕ) (k : ℕ)
      → T (are_elements F v)
      → T (are_elements F w)
      → get_or (plus F v w) k 0 ≡ F.add (get_or v k 0) (get_or w k 0)
  unfolding plus
  get_or-sum [] w k h i = sym (number-zero-add I (get_or-below I w i k))
  get_or-sum (a ∷ v) [] k h i = sym (number-add-zero I (get_or-below I (a ∷ v) h k))
  get_or-sum (a ∷ v) (b ∷ w) zero h i = refl
  get_or-sum (a ∷ v) (b ∷ w) (suc k) h i =
      get_or-sum v w k (elements_uncons F a v h).1 (elements_uncons F b w i).1

  pub get_or-multiple : (c : ℕ) (a : List ℕ) (k : ℕ) → get_or (scale F c a) k 0 ≡ F.mul c (get_or a k 0)
  get_or-multiple c a k = elim (dec_lt k (length a)) [
    | yes l ↦ get_or-scale F c a k l
    | no l ↦
        get_or-eq_default (scale F c a) 0 (omega (arith, length-scale F c a))
        ∙ sym (ap (F.mul c) (get_or-eq_default a 0 (omega arith)) ∙ number-mul-zero I c)
  ]
