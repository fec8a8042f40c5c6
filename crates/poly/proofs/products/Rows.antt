-- The product of f(x^q) and a by rows: one multiple of a for each coefficient of f.
--
--   times-spread-cons == the product with c + x^q·g(x^q) is c·a and, q places on, the product with g(x^q)
--   times-spread-one  == the product with c is c·a
--
-- Assumes nothing.
use Prim.Native.Nat.{ℕ, zero, suc, ◌-◌, ◌≤◌, ◌<◌}
use mathlib.Core.Path.{◌≡◌, refl, sym, ap, ap₂, ◌∙◌}
use mathlib.Core.List.{List, [], ◌∷◌, ◌++◌}
use lib.ListN.{length, replicate}
use lib.Dec.{T}
use native.Mathlib.Nat.{le_of_suc-le-suc}
use native.Mathlib.Omega.{arith}
use Rattle.meaning.specs.Field.{Field, are_elements}
use Rattle.meaning.specs.Polynomial.{plus, scale, times}
use Rattle.bridge.proofs.Basics.Interpretation.{IsField, number-add_comm, number-zero-add, number-zero-mul}
use Rattle.bridge.proofs.Basics.Interpretation.{size-positive}
use Rattle.bridge.proofs.Lists.Polynomials.{elements-cons, elements_uncons, length-scale}
use Rattle.bridge.proofs.Lists.Polynomials.{length-times}
use Rattle.bridge.proofs.Lists.Polynomials.{scale-elements, times-elements}
use Rattle.bridge.proofs.Lists.Spread.{gap, spread, spread-cons, spread-nil, gap-nil, spread-nonempty}

gap-nonempty : (k b : ℕ) (g : List ℕ) → 0 < length (gap k (b ∷ g))
unfolding gap
gap-nonempty zero b g = omega arith
gap-nonempty (suc k) b g = omega arith

module _ {F : Field} (I : IsField F) where
  plus_comm : (f g : List ℕ) → plus F f g ≡ plus F g f
  unfolding plus
  plus_comm [] [] = refl
  plus_comm [] (b ∷ g) = refl
  plus_comm (a ∷ f) [] = refl
  plus_comm (a ∷ f) (b ∷ g) = ap₂ ◌∷◌ (number-add_comm I a b) (plus_comm f g)

  plus-zeros : (k : ℕ) (g : List ℕ) → T (are_elements F g) → k ≤ length g → plus F (replicate k 0) g ≡ g
  unfolding plus
  plus-zeros zero g h l = refl
  plus-zeros (suc k) [] h l = absurd (omega arith)
  plus-zeros (suc k) (b ∷ g) h l =
      let (m, hs) = elements_uncons F b g h in
      ap₂ ◌∷◌ (number-zero-add I m) (plus-zeros k g hs (le_of_suc-le-suc l))

  scale-zeros : (a : List ℕ) → scale F 0 a ≡ replicate (length a) 0
  unfolding scale
  scale-zeros [] = refl
  scale-zeros (b ∷ a) = ap₂ ◌∷◌ (number-zero-mul I b) (scale-zeros a)

  module _ (a : List ℕ) (s : 0 < length a) where
    times-cons : (c : ℕ) (g : List ℕ) → times F (c ∷ g) a ≡ plus F (scale F c a) (0 ∷ times F g a)
    unfolding times
    times-cons c g = refl

    times-zero-cons : (g : List ℕ) → 0 < length g → times F (0 ∷ g) a ≡ 0 ∷ times F g a
    times-zero-cons g l =
        times-cons 0 g
        ∙ ap (λ z. plus F z (0 ∷ times F g a)) (scale-zeros a)
        ∙ plus-zeros (length a) (0 ∷ times F g a)
        (elements-cons F (times F g a) (size-positive I) (times-elements I g a))
        (omega (arith, length-times I g a l s))

    times-gap : (k : ℕ) (g : List ℕ) → 0 < length g → times F (gap k g) a ≡ replicate k 0 ++ times F g a
    unfolding gap
    times-gap zero g l = refl
    times-gap (suc k) [] l = absurd (omega arith)
    times-gap (suc k) (b ∷ g) l =
        times-zero-cons (gap k (b ∷ g)) (gap-nonempty k b g)
        ∙ ap (λ w. 0 ∷ w) (times-gap k (b ∷ g) l)

    -- the row of c before the product with g
    pub times-spread-cons :
        (q : ℕ) → 0 < q → (c : ℕ) (g : List ℕ) → 0 < length g
        → times F (spread q (c ∷ g)) a ≡ plus F (replicate q 0 ++ times F (spread q g) a) (scale F c a)
    times-spread-cons q pos c g l =
        ap (λ u. times F u a) (spread-cons q c g)
        ∙ times-cons c (gap (q - 1) (spread q g))
        ∙ ap (λ w. plus F (scale F c a) (0 ∷ w)) (times-gap (q - 1) (spread q g) (spread-nonempty q pos g l))
        ∙ plus_comm (scale F c a) (0 ∷ (replicate (q - 1) 0 ++ times F (spread q g) a))
        ∙ ap (λ (k : ℕ). plus F (replicate k 0 ++ times F (spread q g) a) (scale F c a)) whole
      where
        whole : suc (q - 1) ≡ q
        whole = omega arith

    -- the row of the last coefficient
    pub times-spread-one :
        (q c : ℕ) → times F (spread q (c ∷ [])) a ≡ plus F (replicate (length a) 0) (scale F c a)
    unfolding times
    times-spread-one q c =
        ap (λ u. times F u a)
        (spread-cons q c [] ∙ ap (λ g. c ∷ g) (ap (gap (q - 1)) (spread-nil q) ∙ gap-nil (q - 1)))
        ∙ plus_comm (scale F c a) (0 ∷ [])
        ∙ plus-zeros 1 (scale F c a) (scale-elements I c a) (omega (arith, length-scale F c a))
        ∙ sym (plus-zeros (length a) (scale F c a) (scale-elements I c a) (omega (arith, length-scale F c a)))
