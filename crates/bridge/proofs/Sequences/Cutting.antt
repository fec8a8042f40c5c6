-- Where none of the factors is x, a sequence may be cut anywhere: its minimal polynomial stays.
--
--   product-constant == a product of powers of accepted factors, none of them x, has a constant term other
--                     than 0
--   shifted s k      == the sequence s from place k on
--   shifted-minimal  == it has the minimal polynomial of s, where such a product annihilates s
-- Assumes nothing.
use Prim.Native.Nat.{ℕ, zero, suc, ◌+◌, ◌<◌, suc-le-suc}
use native.Mathlib.Omega.{arith}
use mathlib.Core.Path.{◌≡◌, sym, ap, subst, ◌∙◌}
use mathlib.Core.Logic.{◌≢◌}
use mathlib.Core.Bool.{false}
use mathlib.Core.List.{List, [], ◌∷◌}
use lib.ListN.{length, get_or}
use lib.Dec.{T}
use Rattle.meaning.specs.Search.{holds_for_some}
use Rattle.meaning.specs.Field.{Field, are_elements}
use Rattle.meaning.specs.Polynomial.{Polynomial, degree, is_monic_over, power, product}
use Rattle.meaning.specs.Sequence.{Sequence, AnnihilatesEndless, MinimalPolynomial}
use Rattle.meaning.specs.Power.{is_x}
use Rattle.meaning.specs.Portion.{factors_of}
use Rattle.algebra.proofs.Polynomials.Polynomial.{coefficient}
use Rattle.algebra.proofs.Sequences.Cut.{coprime-x, cut-minimal}
use Rattle.bridge.proofs.Basics.Searches.{false-T, none-member, get_or-member}
use Rattle.bridge.proofs.Basics.Interpretation.{IsField, number-mul-nonzero, element-nonzero}
use Rattle.bridge.proofs.Lists.Polynomials.{poly, coefficient-poly, get_or-below, monic-nonempty}
use Rattle.bridge.proofs.Lists.Polynomials.{monic-elements}
use Rattle.bridge.proofs.Lists.Products.{power-elements, power-nonempty, power-zero-list}
use Rattle.bridge.proofs.Lists.Products.{power-suc-list}
use Rattle.bridge.proofs.Lists.Products.{product-elements, product-nonempty, product-nil, product-cons}
use Rattle.bridge.proofs.Lists.Products.{factor_at, factor_at-factors_of, MonicFactors}
use Rattle.bridge.proofs.Lists.Irreducibles.{times-constant, irreducible-constant, equal-is_x, Factors}
use Rattle.bridge.proofs.Sequences.Actions.{endless-kills}
use Rattle.bridge.proofs.Sequences.Minimal.{minimal_algebra, algebra_minimal}

module _ {F : Field} (I : IsField F) where
  -- powers
  power-constant :
      (f : Polynomial) (n : ℕ) → T (is_monic_over F f) → get_or f 0 0 ≢ 0 → get_or (power F f n) 0 0 ≢ 0
  power-constant f zero m h e =
      let z : ◌≡◌ {A = ℕ} 1 0 = ap (λ (g : Polynomial). get_or g 0 0) (sym (power-zero-list F f)) ∙ e in
      omega arith
  power-constant f (suc n) m h e =
      number-mul-nonzero I
      (get_or-below I f (monic-elements F f m) 0)
      (get_or-below I (power F f n) (power-elements I f n) 0)
      h
      (power-constant f n m h)
      (sym
      (times-constant I f (power F f n) (monic-nonempty F f m) (power-nonempty I f n (monic-nonempty F f m)))
      ∙ ap (λ (g : Polynomial). get_or g 0 0) (sym (power-suc-list F f n))
      ∙ e)

  -- products
  product-constant_of :
      (l : List (Polynomial × ℕ))
      → MonicFactors F l
      → ((i : ℕ) → i < length l → get_or (factor_at l i) 0 0 ≢ 0)
      → get_or (product F l) 0 0 ≢ 0
  product-constant_of [] m h e =
      let z : ◌≡◌ {A = ℕ} 1 0 = ap (λ (g : Polynomial). get_or g 0 0) (sym (product-nil F)) ∙ e in omega arith
  product-constant_of (f ∷ l) m h e =
      number-mul-nonzero I
      (get_or-below I (power F f.0 f.1) (power-elements I f.0 f.1) 0)
      (get_or-below I (product F l) (product-elements I l) 0)
      (power-constant f.0 f.1 (m 0 (omega arith)) (h 0 (omega arith)))
      (product-constant_of l (λ i k. m (suc i) (suc-le-suc k)) (λ i k. h (suc i) (suc-le-suc k)))
      (sym
      (times-constant I (power F f.0 f.1) (product F l)
      (power-nonempty I f.0 f.1 (monic-nonempty F f.0 (m 0 (omega arith))))
      (product-nonempty I l (λ i k. monic-nonempty F (factor_at l i) (m (suc i) (suc-le-suc k)))))
      ∙ ap (λ (g : Polynomial). get_or g 0 0) (sym (product-cons F f.0 f.1 l))
      ∙ e)

  pub product-constant :
      (l : List (Polynomial × ℕ))
      → Factors F (factors_of l)
      → MonicFactors F l
      → length (factors_of l) ≡ length l
      → holds_for_some is_x (factors_of l) ≡ false
      → get_or (product F l) 0 0 ≢ 0
  product-constant l factors monics size none =
      product-constant_of l monics
      (λ i k.
      let k' : i < length (factors_of l) = omega arith in
      subst (λ (g : Polynomial). get_or g 0 0 ≢ 0) (factor_at-factors_of l i)
      (irreducible-constant I (get_or (factors_of l) i []) (factors.monic i k') (factors.positive i k')
      (factors.irreducibles i k')
      (λ e.
      none-member is_x (factors_of l) (false-T none) (get_or (factors_of l) i [])
      (get_or-member (factors_of l) i [] k')
      (equal-is_x e))))

-- The sequence from a place on
abbrev pub shifted : Sequence → ℕ → Sequence
shifted s k i = s (k + i)

module _ {F : Field} (I : IsField F) (f : Polynomial) (s : Sequence) (h : AnnihilatesEndless F f s)
    (elements : T (are_elements F f)) (constant : get_or f 0 0 ≢ 0) where
  nonzero : ¬ (coefficient (poly I f) 0 ≡ I.ring.0#)
  nonzero e = element-nonzero I (get_or-below I f elements 0) constant (sym (coefficient-poly I f 0) ∙ e)

  pub shifted-minimal :
      (g : Polynomial) → MinimalPolynomial F g s → (k : ℕ) → MinimalPolynomial F g (shifted s k)
  shifted-minimal g x k =
      algebra_minimal I g (shifted s k) x.monic
      ((cut-minimal (endless-kills I f s h) (coprime-x I.field (poly I f) nonzero) k (poly I g)
      (degree g)).1
      (minimal_algebra I g s x))
