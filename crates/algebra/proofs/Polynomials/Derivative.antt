-- Derivations of a ring, the formal derivative of a polynomial, and x^n − 1 without square factors.
--
--   Derivation R d     == the map d respects sums and has the product rule: d(a·b) = a·d(b) + d(a)·b
--   Squarefree R t     == each f whose square divides t divides 1; units are so, and 0 only where 1 = 0
--   unity R x n        == x^n − 1; it is 0 for n = 0
--   derivation_squarefree
--                      == what is coprime to its derivative is squarefree
--   unity_derivation   == x·d(x^n − 1) − n·(x^n − 1) = n where d(x) = 1
--   unity-coprime      == where n is invertible besides, x^n − 1 is coprime to its derivative
--   derivative f       == the formal derivative of the polynomial f: its coefficient i is the (i+1)-fold of
--                         the coefficient i+1 of f
--   derivative-mul     == the product rule: (f·g)' = f·g' + f'·g
--   derivative_derivation
--                      == so the formal derivative is a derivation
--   unity_squarefree   == over a ring where n is invertible, the polynomial x^n − 1 is squarefree
--
-- Assumes nothing.
use mathlib.Core.Path.{◌≡◌, refl, sym, ap, ap₂, ◌∙◌}
use mathlib.Core.List.{List, [], ◌∷◌}
use Prim.Native.Nat.{ℕ, zero, suc, ◌+◌}
use native.Mathlib.Nat as ℕ
use native.Mathlib.Omega.{arith}
use Rattle.algebra.proofs.Rings.Ring.{Ring}
use Rattle.algebra.proofs.Rings.Ring.{zero-add, mul-zero, zero-mul, neg-zero, neg_unique}
use Rattle.algebra.proofs.Rings.Ring.{add_left_cancel}
use Rattle.algebra.proofs.Rings.Solver.{solve, ◌:=◌, ◌:+◌, ◌:*◌, :-◌, :0, :1}
use Rattle.algebra.proofs.Rings.Multiple.{
  multiple,
  numeral,
  multiple-zero,
  multiple-suc,
  multiple-one,
  multiple_of_zero,
  multiple_of_add,
  multiple-mul-right,
  multiple-numeral,
  hom-numeral,
}
use Rattle.algebra.proofs.Rings.Power.{power, power_zero, power-suc-left}
use Rattle.algebra.proofs.Rings.Ideal.{Divides, Coprime, divides_trans, divides-product, coprime-whole}
use Rattle.algebra.proofs.Rings.Ideal.{multiples-ideal}
use Rattle.algebra.proofs.Polynomials.Series.{coefficient-list}
use Rattle.algebra.proofs.Polynomials.Polynomial.{
  Polynomial,
  polynomials,
  polynomial_ext,
  polynomial_induction,
  coefficient,
  coefficient_to_list,
  coefficient-from_list,
  coefficient-zero,
  coefficient-add,
  coefficient-scale,
  coefficient-constant-suc,
  coefficient-x-mul-zero,
  coefficient-x-mul-suc,
  constant,
  constant-polynomial-hom,
  scale,
  X,
  from_list,
}

-- In any ring.
module _ {K : Type 0} (R : Ring K) where
  open R use {1#, ◌⊕◌, ◌⊗◌, ⊖◌}

  infixl 60 ◌⊕◌
  infixl 70 ◌⊗◌
  infix 80 ⊖◌
  pub record Derivation (d : K → K) : Type 0 where
    pub add : (a b : K) → d (a ⊕ b) ≡ d a ⊕ d b
    pub mul : (a b : K) → d (a ⊗ b) ≡ a ⊗ d b ⊕ d a ⊗ b

  abbrev pub Squarefree : K → Type 0
  Squarefree t = (f : K) → Divides R (f ⊗ f) t → Divides R f 1#

  abbrev pub unity : K → ℕ → K
  unity x n = power R x n ⊕ ⊖ 1#

module _ {K : Type 0} {R : Ring K} {d : K → K} (δ : Derivation R d) where
  open R use {0#, 1#, ◌⊕◌, ◌⊗◌, ⊖◌, add-zero, add_neg, mul_comm, mul_assoc}

  infixl 60 ◌⊕◌
  infixl 70 ◌⊗◌
  infix 80 ⊖◌
  -- Derivations of 0, of 1, of negatives and of powers.
  pub derivation_zero : d 0# ≡ 0#
  derivation_zero =
      add_left_cancel R (d 0#) (sym (δ.add 0# 0#) ∙ ap d (add-zero 0#) ∙ sym (add-zero (d 0#)))

  pub derivation_one : d 1# ≡ 0#
  derivation_one = add_left_cancel R (d 1#) (sym twice ∙ sym (add-zero (d 1#)))
    where
      twice : d 1# ≡ d 1# ⊕ d 1#
      twice =
          ap d (sym (R.mul-one 1#))
          ∙ δ.mul 1# 1#
          ∙ solve R 1 (λ u. :1 :* u :+ u :* :1 := u :+ u) refl (d 1#)

  pub derivation_neg : (a : K) → d (⊖ a) ≡ ⊖ d a
  derivation_neg a = neg_unique R (sym (δ.add a (⊖ a)) ∙ ap d (add_neg a) ∙ derivation_zero)

  power-step :
      (a : K) (n : ℕ)
      → a ⊗ d (power R a n) ≡ multiple R n (power R a n ⊗ d a)
      → d (power R a (suc n)) ≡ multiple R (suc n) (power R a n ⊗ d a)
  power-step a n e =
      ap d (power-suc-left R a n)
      ∙ δ.mul a (power R a n)
      ∙ ap₂ ◌⊕◌ e (mul_comm (d a) (power R a n))
      ∙ sym (multiple-suc R n (power R a n ⊗ d a))

  pub derivation_power-mul : (a : K) (n : ℕ) → a ⊗ d (power R a n) ≡ multiple R n (power R a n ⊗ d a)
  derivation_power-mul a zero =
      ap (λ u. a ⊗ d u) (power_zero R a)
      ∙ ap (◌⊗◌ a) derivation_one
      ∙ mul-zero R a
      ∙ sym (multiple-zero R (power R a 0 ⊗ d a))
  derivation_power-mul a (suc n) =
      ap (◌⊗◌ a) (power-step a n (derivation_power-mul a n))
      ∙ multiple-mul-right R (suc n) a (power R a n ⊗ d a)
      ∙ ap (multiple R (suc n)) (sym (mul_assoc a (power R a n) (d a)))
      ∙ ap (λ u. multiple R (suc n) (u ⊗ d a)) (sym (power-suc-left R a n))

  -- If the square of f divides t, f divides the derivative of t.
  pub divides_derivation : {f t : K} → Divides R (f ⊗ f) t → Divides R f (d t)
  divides_derivation {f} {t} e =
      let q = e.quotient in
      record {
        quotient = q ⊗ (d f ⊕ d f) ⊕ d q ⊗ f;
        equation =
            ap d e.equation
            ∙ δ.mul q (f ⊗ f)
            ∙ ap (λ u. q ⊗ u ⊕ d q ⊗ (f ⊗ f)) (δ.mul f f)
            ∙ solve
            R
            4
            (λ q f r g. q :* (f :* g :+ g :* f) :+ r :* (f :* f) := (q :* (g :+ g) :+ r :* f) :* f)
            refl
            q
            f
            (d q)
            (d f);
      }

  pub derivation_squarefree : {t : K} → Coprime R t (d t) → Squarefree R t
  derivation_squarefree p f e =
      coprime-whole
      R
      (multiples-ideal R f)
      p
      (divides_trans R (divides-product R f f) e)
      (divides_derivation e)

  -- The derivative of x^n − 1, where that of x is 1.
  module _ {x : K} (x-one : d x ≡ 1#) where
    x-power : (n : ℕ) → x ⊗ d (unity R x n) ≡ numeral R n ⊗ power R x n
    x-power n =
        ap (◌⊗◌ x) (δ.add (power R x n) (⊖ 1#))
        ∙ ap (λ u. x ⊗ (d (power R x n) ⊕ u)) (derivation_neg 1# ∙ ap ⊖◌ derivation_one ∙ neg-zero R)
        ∙ ap (◌⊗◌ x) (add-zero (d (power R x n)))
        ∙ derivation_power-mul x n
        ∙ ap (λ u. multiple R n (power R x n ⊗ u)) x-one
        ∙ ap (multiple R n) (R.mul-one (power R x n))
        ∙ multiple-numeral R n (power R x n)

    pub unity_derivation : (n : ℕ) → x ⊗ d (unity R x n) ⊕ ⊖ (numeral R n ⊗ unity R x n) ≡ numeral R n
    unity_derivation n =
        ap (λ u. u ⊕ ⊖ (numeral R n ⊗ unity R x n)) (x-power n)
        ∙ solve R 2 (λ m y. m :* y :+ :- (m :* (y :+ :- :1)) := m) refl (numeral R n) (power R x n)

    pub unity-coprime : (n : ℕ) (c : K) → numeral R n ⊗ c ≡ 1# → Coprime R (unity R x n) (d (unity R x n))
    unity-coprime n c e =
        record {
          left = ⊖ (numeral R n ⊗ c);
          right = c ⊗ x;
          bezout =
              solve
              R
              5
              (λ m c x t u. :- (m :* c) :* t :+ c :* x :* u := (x :* u :+ :- (m :* t)) :* c)
              refl
              (numeral R n)
              c
              x
              (unity R x n)
              (d (unity R x n))
              ∙ ap (λ u. u ⊗ c) (unity_derivation n)
              ∙ e;
        }

-- The formal derivative of lists.
module _ {K : Type 0} (R : Ring K) where
  weighted : ℕ → List K → List K
  weighted n [] = []
  weighted n (a ∷ xs) = multiple R n a ∷ weighted (suc n) xs

  weighted-at :
      (n : ℕ) (xs : List K) (i : ℕ)
      → coefficient-list R (weighted n xs) i ≡ multiple R (n + i) (coefficient-list R xs i)
  unfolding weighted
  weighted-at n [] i = sym (multiple_of_zero R (n + i))
  weighted-at n (a ∷ xs) zero = ap (λ k. multiple R k a) (sym (ℕ.add-zero n))
  weighted-at n (a ∷ xs) (suc i) =
      weighted-at (suc n) xs i ∙ ap (λ k. multiple R k (coefficient-list R xs i)) (omega arith)

  pub list-derivative : List K → List K
  list-derivative [] = []
  list-derivative (a ∷ xs) = weighted 1 xs

  pub list-derivative-at :
      (xs : List K) (i : ℕ)
      → coefficient-list R (list-derivative xs) i ≡ multiple R (suc i) (coefficient-list R xs (suc i))
  unfolding list-derivative
  list-derivative-at [] i = sym (multiple_of_zero R (suc i))
  list-derivative-at (a ∷ xs) i =
      weighted-at 1 xs i ∙ ap (λ k. multiple R k (coefficient-list R xs i)) (omega arith)

-- The two equations of the product rule's induction.
module _ {K : Type 0} (R : Ring K) where
  open R use {◌⊕◌, ◌⊗◌}

  infixl 60 ◌⊕◌
  infixl 70 ◌⊗◌
  times-cons : (a x f g : K) → (a ⊕ x ⊗ f) ⊗ g ≡ a ⊗ g ⊕ x ⊗ (f ⊗ g)
  times-cons = solve R 4 (λ a x f g. (a :+ x :* f) :* g := a :* g :+ x :* (f :* g)) refl

  rule_cons :
      (a x f g u v : K)
      → a ⊗ u ⊕ (f ⊗ g ⊕ x ⊗ (f ⊗ u ⊕ v ⊗ g)) ≡ (a ⊕ x ⊗ f) ⊗ u ⊕ (f ⊕ x ⊗ v) ⊗ g
  rule_cons =
      solve
      R
      6
      (
      λ a x f g u v.
      a :* u :+ (f :* g :+ x :* (f :* u :+ v :* g)) := (a :+ x :* f) :* u :+ (f :+ x :* v) :* g
      )
      refl

-- The formal derivative of polynomials.
module _ {K : Type 0} {R : Ring K} {D : Discrete K} where
  open R use {0#, ◌⊕◌, ◌⊗◌}
  open polynomials R D use {0# as 0ₚ, ◌⊕◌ as ◌⊞◌, ◌⊗◌ as ◌⊠◌}

  infixl 60 ◌⊕◌ ◌⊞◌
  infixl 70 ◌⊗◌ ◌⊠◌
  pub derivative : Polynomial R D → Polynomial R D
  derivative f = from_list R D (list-derivative R f.to_list)

  pub coefficient-derivative :
      (f : Polynomial R D) (i : ℕ)
      → coefficient (derivative f) i ≡ multiple R (suc i) (coefficient f (suc i))
  unfolding derivative
  coefficient-derivative f i =
      ap (λ u. u i) (coefficient-from_list R D (list-derivative R f.to_list))
      ∙ list-derivative-at R f.to_list i
      ∙ ap (λ u. multiple R (suc i) (u (suc i))) (sym (coefficient_to_list f))

  pub derivative-add : (f g : Polynomial R D) → derivative (f ⊞ g) ≡ derivative f ⊞ derivative g
  derivative-add f g = polynomial_ext place
    where
      place : (i : ℕ) → coefficient (derivative (f ⊞ g)) i ≡ coefficient (derivative f ⊞ derivative g) i
      place i =
          coefficient-derivative (f ⊞ g) i
          ∙ ap (multiple R (suc i)) (coefficient-add f g (suc i))
          ∙ multiple_of_add R (suc i) (coefficient f (suc i)) (coefficient g (suc i))
          ∙ sym (ap₂ ◌⊕◌ (coefficient-derivative f i) (coefficient-derivative g i))
          ∙ sym (coefficient-add (derivative f) (derivative g) i)

  pub derivative-scale : (a : K) (f : Polynomial R D) → derivative (scale a f) ≡ scale a (derivative f)
  derivative-scale a f = polynomial_ext place
    where
      place : (i : ℕ) → coefficient (derivative (scale a f)) i ≡ coefficient (scale a (derivative f)) i
      place i =
          coefficient-derivative (scale a f) i
          ∙ ap (multiple R (suc i)) (coefficient-scale a f (suc i))
          ∙ sym (multiple-mul-right R (suc i) a (coefficient f (suc i)))
          ∙ ap (◌⊗◌ a) (sym (coefficient-derivative f i))
          ∙ sym (coefficient-scale a (derivative f) i)

  pub derivative-x-mul : (f : Polynomial R D) → derivative (X R D ⊠ f) ≡ f ⊞ X R D ⊠ derivative f
  derivative-x-mul f =
      polynomial_ext (λ i. shifted i ∙ rest i ∙ sym (coefficient-add f (X R D ⊠ derivative f) i))
    where
      shifted : (i : ℕ) → coefficient (derivative (X R D ⊠ f)) i ≡ multiple R (suc i) (coefficient f i)
      shifted i =
          coefficient-derivative (X R D ⊠ f) i ∙ ap (multiple R (suc i)) (coefficient-x-mul-suc f i)

      rest :
          (i : ℕ)
          → multiple R (suc i) (coefficient f i) ≡ coefficient f i ⊕ coefficient (X R D ⊠ derivative f) i
      rest zero =
          multiple-one R (coefficient f 0)
          ∙ sym (R.add-zero (coefficient f 0))
          ∙ ap (◌⊕◌ (coefficient f 0)) (sym (coefficient-x-mul-zero (derivative f)))
      rest (suc i) =
          multiple-suc R (suc i) (coefficient f (suc i))
          ∙ R.add_comm (multiple R (suc i) (coefficient f (suc i))) (coefficient f (suc i))
          ∙ ap (◌⊕◌ (coefficient f (suc i))) (sym (coefficient-derivative f i))
          ∙ ap (◌⊕◌ (coefficient f (suc i))) (sym (coefficient-x-mul-suc (derivative f) i))

  pub derivative-constant : (a : K) → derivative (constant R D a) ≡ 0ₚ
  derivative-constant a = polynomial_ext place
    where
      place : (i : ℕ) → coefficient (derivative (constant R D a)) i ≡ coefficient 0ₚ i
      place i =
          coefficient-derivative (constant R D a) i
          ∙ ap (multiple R (suc i)) (coefficient-constant-suc R D a i)
          ∙ multiple_of_zero R (suc i)
          ∙ sym (coefficient-zero R D i)

  pub derivative-cons :
      (a : K) (f : Polynomial R D) → derivative (constant R D a ⊞ X R D ⊠ f) ≡ f ⊞ X R D ⊠ derivative f
  derivative-cons a f =
      derivative-add (constant R D a) (X R D ⊠ f)
      ∙ ap₂ ◌⊞◌ (derivative-constant a) (derivative-x-mul f)
      ∙ zero-add (polynomials R D) (f ⊞ X R D ⊠ derivative f)

  -- The product rule, by induction on the first factor.
  pub derivative-mul : (f g : Polynomial R D) → derivative (f ⊠ g) ≡ f ⊠ derivative g ⊞ derivative f ⊠ g
  derivative-mul f g =
      polynomial_induction
      R
      D
      (λ f. derivative (f ⊠ g) ≡ f ⊠ derivative g ⊞ derivative f ⊠ g)
      base
      step
      f
    where
      derivative-zero : derivative 0ₚ ≡ 0ₚ
      derivative-zero =
          ap derivative (sym (constant-polynomial-hom R D).zero) ∙ derivative-constant 0#

      base : derivative (0ₚ ⊠ g) ≡ 0ₚ ⊠ derivative g ⊞ derivative 0ₚ ⊠ g
      base =
          ap derivative (zero-mul (polynomials R D) g)
          ∙ derivative-zero
          ∙ solve (polynomials R D) 2 (λ u g. :0 := :0 :* u :+ :0 :* g) refl (derivative g) g
          ∙ ap (λ u. 0ₚ ⊠ derivative g ⊞ u ⊠ g) (sym derivative-zero)

      step :
          (a : K) (f : Polynomial R D)
          → derivative (f ⊠ g) ≡ f ⊠ derivative g ⊞ derivative f ⊠ g
          → derivative ((constant R D a ⊞ X R D ⊠ f) ⊠ g)
          ≡ (constant R D a ⊞ X R D ⊠ f) ⊠ derivative g ⊞ derivative (constant R D a ⊞ X R D ⊠ f) ⊠ g
      step a f h =
          ap derivative (times-cons (polynomials R D) (constant R D a) (X R D) f g)
          ∙ derivative-add (scale a g) (X R D ⊠ (f ⊠ g))
          ∙ ap₂ ◌⊞◌ (derivative-scale a g) (derivative-x-mul (f ⊠ g))
          ∙ ap (λ u. scale a (derivative g) ⊞ (f ⊠ g ⊞ X R D ⊠ u)) h
          ∙ rule_cons (polynomials R D) (constant R D a) (X R D) f g (derivative g) (derivative f)
          ∙ ap (λ u. (constant R D a ⊞ X R D ⊠ f) ⊠ derivative g ⊞ u ⊠ g) (sym (derivative-cons a f))

module _ {K : Type 0} (R : Ring K) (D : Discrete K) where
  open R use {1#, ◌⊗◌}
  open polynomials R D use {1# as 1ₚ, ◌⊕◌ as ◌⊞◌, ◌⊗◌ as ◌⊠◌}

  infixl 60 ◌⊞◌
  infixl 70 ◌⊗◌ ◌⊠◌
  pub derivative_derivation : Derivation (polynomials R D) derivative
  derivative_derivation = record { add = derivative-add; mul = derivative-mul }

  pub derivative-x : derivative (X R D) ≡ 1ₚ
  derivative-x =
      ap derivative (sym ((polynomials R D).mul-one (X R D)))
      ∙ derivative-x-mul 1ₚ
      ∙ ap (λ u. 1ₚ ⊞ X R D ⊠ u) (derivation_one derivative_derivation)
      ∙ solve (polynomials R D) 1 (λ x. :1 :+ x :* :0 := :1) refl (X R D)

  -- An inverse of n in R is one in the ring of polynomials.
  pub unity_squarefree :
      (n : ℕ) (c : K)
      → numeral R n ⊗ c ≡ 1#
      → Squarefree (polynomials R D) (unity (polynomials R D) (X R D) n)
  unity_squarefree n c e =
      derivation_squarefree derivative_derivation
      (unity-coprime derivative_derivation derivative-x n (constant R D c) inverse)
    where
      inverse : numeral (polynomials R D) n ⊠ constant R D c ≡ 1ₚ
      inverse =
          ap (λ u. u ⊠ constant R D c) (sym (hom-numeral (constant-polynomial-hom R D) n))
          ∙ sym ((constant-polynomial-hom R D).mul (numeral R n) c)
          ∙ ap (constant R D) e
          ∙ (constant-polynomial-hom R D).one
