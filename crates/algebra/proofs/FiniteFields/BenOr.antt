-- Ben-Or's theorem: whether a polynomial over a field of q elements is irreducible, told by its common
-- divisors with x^(q^i) - x.
--
--   fixed R D q i       == x^(q^i) - x; it is 0 for i = 0
--   constant-fixed      == the power q of a constant is that constant
--   coprime-irreducible == f monic of degree d > 0 is irreducible where it is coprime to x^(q^i) - x for
--                          every i with 1 ≤ i and 2·i ≤ d
--   sum-raised, term-raised == the power q of a sum, and of c·x^n: it is c·x^(n·q)
--   fixed-degree        == f irreducible of degree d does not divide x^(q^i) - x for 0 < i < d: else all q^d
--                          residues modulo f were roots of y^(q^i) - y
--   irreducible-coprime == so it is coprime to x^(q^i) - x
--   irreducible_test    == both ways: irreducible exactly where coprime to x^(q^i) - x for 1 ≤ i, 2·i ≤ d
--   irreducible_common  == exactly where no monic polynomial of positive degree divides f and one of them
--
-- From `sum-raised` on the field has the characteristic p and q = p^w, so that the power q respects sums.
-- Assumes nothing.
use mathlib.Core.Path.{◌≡◌, refl, sym, ap, ap₂, subst, ◌∙◌}
use mathlib.Core.Logic.{inl, inr, ◌↔◌}
use Prim.Native.Nat.{ℕ, zero, suc, ◌*◌, ◌-◌, ◌^◌, ◌≤◌, ◌<◌}
use lib.ListN.{length}
use native.Mathlib.Nat as ℕ
use native.Mathlib.Omega.{arith}
use Rattle.algebra.proofs.Numbers.Number.{power-less}
use Rattle.algebra.proofs.Rings.Ring.{Ring, Field}
use Rattle.algebra.proofs.Rings.Solver.{solve, ◌:=◌, ◌:+◌, ◌:*◌, :-◌, :1}
use Rattle.algebra.proofs.Rings.Power.{
  power,
  power-suc,
  power-mul,
  power-power,
  power_of_zero,
  tower_fixed,
  tower_sum,
  hom-power,
}
use Rattle.algebra.proofs.Rings.Ideal.{
  Ideal,
  Divides,
  Coprime,
  multiples-ideal,
  divides_trans,
  coprime-whole,
  congruent-refl,
  congruent-mul,
}
use Rattle.algebra.proofs.Rings.Characteristic.{Characteristic}
use Rattle.algebra.proofs.Polynomials.Polynomial.{
  Polynomial,
  polynomials,
  polynomial_induction,
  constant,
  constant-polynomial-hom,
  X,
}
use Rattle.algebra.proofs.Polynomials.Monic.{Monic}
use Rattle.algebra.proofs.Polynomials.Division.{field-divides}
use Rattle.algebra.proofs.Polynomials.Divisor.{Factor, coprime_common}
use Rattle.algebra.proofs.Polynomials.Irreducible.{Irreducible, irreducible-half, irreducible-atom}
use Rattle.algebra.proofs.Rings.Roots.{fixed-count}
use Rattle.algebra.proofs.Polynomials.Frobenius.{frobenius, polynomial_characteristic}
use Rattle.algebra.proofs.FiniteFields.FiniteField.{
  Elements,
  elements-two,
  residues-two,
  element-fixed,
  polynomials-below,
  polynomials-below-length,
  below-residues,
  irreducible-prime,
  irreducible-power,
}

-- The power n + 1 less the element itself
power-less_self : {K : Type 0} (R : Ring K) (a : K) (n : ℕ)
    → R.◌⊕◌ (power R a (suc n)) (R.⊖◌ a) ≡ R.◌⊗◌ a (R.◌⊕◌ (power R a n) (R.⊖◌ R.1#))
power-less_self R a n =
    ap (λ u. R.◌⊕◌ u (R.⊖◌ a)) (power-suc R a n)
    ∙ solve R 2 (λ a b. b :* a :+ :- a := a :* (b :+ :- :1)) refl a (power R a n)

module _ {K : Type 0} (R : Ring K) (D : Discrete K) (q : ℕ) where
  open polynomials R D use {◌⊕◌ as ◌⊞◌, ⊖◌ as ⊟◌}

  infixl 60 ◌⊞◌
  infix 80 ⊟◌
  abbrev pub fixed : ℕ → Polynomial R D
  fixed i = power (polynomials R D) (X R D) (q ^ i) ⊞ ⊟ X R D

-- Over a field of q elements
module _ {K : Type 0} {R : Ring K} {q : ℕ} (F : Field R) (E : Elements K q) where
  module _ {D : Discrete K} where
    open polynomials R D use {1# as 1ₚ, ◌⊕◌ as ◌⊞◌, ◌⊗◌ as ◌⊠◌, ⊖◌ as ⊟◌}

    infixl 60 ◌⊞◌
    infixl 70 ◌⊠◌
    infix 80 ⊟◌
    abbrev P : Ring (Polynomial R D)
    P = polynomials R D

    pub constant-fixed : (c : K) → power P (constant R D c) q ≡ constant R D c
    constant-fixed c =
        sym (hom-power (constant-polynomial-hom R D) c q) ∙ ap (constant R D) (element-fixed F E c)

    -- f irreducible of degree d divides h^(q^d) - h for every h, so x^(q^d) - x
    residue-fixed :
        {f : Polynomial R D} {d : ℕ}
        → Irreducible f d
        → (h : Polynomial R D)
        → Divides P f (power P h (q ^ d) ⊞ ⊟ h)
    residue-fixed {f} {d} i h =
        subst (λ n. Divides P f (power P h n ⊞ ⊟ h)) (sym more)
        (subst (Divides P f) (sym (power-less_self P h (q ^ d - 1))) (go (field-divides F f h)))
      where
        more : q ^ d ≡ suc (q ^ d - 1)
        more = omega (arith, residues-two F E d i.positive)

        go : Dec (Divides P f h) → Divides P f (h ⊠ (power P h (q ^ d - 1) ⊞ ⊟ 1ₚ))
        go (yes e) = subst (Divides P f) (P.mul_comm _ h) ((multiples-ideal P f).multiple _ e)
        go (no k) = (multiples-ideal P f).multiple h (irreducible-power F E i k)

    coprime-not-divides :
        {f g : Polynomial R D} {a : ℕ}
        → Irreducible g a
        → Coprime P f (fixed R D q a)
        → ¬ Divides P g f
    coprime-not-divides {g = g} i c e =
        (irreducible-prime F E i).proper
        (coprime-whole P (multiples-ideal P g) c e (residue-fixed i (X R D)))

    -- No divisor of f of degree a, a < b and 2·a ≤ d: one of the least degree would be irreducible
    no_divisor :
        {f : Polynomial R D} {d : ℕ}
        → ((i : ℕ) → 1 ≤ i → 2 * i ≤ d → Coprime P f (fixed R D q i))
        → (b : ℕ) (g : Polynomial R D) (a : ℕ)
        → a < b
        → 1 ≤ a
        → 2 * a ≤ d
        → Monic g a
        → ¬ Divides P g f
    no_divisor h zero g a k l s m e = omega arith
    no_divisor h (suc b) g a k l s m e =
        coprime-not-divides
        (
        (irreducible-half F.one_nonzero m l).1
        (λ g' a' l' s' m' e'. no_divisor h b g' a' (omega arith) l' (omega arith) m' (divides_trans P e' e))
        )
        (h a l s)
        e

    pub coprime-irreducible :
        {f : Polynomial R D} {d : ℕ}
        → Monic f d
        → 0 < d
        → ((i : ℕ) → 1 ≤ i → 2 * i ≤ d → Coprime P f (fixed R D q i))
        → Irreducible f d
    coprime-irreducible m l h =
        (irreducible-half F.one_nonzero m l).1 (λ g a. no_divisor h (suc a) g a (omega arith))

-- Of the characteristic p, so that the power q respects sums
module _ {K : Type 0} {R : Ring K} {p q : ℕ}
    (F : Field R) (E : Elements K q) (C : Characteristic R p) (w : ℕ) (size : q ≡ p ^ w)
    {D : Discrete K} where
  open polynomials R D use {0# as 0ₚ, ◌⊕◌ as ◌⊞◌, ◌⊗◌ as ◌⊠◌, ⊖◌ as ⊟◌}

  infixl 60 ◌⊞◌
  infixl 70 ◌⊠◌
  infix 80 ⊟◌
  abbrev Q : Ring (Polynomial R D)
  Q = polynomials R D

  pub sum-raised : (a b : Polynomial R D) → power Q (a ⊞ b) q ≡ power Q a q ⊞ power Q b q
  sum-raised a b =
      subst (λ n. power Q (a ⊞ b) n ≡ power Q a n ⊞ power Q b n) (sym size)
      ((frobenius (polynomial_characteristic C D) w).add a b)

  pub term-raised :
      (c : K) (n : ℕ)
      → power Q (constant R D c ⊠ power Q (X R D) n) q ≡ constant R D c ⊠ power Q (X R D) (n * q)
  term-raised c n =
      power-mul Q (constant R D c) (power Q (X R D) n) q
      ∙ ap₂ ◌⊠◌ (constant-fixed F E c) (power-power Q (X R D) n q)

  -- an ideal that holds x^(q^i) - x holds h^(q^i) - h for every h
  all-fixed :
      {I : Polynomial R D → Type 0} (ideal : Ideal Q I) (i : ℕ)
      → I (fixed R D q i)
      → (h : Polynomial R D)
      → I (power Q h (q ^ i) ⊞ ⊟ h)
  all-fixed {I} ideal i x = polynomial_induction R D _ base step
    where
      base : I (power Q 0ₚ (q ^ i) ⊞ ⊟ 0ₚ)
      base =
          subst (λ u. I (u ⊞ ⊟ 0ₚ))
          (sym (power_of_zero Q (q ^ i) (ℕ.one-le-pow i q (omega (arith, elements-two F E)))))
          (congruent-refl Q ideal 0ₚ)

      split :
          (a : K) (f : Polynomial R D)
          → power Q (constant R D a ⊞ X R D ⊠ f) (q ^ i)
          ≡ constant R D a ⊞ power Q (X R D) (q ^ i) ⊠ power Q f (q ^ i)
      split a f =
          tower_sum Q q sum-raised i (constant R D a) (X R D ⊠ f)
          ∙ ap₂ ◌⊞◌ (tower_fixed Q q (constant-fixed F E a) i) (power-mul Q (X R D) f (q ^ i))

      step :
          (a : K) (f : Polynomial R D)
          → I (power Q f (q ^ i) ⊞ ⊟ f)
          → I (power Q (constant R D a ⊞ X R D ⊠ f) (q ^ i) ⊞ ⊟ (constant R D a ⊞ X R D ⊠ f))
      step a f m =
          subst (λ u. I (u ⊞ ⊟ (constant R D a ⊞ X R D ⊠ f))) (sym (split a f))
          (
          subst I
          (solve Q 3 (λ a b c. b :+ :- c := a :+ b :+ :- (a :+ c)) refl (constant R D a) _ (X R D ⊠ f))
          (congruent-mul Q ideal x m)
          )

  pub fixed-degree :
      {f : Polynomial R D} {d : ℕ} (i : ℕ)
      → Irreducible f d
      → 0 < i
      → i < d
      → ¬ Divides Q f (fixed R D q i)
  fixed-degree {f} {d} i j l k e =
      omega (arith, count, polynomials-below-length R D E d, power-less (elements-two F E) k)
    where
      count : length (polynomials-below R D E d) ≤ q ^ i
      count =
          fixed-count Q (irreducible-prime F E j) (q ^ i) (residues-two F E i l)
          (below-residues R D E j.monic)
          (all-fixed (multiples-ideal Q f) i e)

  pub irreducible-coprime :
      {f : Polynomial R D} {d : ℕ}
      → Irreducible f d
      → (i : ℕ)
      → 0 < i
      → i < d
      → Coprime Q f (fixed R D q i)
  irreducible-coprime j i l k = elim (irreducible-atom F j (fixed R D q i)) [
    | inl e ↦ absurd (fixed-degree i j l k e)
    | inr c ↦ c
  ]

  pub irreducible_test :
      {f : Polynomial R D} {d : ℕ}
      → Monic f d
      → 0 < d
      → Irreducible f d ↔ ((i : ℕ) → 1 ≤ i → 2 * i ≤ d → Coprime Q f (fixed R D q i))
  irreducible_test m l = (
    λ j i k s. irreducible-coprime j i k (omega arith),
    coprime-irreducible F E m l,
  )

  pub irreducible_common :
      {f : Polynomial R D} {d : ℕ}
      → Monic f d
      → 0 < d
      → Irreducible f d
      ↔ ((i : ℕ)
      → 1 ≤ i
      → 2 * i ≤ d
      → (g : Polynomial R D) (k : ℕ)
      → Factor f g k
      → ¬ Factor (fixed R D q i) g k)
  irreducible_common m l = (
    λ j i k s. (coprime_common F m).0 ((irreducible_test m l).0 j i k s),
    λ h. (irreducible_test m l).1 (λ i k s. (coprime_common F m).1 (h i k s)),
  )
