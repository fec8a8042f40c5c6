-- Cutting a sequence at a place, and sequences with a period.
--
--   cut s k            == the sequence s from its place k on
--   kills-cut          == h annihilates s from place k on exactly where x^k·h annihilates s
--   coprime-x          == over a field, a polynomial with a constant term other than 0 is coprime to x
--   cut-kills          == where some polynomial coprime to x annihilates s, the same polynomials annihilate s
--                         and s from any place on
--   cut-minimal        == and so both have the same minimal polynomial
--   Periodic s n       == s repeats every n terms; every sequence repeats every 0 terms
--   periodic-kills     == s repeats every n terms exactly where x^n − 1 annihilates it
--   periodic-equal     == sequences with the same period of n terms, n > 0, that agree on n terms are equal
--   periodic-divisor   == where d divides a period t, s repeats every d terms if the terms of one period do
--
-- x^n − 1 is `unity` of Derivative; it is coprime to x for n above 0 (`coprime-unity`), so that a sequence
-- with a period may be cut anywhere.
-- Assumes nothing.
use mathlib.Core.Path.{◌≡◌, refl, sym, ap, ap₂, ◌∙◌}
use mathlib.Core.Logic.{inl, inr, ◌↔◌}
use Prim.Native.Nat.{ℕ, zero, suc, ◌+◌, ◌-◌, ◌*◌, ◌/◌, ◌%◌, ◌≤◌, ◌<◌, ◌∣◌}
use native.Mathlib.Nat as ℕ
use native.Mathlib.Decide.{dec_lt}
use native.Mathlib.Omega.{arith}
use Rattle.algebra.proofs.Rings.Ring.{Ring, Field}
use Rattle.algebra.proofs.Rings.Ring.{sub-zero_of_eq, eq_of_sub-zero}
use Rattle.algebra.proofs.Rings.Power.{power}
use Rattle.algebra.proofs.Rings.Solver.{solve, ◌:=◌, ◌:+◌, ◌:*◌, :-◌, :1}
use Rattle.algebra.proofs.Rings.Ideal.{Coprime, coprime-member, coprime_sym, coprime-power-right}
use Rattle.algebra.proofs.Polynomials.Polynomial.{Polynomial, polynomials, coefficient, X}
use Rattle.algebra.proofs.Sequences.Action.{act, act-shift, act-sub, act-one, act-x-power}
use Rattle.algebra.proofs.Sequences.Action.{act-x-power-mul, Agree, Kills}
use Rattle.algebra.proofs.Sequences.Annihilator.{kills-ideal, Minimal}
use Rattle.algebra.proofs.Polynomials.Division.{x-divides-constant}
use Rattle.algebra.proofs.Polynomials.Irreducible.{irreducible-atom, irreducible-x}
use Rattle.algebra.proofs.Polynomials.Derivative.{unity}

-- In any ring, x is coprime to x^n − 1 for n above 0.
pub coprime-unity : {K : Type 0} (R : Ring K) (x : K) (n : ℕ) → 0 < n → Coprime R x (unity R x n)
unfolding power
coprime-unity R x zero l = absurd (ℕ.lt_irrefl 0 l)
coprime-unity R x (suc n) l =
    record {
      left = power R x n;
      right = R.⊖◌ R.1#;
      bezout = solve R 2 (λ x y. y :* x :+ :- :1 :* (y :* x :+ :- :1) := :1) refl x (power R x n);
    }

abbrev pub cut : {K : Type 0} → (ℕ → K) → ℕ → ℕ → K
cut s k i = s (k + i)

module _ {K : Type 0} {R : Ring K} {D : Discrete K} where
  open polynomials R D use {◌⊗◌ as ◌⊠◌}

  infixl 70 ◌⊠◌
  pub kills-cut :
      (s : ℕ → K) (k : ℕ) (h : Polynomial R D)
      → Kills (cut s k) h ↔ Kills s (power (polynomials R D) (X R D) k ⊠ h)
  kills-cut s k h = (
    λ z. record { vanishes = λ i. act-x-power-mul k h s i ∙ sym (act-shift h s k i) ∙ z.vanishes i },
    λ z. record { vanishes = λ i. act-shift h s k i ∙ sym (act-x-power-mul k h s i) ∙ z.vanishes i },
  )

  pub cut_of_kills : {s : ℕ → K} {h : Polynomial R D} (k : ℕ) → Kills s h → Kills (cut s k) h
  cut_of_kills {s} {h} k z = record { vanishes = λ i. act-shift h s k i ∙ z.vanishes (k + i) }

-- Over a field, x is coprime to what it does not divide.
module _ {K : Type 0} {R : Ring K} {D : Discrete K} (F : Field R) where
  open R use {0#}

  pub coprime-x : (f : Polynomial R D) → ¬ (coefficient f 0 ≡ 0#) → Coprime (polynomials R D) (X R D) f
  coprime-x f h = elim (irreducible-atom F (irreducible-x F.one_nonzero) f) [
    | inl d ↦ absurd (h (x-divides-constant d))
    | inr p ↦ p
  ]

-- The same annihilators and the same minimal polynomial from any place on.
module _
    {K : Type 0} {R : Ring K} {D : Discrete K} {s : ℕ → K} {f : Polynomial R D}
    (kills : Kills s f) (coprime : Coprime (polynomials R D) (X R D) f)
  where
    coprime-x-power : (k : ℕ) → Coprime (polynomials R D) (power (polynomials R D) (X R D) k) f
    coprime-x-power k =
        coprime_sym
        (polynomials R D)
        (coprime-power-right (polynomials R D) (coprime_sym (polynomials R D) coprime) k)

    pub cut-kills : (k : ℕ) (h : Polynomial R D) → Kills (cut s k) h ↔ Kills s h
    cut-kills k h = (
      λ z. coprime-member
          (polynomials R D)
          (kills-ideal s)
          (coprime-x-power k)
          ((kills-cut s k h).0 z)
          (rw ((polynomials R D).mul_comm f h) ((kills-ideal s).multiple h kills)),
      λ z. cut_of_kills k z,
    )

    pub cut-minimal : (k : ℕ) (g : Polynomial R D) (n : ℕ) → Minimal (cut s k) g n ↔ Minimal s g n
    cut-minimal k g n = (
      λ x. record {
        monic = x.monic;
        kills = (cut-kills k g).0 x.kills;
        least = λ h m a z. x.least h m a ((cut-kills k h).1 z);
      },
      λ x. record {
        monic = x.monic;
        kills = (cut-kills k g).1 x.kills;
        least = λ h m a z. x.least h m a ((cut-kills k h).0 z);
      },
    )

-- Sequences with a period.
abbrev pub Periodic : {K : Type 0} → (ℕ → K) → ℕ → Type 0
Periodic s n = (i : ℕ) → s (i + n) ≡ s i

module _ {K : Type 0} {s : ℕ → K} (n : ℕ) (periodic : Periodic s n) where
  pub periodic-multiple : (i m : ℕ) → s (i + m * n) ≡ s i
  periodic-multiple i zero = ap s (omega arith)
  periodic-multiple i (suc m) =
      ap s (rw (ℕ.suc-mul m n) (omega arith)) ∙ periodic (i + m * n) ∙ periodic-multiple i m

  pub periodic-remainder : (i : ℕ) → s (i % n) ≡ s i
  periodic-remainder i = sym (periodic-multiple (i % n) (i / n)) ∙ ap s (ℕ.mod-add-div' i n)

-- Sequences with the same period and the same terms at its places are equal.
pub periodic-equal :
    {K : Type 0} {s t : ℕ → K} (n : ℕ)
    → 0 < n
    → Periodic s n
    → Periodic t n
    → Agree n s t
    → (i : ℕ)
    → s i ≡ t i
periodic-equal n l h k a i =
    sym (periodic-remainder n h i) ∙ a (i % n) (ℕ.mod-lt i l) ∙ periodic-remainder n k i

-- What holds at the places of one period holds everywhere.
pub periodic-all :
    {K : Type 0} {s : ℕ → K} (n : ℕ)
    → Periodic s n
    → (a : K)
    → 0 < n
    → ((i : ℕ) → i < n → s i ≡ a)
    → (i : ℕ)
    → s i ≡ a
periodic-all n h a l = periodic-equal n l h (λ _. refl)

-- Where d divides a period t, the terms of one period tell whether s repeats every d terms.
module _ {K : Type 0} {s : ℕ → K} (d t : ℕ) (d-pos : 0 < d) (t-pos : 0 < t) (divides : d ∣ t)
    (periodic : Periodic s t) (within : (i : ℕ) → i + d < t → s (i + d) ≡ s i) where
  first-places : (b i : ℕ) → i ≤ b → i < t → s (i % d) ≡ s i
  first-places zero i l k = ap s (ℕ.mod-eq_of_lt (omega arith))
  first-places (suc b) i l k = elim (dec_lt i d) [
    | yes c ↦ ap s (ℕ.mod-eq_of_lt c)
    | no c ↦
        let e : i - d + d ≡ i = ℕ.sub-add_cancel (omega arith) in
        ap s (ap (λ (j : ℕ). j % d) (sym e) ∙ ℕ.add-mod_right (i - d) d)
        ∙ first-places b (i - d) (omega arith) (omega arith)
        ∙ sym (within (i - d) (omega arith))
        ∙ ap s e
  ]

  place-remainder : (i : ℕ) → s (i % d) ≡ s i
  place-remainder i =
      ap s (sym (ℕ.mod-mod_of_dvd d i divides))
      ∙ first-places t (i % t) (omega (arith, ℕ.mod-lt i t-pos)) (ℕ.mod-lt i t-pos)
      ∙ periodic-remainder t periodic i

  pub periodic-divisor : Periodic s d
  periodic-divisor i =
      sym (place-remainder (i + d)) ∙ ap s (ℕ.add-mod_right i d) ∙ place-remainder i

module _ {K : Type 0} (R : Ring K) (D : Discrete K) where
  open R use {◌⊕◌, ⊖◌}
  open polynomials R D use {1# as 1ₚ}

  infixl 60 ◌⊕◌
  infix 80 ⊖◌
  period-act : (s : ℕ → K) (n k : ℕ) → act (unity (polynomials R D) (X R D) n) s k ≡ s (k + n) ⊕ ⊖ s k
  period-act s n k =
      act-sub (power (polynomials R D) (X R D) n) 1ₚ s k
      ∙ ap₂ (λ a b. a ⊕ ⊖ b) (act-x-power R D n s k ∙ ap s (ℕ.add_comm n k)) (act-one R D s k)

  pub periodic-kills :
      (s : ℕ → K) (n : ℕ) → Periodic s n ↔ Kills s (unity (polynomials R D) (X R D) n)
  periodic-kills s n = (
    λ h. record { vanishes = λ k. period-act s n k ∙ sub-zero_of_eq R (h k) },
    λ z k. eq_of_sub-zero R (sym (period-act s n k) ∙ z.vanishes k),
  )
