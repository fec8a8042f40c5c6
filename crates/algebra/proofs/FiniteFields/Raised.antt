-- Ben-Or's test as a loop: polynomials h that are x^(q^i) modulo f, and the greatest common divisors of f and
-- h - x.
--
--   Raised R D q f h i  == h = x^(q^i) modulo f
--   raised-start        == x is x^(q^0)
--   raised-step         == where h is x^(q^i), what is h^q modulo f is x^(q^(i + 1)), modulo f
--   Passed R D q f i    == f is coprime to x^(q^j) - x for 1 ≤ j ≤ i
--   passed_start        == it is for i = 0
--   passed-step         == and from i to i + 1 where a greatest common divisor of f and h - x has degree 0
--   passed-irreducible  == passed up to half of its degree, f is irreducible
--   failed_reducible    == with a greatest common divisor of positive degree, f is not
--
-- Code that makes h ← h^q mod f and gcd(f, h - x) for i = 1, 2, … while 2·i ≤ d, the degree of f, cites these
-- so. The invariant, with i turns done, is `Raised R D q f h i` and `Passed R D q f i`; before the loop h = x
-- and i = 0, `raised-start` and `passed_start` (for d = 1 the loop is empty, and h = x need not be below d).
-- In a turn the division by f gives h^q = quotient·f + h', so `Divides f (h^q - h')`, and `raised-step` gives
-- `Raised R D q f h' (i + 1)`. Euclid's steps on f and h' - x (`gcd-step`, `gcd-zero`; where h' - x is 0, f
-- is the divisor) give `Gcd f (h' - x) g` and the degree k of g: where k = 0, `passed-step`; otherwise
-- `failed_reducible` answers no. After the loop d < 2·(i + 1), and `passed-irreducible` answers yes.
-- Assumes nothing.
use mathlib.Core.Path.{◌≡◌, refl, sym, subst}
use mathlib.Core.Logic.{◌⊎◌, inl, inr, ◌↔◌}
use Prim.Native.Nat.{ℕ, suc, ◌*◌, ◌^◌, ◌≤◌, ◌<◌}
use native.Mathlib.Nat as ℕ
use native.Mathlib.Omega.{arith}
use Rattle.algebra.proofs.Rings.Ring.{Ring, Field}
use Rattle.algebra.proofs.Rings.Solver.{solve, ◌:=◌, ◌:+◌, :-◌}
use Rattle.algebra.proofs.Rings.Power.{power, power_tower, tower_one}
use Rattle.algebra.proofs.Rings.Ideal.{
  Ideal,
  Divides,
  Coprime,
  multiples-ideal,
  congruent-refl,
  congruent_sym,
  congruent_trans,
  congruent-power,
  coprime-congruent,
}
use Rattle.algebra.proofs.Rings.Characteristic.{Characteristic}
use Rattle.algebra.proofs.Polynomials.Polynomial.{Polynomial, polynomials, X}
use Rattle.algebra.proofs.Polynomials.Monic.{Degree, Monic}
use Rattle.algebra.proofs.Polynomials.Divisor.{Gcd, coprime-gcd}
use Rattle.algebra.proofs.Polynomials.Irreducible.{Irreducible}
use Rattle.algebra.proofs.FiniteFields.FiniteField.{Elements}
use Rattle.algebra.proofs.FiniteFields.BenOr.{fixed, irreducible-coprime, coprime-irreducible}

-- Powers modulo f
module _ {K : Type 0} (R : Ring K) (D : Discrete K) (q : ℕ) where
  open polynomials R D use {◌⊕◌ as ◌⊞◌, ⊖◌ as ⊟◌}

  infixl 60 ◌⊞◌
  infix 80 ⊟◌
  abbrev P : Ring (Polynomial R D)
  P = polynomials R D

  pub record Raised (f h : Polynomial R D) (i : ℕ) : Type 0 where
    pub congruent : Divides (polynomials R D) f (h ⊞ ⊟ power (polynomials R D) (X R D) (q ^ i))

  pub record Passed (f : Polynomial R D) (i : ℕ) : Type 0 where
    pub coprime : (j : ℕ) → 1 ≤ j → j ≤ i → Coprime (polynomials R D) f (fixed R D q j)

  pub raised-start : (f : Polynomial R D) → Raised f (X R D) 0
  raised-start f = record {
    congruent =
        subst (λ u. Divides P f (X R D ⊞ ⊟ u)) (sym (tower_one P q (X R D)))
        (congruent-refl P (multiples-ideal P f) (X R D));
  }

  pub raised-step :
      {f h h' : Polynomial R D} {i : ℕ}
      → Raised f h i
      → Divides P f (power P h q ⊞ ⊟ h')
      → Raised f h' (suc i)
  raised-step {f} {h} {h'} {i} r e = record {
    congruent =
        subst (λ u. Divides P f (h' ⊞ ⊟ u)) (sym (power_tower P q (X R D) i))
        (congruent_trans P ideal (congruent_sym P ideal e) (congruent-power P ideal q r.congruent));
  }
    where
      ideal : Ideal P (Divides P f)
      ideal = multiples-ideal P f

  -- then f is coprime to h - x exactly where it is coprime to x^(q^i) - x
  raised-coprime :
      {f h : Polynomial R D} {i : ℕ}
      → Raised f h i
      → Coprime P f (h ⊞ ⊟ X R D)
      ↔ Coprime P f (fixed R D q i)
  raised-coprime {f} {h} {i} r = (
    coprime-congruent P same,
    coprime-congruent P (congruent_sym P (multiples-ideal P f) same),
  )
    where
      same : Divides P f (h ⊞ ⊟ X R D ⊞ ⊟ fixed R D q i)
      same =
          subst (Divides P f)
          (solve P 3 (λ h u x. h :+ :- u := h :+ :- x :+ :- (u :+ :- x)) refl h _ (X R D))
          r.congruent

  pub passed_start : (f : Polynomial R D) → Passed f 0
  passed_start f = record { coprime = λ j l k. absurd (omega arith) }

-- Greatest common divisors over a field
module _ {K : Type 0} {R : Ring K} {D : Discrete K} (F : Field R) where
  module _ (q : ℕ) where
    open polynomials R D use {◌⊕◌ as ◌⊞◌, ⊖◌ as ⊟◌}

    infixl 60 ◌⊞◌
    infix 80 ⊟◌
    pub passed-step :
        {f h g : Polynomial R D} {i k : ℕ}
        → Passed R D q f i
        → Raised R D q f h (suc i)
        → Degree g k
        → Gcd (polynomials R D) f (h ⊞ ⊟ X R D) g
        → k ≡ 0
        → Passed R D q f (suc i)
    passed-step {f} {i = i} before r d p z = record { coprime = λ j l s. go j l (ℕ.eq-or-lt_of_le s) }
      where
        go : (j : ℕ) → 1 ≤ j → (j ≡ suc i) ⊎ (j < suc i) → Coprime (polynomials R D) f (fixed R D q j)
        go j l (inl e) = rw e ((raised-coprime R D q r).0 ((coprime-gcd F d p).1 z))
        go j l (inr s) = before.coprime j l (ℕ.le_of_suc-le-suc s)

-- The answers
module _ {K : Type 0} {R : Ring K} {D : Discrete K} {q : ℕ} (F : Field R) (E : Elements K q) where
  pub passed-irreducible :
      {f : Polynomial R D} {d i : ℕ}
      → Monic f d
      → 0 < d
      → Passed R D q f i
      → d < 2 * suc i
      → Irreducible f d
  passed-irreducible m l h k = coprime-irreducible F E m l (λ j l' s. h.coprime j l' (omega arith))

module _ {K : Type 0} {R : Ring K} {D : Discrete K} {p q : ℕ}
    (F : Field R) (E : Elements K q) (C : Characteristic R p) (w : ℕ) (size : q ≡ p ^ w) where
  open polynomials R D use {◌⊕◌ as ◌⊞◌, ⊖◌ as ⊟◌}

  infixl 60 ◌⊞◌
  infix 80 ⊟◌
  pub failed_reducible :
      {f h g : Polynomial R D} {d i k : ℕ}
      → Raised R D q f h i
      → Degree g k
      → Gcd (polynomials R D) f (h ⊞ ⊟ X R D) g
      → 0 < k
      → 0 < i
      → i < d
      → ¬ Irreducible f d
  failed_reducible {i = i} r e g positive l s j =
      let c = (raised-coprime R D q r).1 (irreducible-coprime F E C w size j i l s) in
      omega (arith, positive, (coprime-gcd F e g).0 c)
