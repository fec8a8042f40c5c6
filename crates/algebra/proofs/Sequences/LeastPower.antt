-- Least powers of polynomials that annihilate a sequence: their product, and their digits.
--
--   power-product-degree fs d e
--                       == d 0 · e 0 + d 1 · e 1 + …, with a summand for each member of fs; 0 for no member
--   monic-power-product == that is the degree of the product of the powers e of monic polynomials fs of the
--                          degrees d
--   least-powers-minimal
--                       == over a field, where some product of powers of different irreducible polynomials
--                          annihilates s, the product of their `LeastPowers` is the minimal polynomial of s
--   kills-power_upward  == where a power of f annihilates s, every larger one does
--   kills-power-digits  == if a power of f of at most p^w annihilates s, the least that does is found by its
--                          digits in base p; which powers annihilate s is decided by a monic g that does
--
-- Assumes nothing.
use mathlib.Core.Path.{◌≡◌, sym, subst}
use mathlib.Core.List.{List, [], ◌∷◌}
use lib.ListN.{length, get_or}
use Prim.Native.Nat.{ℕ, suc, ◌+◌, ◌*◌, ◌^◌, ◌≤◌, ◌<◌, suc-le-suc}
use native.Mathlib.Omega.{arith}
use Rattle.algebra.proofs.Numbers.Number.{Least}
use Rattle.algebra.proofs.Rings.Ring.{Ring, Field}
use Rattle.algebra.proofs.Rings.Power.{power}
use Rattle.algebra.proofs.Rings.Ideal.{divides-power, divides-member}
use Rattle.algebra.proofs.Rings.PowerProduct.{power-product, power-product-nil, power-product-cons}
use Rattle.algebra.proofs.Rings.PowerProduct.{LeastPowers, least-powers_generate}
use Rattle.algebra.proofs.Numbers.Digits.{Upward, exponent, least-by-digits}
use Rattle.algebra.proofs.Polynomials.Polynomial.{Polynomial, polynomials}
use Rattle.algebra.proofs.Polynomials.Monic.{Monic, monic-one, monic-mul, monic-power}
use Rattle.algebra.proofs.Polynomials.Irreducible.{Irreducible, irreducibles-atoms}
use Rattle.algebra.proofs.Sequences.Action.{Kills}
use Rattle.algebra.proofs.Sequences.Annihilator.{Minimal, kills-ideal, kills-decided}
use Rattle.algebra.proofs.Sequences.Annihilator.{generator-minimal}

unfoldable pub power-product-degree : {A : Type 0} → List A → (d e : ℕ → ℕ) → ℕ
power-product-degree [] d e = 0
power-product-degree (f ∷ fs) d e = d 0 * e 0 + power-product-degree fs (λ i. d (suc i)) (λ i. e (suc i))

module _ {K : Type 0} {R : Ring K} {D : Discrete K} where
  open polynomials R D use {0# as 0ₚ}

  pub monic-power-product :
      (fs : List (Polynomial R D)) (d e : ℕ → ℕ)
      → ((i : ℕ) → i < length fs → Monic (get_or fs i 0ₚ) (d i))
      → Monic (power-product (polynomials R D) fs e) (power-product-degree fs d e)
  unfolding power-product-degree
  monic-power-product [] d e m =
      subst (λ f. Monic f 0) (sym (power-product-nil (polynomials R D) e)) (monic-one R D)
  monic-power-product (f ∷ fs) d e m =
      subst
      (λ g. Monic g (d 0 * e 0 + power-product-degree fs (λ i. d (suc i)) (λ i. e (suc i))))
      (sym (power-product-cons (polynomials R D) f fs e))
      (
      monic-mul
      (monic-power (e 0) (m 0 (omega arith)))
      (monic-power-product fs (λ i. d (suc i)) (λ i. e (suc i)) (λ i l. m (suc i) (suc-le-suc l)))
      )

  -- The powers of one polynomial.
  pub kills-power_upward :
      (s : ℕ → K) (f : Polynomial R D) → Upward (λ i. Kills s (power (polynomials R D) f i))
  kills-power_upward s f i j l =
      divides-member (polynomials R D) (kills-ideal s) (divides-power (polynomials R D) f l)

  pub kills-power-digits :
      {s : ℕ → K} {g : Polynomial R D} {n : ℕ} (m : Monic g n) (z : Kills s g)
      (f : Polynomial R D) (p w v : ℕ)
      → v ≤ p ^ w
      → Kills s (power (polynomials R D) f v)
      → Least
      (λ i. Kills s (power (polynomials R D) f i))
      (exponent (λ i. kills-decided m z (power (polynomials R D) f i)) (λ i n. n + i) (λ l n. n) p w 0)
  kills-power-digits {s} m z f =
      least-by-digits (λ i. kills-decided m z (power (polynomials R D) f i)) (kills-power_upward s f)

-- Over a field.
module _ {K : Type 0} {R : Ring K} {D : Discrete K} (F : Field R) where
  open polynomials R D use {0# as 0ₚ}

  pub least-powers-minimal :
      {s : ℕ → K} (fs : List (Polynomial R D)) (d : ℕ → ℕ) {u r : ℕ → ℕ}
      → ((i : ℕ) → i < length fs → Irreducible (get_or fs i 0ₚ) (d i))
      → ((i j : ℕ) → i < j → j < length fs → ¬ (get_or fs i 0ₚ ≡ get_or fs j 0ₚ))
      → LeastPowers (polynomials R D) (Kills s) fs u r
      → Minimal s (power-product (polynomials R D) fs r) (power-product-degree fs d r)
  least-powers-minimal {s} fs d {r = r} irreducible different powers =
      generator-minimal
      F.one_nonzero
      (monic-power-product fs d r (λ i l. (irreducible i l).monic))
      (
      least-powers_generate
      (polynomials R D)
      (kills-ideal s)
      (irreducibles-atoms F fs d irreducible different)
      powers
      )
