-- The Frobenius map in prime characteristic.
--
--   frobenius-add    == (a + b)^p = a^p + b^p in a ring of characteristic p
--   frobenius        == in a ring of characteristic p, taking the power p^w is a homomorphism
--   numeral-fixed    == it leaves the n-fold sums of 1 as they are
--   fermat_power     == hence c^(p^w) = c
--   power-series     == for a series f, f^(p^w) is f with its coefficients raised to p^w, spread p^w places
--                       apart
--   power-polynomial == the same for polynomials
--
-- Assumes nothing.
use Prim.Native.Nat.{ℕ, zero, suc, ◌-◌, ◌^◌, ◌<◌}
use mathlib.Core.Path.{◌≡◌, sym, ap, ap₂, fun_ext, ◌∙◌}
use native.Mathlib.Nat.{pow-zero, pow-suc}
use native.Mathlib.Omega.{arith}
use Rattle.algebra.proofs.Rings.Ring.{Ring, Hom, hom}
use Rattle.algebra.proofs.Rings.Multiple.{numeral, hom-numeral}
use Rattle.algebra.proofs.Rings.Power.{power, power-one, power-power, power-mul, power_of_one}
use Rattle.algebra.proofs.Rings.Power.{hom-power}
use Rattle.algebra.proofs.Polynomials.Series.{tail, series, constant-series, x-series, series-split}
use Rattle.algebra.proofs.Polynomials.Series.{x-mul, constant-hom}
use Rattle.algebra.proofs.Polynomials.Spread.{spread, join, spread_rule, spread-polynomial}
use Rattle.algebra.proofs.Polynomials.Spread.{map-polynomial, coefficient-spread, coefficient-map}
use Rattle.algebra.proofs.Polynomials.Polynomial.{Polynomial, constant-polynomial-hom, polynomials}
use Rattle.algebra.proofs.Polynomials.Polynomial.{coefficient, coefficient-hom, polynomial_ext}
use Rattle.algebra.proofs.Numbers.Number.{Prime, prime-pos, prime-power-pos}
use Rattle.algebra.proofs.Rings.Characteristic.{Characteristic, multiple-divides, hom_characteristic}
use Rattle.algebra.proofs.Rings.Sum.{sum, sum_first, sum-last, sum_zeros}
use Rattle.algebra.proofs.Rings.Binomial.{choose-prime, binomial_term, term-first, term-last, binomial}
use Rattle.algebra.proofs.FiniteFields.PrimeField.{Residue, prime_ring, prime_characteristic}
use Rattle.algebra.proofs.FiniteFields.PrimeField.{residue-value, residue-numeral}

-- A sum of which the first and the last summand alone are not 0
sum-ends : {K : Type 0} (R : Ring K) (n : ℕ) (f : ℕ → K) → 0 < n → ((k : ℕ) → 0 < k → k < n → f k ≡ R.0#)
    → sum R (suc n) f ≡ R.◌⊕◌ (f 0) (f n)
sum-ends R zero f s h = absurd (omega arith)
sum-ends R (suc n) f s h = sum-last R (suc n) f ∙ ap (λ x. R.◌⊕◌ x (f (suc n))) front
  where
    front : sum R (suc n) f ≡ f 0
    front =
        sum_first R n f
        ∙ ap (R.◌⊕◌ (f 0)) (sum_zeros R n (λ i l. h (suc i) (omega arith) (omega arith)))
        ∙ R.add-zero (f 0)

module _ {K : Type 0} {R : Ring K} {p : ℕ} (C : Characteristic R p) where
  open R use {0#, ◌⊕◌, ◌⊗◌, add_comm}

  infixl 60 ◌⊕◌
  infixl 70 ◌⊗◌
  inner-term : (a b : K) (k : ℕ) → 0 < k → k < p → binomial_term R a b p k ≡ 0#
  unfolding binomial_term
  inner-term a b k s l = multiple-divides C (choose-prime C.prime k s l) (power R a k ⊗ power R b (p - k))

  pub frobenius-add : (a b : K) → power R (a ⊕ b) p ≡ power R a p ⊕ power R b p
  frobenius-add a b =
      binomial R a b p
      ∙ sum-ends R p (binomial_term R a b p) (prime-pos C.prime) (inner-term a b)
      ∙ ap₂ ◌⊕◌ (term-first R a b p) (term-last R a b p)
      ∙ add_comm (power R b p) (power R a p)

  power_of_sum : (w : ℕ) (a b : K) → power R (a ⊕ b) (p ^ w) ≡ power R a (p ^ w) ⊕ power R b (p ^ w)
  power_of_sum zero a b = rw pow-zero (power-one R (a ⊕ b) ∙ sym (ap₂ ◌⊕◌ (power-one R a) (power-one R b)))
  power_of_sum (suc w) a b =
      rw (pow-suc, ← power-power R (a ⊕ b), ← power-power R a, ← power-power R b, power_of_sum w a b)
      (frobenius-add (power R a (p ^ w)) (power R b (p ^ w)))

  pub frobenius : (w : ℕ) → Hom R R (λ a. power R a (p ^ w))
  frobenius w = hom (power_of_one R (p ^ w)) (power_of_sum w) (λ a b. power-mul R a b (p ^ w))

  pub numeral-fixed : (w n : ℕ) → power R (numeral R n) (p ^ w) ≡ numeral R n
  numeral-fixed w n = hom-numeral (frobenius w) n

  pub polynomial_characteristic : (D : Discrete K) → Characteristic (polynomials R D) p
  polynomial_characteristic D = hom_characteristic (constant-polynomial-hom R D) C

-- Series and polynomials: the power p^w spreads the coefficients' powers p^w places apart
module _ {K : Type 0} {R : Ring K} {p : ℕ} (C : Characteristic R p) (w : ℕ) where
  open series R use {◌⊕◌, ◌⊗◌}

  infixl 60 ◌⊕◌
  infixl 70 ◌⊗◌
  abbrev q : ℕ
  q = p ^ w

  abbrev raise : K → K
  raise c = power R c q

  q-pos : 0 < q
  q-pos = prime-power-pos C.prime w

  by-head : (f : ℕ → K) → f ≡ constant-series R (f 0) ⊕ x-series R ⊗ tail f
  by-head f = series-split R f ∙ ap (λ g. constant-series R (f 0) ⊕ g) (sym (x-mul R (tail f)))

  power_rule : (f : ℕ → K) → power (series R) f q ≡ join R q (raise (f 0)) (power (series R) (tail f) q)
  unfolding join
  power_rule f =
      ap (λ g. power (series R) g q) (by-head f)
      ∙ power_of_sum (hom_characteristic (constant-hom R) C) w (constant-series R (f 0)) (x-series R ⊗ tail f)
      ∙ ap₂ ◌⊕◌ (sym (hom-power (constant-hom R) (f 0) q)) (power-mul (series R) (x-series R) (tail f) q)

  pub power-series : (f : ℕ → K) → power (series R) f (p ^ w) ≡ spread R (p ^ w) (λ i. power R (f i) (p ^ w))
  power-series = spread_rule R q q-pos raise (λ f. power (series R) f q) power_rule

  pub power-polynomial :
      {D : Discrete K} (f : Polynomial R D)
      → power (polynomials R D) f (p ^ w)
      ≡ spread-polynomial (p ^ w) (map-polynomial (λ c. power R c (p ^ w)) f)
  power-polynomial {D} f = polynomial_ext (λ n. ap (λ u. u n) coefficients)
    where
      coefficients :
          coefficient (power (polynomials R D) f q)
          ≡ coefficient (spread-polynomial q (map-polynomial raise f))
      coefficients =
          hom-power (coefficient-hom R D) f q
          ∙ power-series (coefficient f)
          ∙ ap (spread R q) (fun_ext (λ i. sym (coefficient-map raise (frobenius C w).zero f i)))
          ∙ sym (coefficient-spread q q-pos (map-polynomial raise f))

-- The field of p elements
pub fermat_power : {p : ℕ} (P : Prime p) (w : ℕ) (c : Residue p) → power (prime_ring P) c (p ^ w) ≡ c
fermat_power {p} P w c =
    ap (λ x. power (prime_ring P) x (p ^ w)) is-numeral
    ∙ numeral-fixed (prime_characteristic P) w c.0
    ∙ sym is-numeral
  where
    is-numeral : c ≡ numeral (prime_ring P) c.0
    is-numeral = sym (residue-value p (prime-pos P) c) ∙ residue-numeral p (prime-pos P) c.0
