-- Binomial coefficients and the binomial theorem.
--
--   choose n k      == the binomial coefficient n over k, by Pascal's rule; 0 for k > n
--   choose_absorb   == k · (n over k) = n · (n − 1 over k − 1)
--   choose-prime    == a prime p divides p over k for 0 < k < p
--   binomial_term R a b n k
--                   == (n over k)-fold a^k b^(n - k); 0 for k > n
--   binomial        == the binomial theorem: (a + b)^n is the sum of these terms for k from 0 to n
--
-- Assumes nothing.
use Prim.Native.Nat.{ℕ, zero, suc, ◌+◌, ◌-◌, ◌*◌, ◌<◌, ◌∣◌}
use mathlib.Core.Path.{◌≡◌, refl, sym, ap, ap₂, ◌∙◌}
use mathlib.Core.Logic.{inl, inr}
use native.Mathlib.Nat.{dvd-mul_right, suc-sub-suc, sub-zero, sub_self, le-suc}
use native.Mathlib.Omega.{arith}
use native.Mathlib.Decide.{dec_lt}
use Rattle.algebra.proofs.Rings.Ring.{Ring, mul_right_comm, zero-mul, one-mul, add_left_comm}
use Rattle.algebra.proofs.Rings.Multiple.{
  multiple,
  multiple-zero,
  multiple-one,
  multiple-add,
  multiple-mul-left,
}
use Rattle.algebra.proofs.Rings.Power.{power, power_zero, power-suc}
use Rattle.algebra.proofs.Rings.Sum.{sum, sum_first, sum_one, sum_ext, sum-add, sum-scale-right}
use Rattle.algebra.proofs.Rings.Sum.{sum_shorten}
use Rattle.algebra.proofs.Numbers.Number.{Prime, euclid, not-divides-below}

unfoldable pub choose : ℕ → ℕ → ℕ
choose n zero = 1
choose zero (suc k) = 0
choose (suc n) (suc k) = choose n k + choose n (suc k)

pub choose_pascal : (n k : ℕ) → choose (suc n) (suc k) ≡ choose n k + choose n (suc k)
unfolding choose
choose_pascal n k = refl

pub choose-zero : (n : ℕ) → choose n 0 ≡ 1
unfolding choose
choose-zero n = refl

pub choose-above : (n k : ℕ) → n < k → choose n k ≡ 0
unfolding choose
choose-above n zero l = absurd (omega arith)
choose-above zero (suc k) l = refl
choose-above (suc n) (suc k) l =
    omega (arith, choose-above n k (omega arith), choose-above n (suc k) (omega arith))

pub choose_self : (n : ℕ) → choose n n ≡ 1
unfolding choose
choose_self zero = refl
choose_self (suc n) = omega (arith, choose_self n, choose-above n (suc n) (omega arith))

pub choose_absorb : (n k : ℕ) → suc k * choose (suc n) (suc k) ≡ suc n * choose n k
unfolding choose
choose_absorb zero zero = refl
choose_absorb zero (suc k) = omega arith
choose_absorb (suc n) zero = omega (arith, choose_absorb n zero)
choose_absorb (suc n) (suc k) = omega (arith, choose_absorb n k, choose_absorb n (suc k))

pub choose-prime : {p : ℕ} → Prime p → (k : ℕ) → 0 < k → k < p → p ∣ choose p k
choose-prime {p = zero} P k s l = absurd (omega arith)
choose-prime {p = suc n} P zero s l = absurd (omega arith)
choose-prime {p = suc n} P (suc k) s l = elim (euclid P (suc k) (choose (suc n) (suc k)) product) [
  | inl d ↦ absurd (not-divides-below s l d)
  | inr d ↦ d
]
  where
    product : suc n ∣ suc k * choose (suc n) (suc k)
    product = rw choose_absorb (dvd-mul_right (suc n) (choose n k))

-- The terms of the power of a sum
module _ {K : Type 0} (R : Ring K) (a b : K) where
  open R use {0#, ◌⊕◌, ◌⊗◌, mul_assoc, mul-one, mul-add}

  infixl 60 ◌⊕◌
  infixl 70 ◌⊗◌
  unfoldable pub binomial_term : ℕ → ℕ → K
  binomial_term n k = multiple R (choose n k) (power R a k ⊗ power R b (n - k))

  term-above : (n k : ℕ) → n < k → binomial_term n k ≡ 0#
  unfolding binomial_term
  term-above n k l = rw (choose-above n k l) (multiple-zero R _)

  -- Pascal's rule for the terms: the factors of the next term, once for each part of its coefficient
  abbrev factors : ℕ → ℕ → K
  factors n k = power R a (suc k) ⊗ power R b (n - k)

  term-left : (n k : ℕ) → multiple R (choose n k) (factors n k) ≡ binomial_term n k ⊗ a
  unfolding binomial_term
  term-left n k = rw (factors, multiple-mul-left R, power-suc R a k, mul_right_comm R (power R a k) a)

  term-right : (n k : ℕ) → multiple R (choose n (suc k)) (factors n k) ≡ binomial_term n (suc k) ⊗ b
  unfolding binomial_term
  term-right n k = elim (dec_lt k n) [
    | yes l ↦ rw (factors, multiple-mul-left R, less l, power-suc R b (n - suc k), ← mul_assoc)
    | no h ↦ simp (choose-above n (suc k) (omega arith), multiple-zero R, zero-mul R)
  ]
    where
      less : k < n → n - k ≡ suc (n - suc k)
      less l = omega arith

  term_open :
      (n k : ℕ)
      → binomial_term (suc n) (suc k)
      ≡ multiple R (choose n k) (factors n k) ⊕ multiple R (choose n (suc k)) (factors n k)
  unfolding binomial_term
  term_open n k = rw (choose_pascal, suc-sub-suc) (multiple-add R (choose n k) (choose n (suc k)) _)

  term_pascal : (n k : ℕ) → binomial_term (suc n) (suc k) ≡ binomial_term n k ⊗ a ⊕ binomial_term n (suc k)
      ⊗ b
  term_pascal n k = term_open n k ∙ ap₂ ◌⊕◌ (term-left n k) (term-right n k)

  pub term-first : (n : ℕ) → binomial_term n 0 ≡ power R b n
  unfolding binomial_term
  term-first n = rw (choose-zero, power_zero R a, one-mul R, sub-zero) (multiple-one R (power R b n))

  pub term-last : (n : ℕ) → binomial_term n n ≡ power R a n
  unfolding binomial_term
  term-last n = rw (choose_self, sub_self, power_zero R b, mul-one) (multiple-one R (power R a n))

  module _ (n : ℕ) where
    abbrev whole : K
    whole = sum R (suc n) (binomial_term n)

    abbrev shifted : K
    shifted = sum R (suc n) (λ k. binomial_term n (suc k) ⊗ b)

    sum_pascal : sum R (suc n) (λ k. binomial_term (suc n) (suc k)) ≡ whole ⊗ a ⊕ shifted
    sum_pascal =
        sum_ext R (suc n) (λ k _. term_pascal n k)
        ∙ sum-add R (suc n) (λ k. binomial_term n k ⊗ a) (λ k. binomial_term n (suc k) ⊗ b)
        ∙ ap (λ x. x ⊕ shifted) (sum-scale-right R (suc n) (binomial_term n) a)

    sum_unshifted : binomial_term n 0 ⊗ b ⊕ shifted ≡ whole ⊗ b
    sum_unshifted =
        sym (sum_first R (suc n) (λ k. binomial_term n k ⊗ b))
        ∙ sum-scale-right R (suc (suc n)) (binomial_term n) b
        ∙ ap (λ x. x ⊗ b) (sum_shorten R (le-suc (suc n)) (term-above n))

    sum_step : sum R (suc (suc n)) (binomial_term (suc n)) ≡ whole ⊗ (a ⊕ b)
    sum_step =
        sum_first R (suc n) (binomial_term (suc n))
        ∙ ap₂ ◌⊕◌ (rw (term-first, term-first) (power-suc R b n)) sum_pascal
        ∙ add_left_comm R (binomial_term n 0 ⊗ b) (whole ⊗ a) shifted
        ∙ ap (λ x. whole ⊗ a ⊕ x) sum_unshifted
        ∙ sym (mul-add whole a b)

  pub binomial : (n : ℕ) → power R (a ⊕ b) n ≡ sum R (suc n) (binomial_term n)
  binomial zero = power_zero R (a ⊕ b) ∙ sym (sum_one R (binomial_term 0) ∙ term-first 0 ∙ power_zero R b)
  binomial (suc n) = power-suc R (a ⊕ b) n ∙ ap (λ x. x ⊗ (a ⊕ b)) (binomial n) ∙ sym (sum_step n)
