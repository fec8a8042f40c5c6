-- Powers in a ring with natural exponents.
--
--   power R a n   == a ⊗ … ⊗ a with n factors; 1# for n = 0, also where a is 0#
--   power_tower, tower_one == the power q^(i + 1) is the power q of the power q^i; the power q^0 of a is a
--   tower_fixed   == where a^q = a, so is a^(q^i)
--   tower_sum     == where the power q respects sums, so does the power q^i
--
-- Assumes nothing.
use mathlib.Core.Path.{◌≡◌, refl, sym, ap, ap₂, ◌∙◌}
use Prim.Native.Nat.{ℕ, zero, suc, ◌+◌, ◌*◌, ◌-◌, ◌^◌, ◌≤◌, ◌<◌}
use native.Mathlib.Nat as ℕ
use Rattle.algebra.proofs.Rings.Ring.{Ring, Hom}
use Rattle.algebra.proofs.Rings.Ring.{one-mul, mul-zero, mul-mul_comm}

module _ {K : Type 0} (R : Ring K) where
  open R use {0#, 1#, ◌⊗◌, mul_assoc, mul_comm, mul-one}

  infixl 70 ◌⊗◌
  unfoldable pub power : K → ℕ → K
  power a zero = 1#
  power a (suc n) = power a n ⊗ a

  pub power_zero : (a : K) → power a 0 ≡ 1#
  unfolding power
  power_zero a = refl

  pub power-suc : (a : K) (n : ℕ) → power a (suc n) ≡ power a n ⊗ a
  unfolding power
  power-suc a n = refl

  pub power-suc-left : (a : K) (n : ℕ) → power a (suc n) ≡ a ⊗ power a n
  power-suc-left a n = power-suc a n ∙ mul_comm (power a n) a

  pub power-one : (a : K) → power a 1 ≡ a
  unfolding power
  power-one a = one-mul R a

  -- Powers with a sum and a difference of exponents.
  pub power-add : (a : K) (m n : ℕ) → power a (m + n) ≡ power a m ⊗ power a n
  unfolding power
  power-add a m zero = rw ℕ.add-zero (sym (mul-one (power a m)))
  power-add a m (suc n) =
      rw ℕ.add-suc (ap (λ x. x ⊗ a) (power-add a m n) ∙ mul_assoc (power a m) (power a n) a)

  pub power-split : (a : K) {m n : ℕ} → m ≤ n → power a n ≡ power a (n - m) ⊗ power a m
  power-split a {m} {n} h = ap (power a) (sym (ℕ.sub-add_cancel h)) ∙ power-add a (n - m) m

  -- The power of a product, of 1, of 0, of a power.
  pub power-mul : (a b : K) (n : ℕ) → power (a ⊗ b) n ≡ power a n ⊗ power b n
  unfolding power
  power-mul a b zero = sym (mul-one 1#)
  power-mul a b (suc n) = ap (λ x. x ⊗ (a ⊗ b)) (power-mul a b n) ∙ mul-mul_comm R (power a n) (power b n) a b

  pub power_of_one : (n : ℕ) → power 1# n ≡ 1#
  unfolding power
  power_of_one zero = refl
  power_of_one (suc n) = mul-one (power 1# n) ∙ power_of_one n

  pub power_of_zero : (n : ℕ) → 0 < n → power 0# n ≡ 0#
  power_of_zero zero h = absurd (ℕ.lt_irrefl 0 h)
  power_of_zero (suc n) h = power-suc 0# n ∙ mul-zero R (power 0# n)

  pub power-power : (a : K) (m n : ℕ) → power (power a m) n ≡ power a (m * n)
  unfolding power
  power-power a m zero = rw ℕ.mul-zero refl
  power-power a m (suc n) =
      rw ℕ.mul-suc (ap (λ x. x ⊗ power a m) (power-power a m n) ∙ sym (power-add a (m * n) m))

-- Powers with the exponent q^i are taken by q one after the other.
module _ {K : Type 0} (R : Ring K) (q : ℕ) where
  open R use {◌⊕◌}

  infixl 60 ◌⊕◌
  pub power_tower : (a : K) (i : ℕ) → power R a (q ^ suc i) ≡ power R (power R a (q ^ i)) q
  power_tower a i = ap (power R a) (ℕ.pow-suc q i) ∙ sym (power-power R a (q ^ i) q)

  pub tower_one : (a : K) → power R a (q ^ 0) ≡ a
  tower_one a = ap (power R a) (ℕ.pow-zero q) ∙ power-one R a

  pub tower_fixed : {a : K} → power R a q ≡ a → (i : ℕ) → power R a (q ^ i) ≡ a
  tower_fixed {a} e zero = tower_one a
  tower_fixed {a} e (suc i) = power_tower a i ∙ ap (λ u. power R u q) (tower_fixed e i) ∙ e

  pub tower_sum :
      ((a b : K) → power R (a ⊕ b) q ≡ power R a q ⊕ power R b q)
      → (i : ℕ) (a b : K)
      → power R (a ⊕ b) (q ^ i) ≡ power R a (q ^ i) ⊕ power R b (q ^ i)
  tower_sum h zero a b = tower_one (a ⊕ b) ∙ sym (ap₂ ◌⊕◌ (tower_one a) (tower_one b))
  tower_sum h (suc i) a b =
      power_tower (a ⊕ b) i
      ∙ ap (λ u. power R u q) (tower_sum h i a b)
      ∙ h (power R a (q ^ i)) (power R b (q ^ i))
      ∙ sym (ap₂ ◌⊕◌ (power_tower a i) (power_tower b i))

-- A homomorphism respects powers.
pub hom-power :
    {K L : Type 0} {R : Ring K} {S : Ring L} {f : K → L} (h : Hom R S f) (a : K) (n : ℕ)
    → f (power R a n) ≡ power S (f a) n
unfolding power
hom-power h a zero = h.one
hom-power {R = R} {S = S} {f = f} h a (suc n) =
    h.mul (power R a n) a ∙ ap (λ x. S.◌⊗◌ x (f a)) (hom-power h a n)
