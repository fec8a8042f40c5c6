-- Inverses as powers: in a field of q elements a^(q − 2) is the inverse of a.
--
--   Reciprocal F a x  == x is the inverse of a, or a stands for 0 and x is 0
--   raise-reciprocal  == a^(q − 2) is so
--
-- Assumes nothing.
use Prim.Native.Nat.{ℕ, zero, suc, ◌+◌, ◌-◌, ◌<◌}
use mathlib.Core.Path.{◌≡◌, sym, ap, ◌∙◌}
use mathlib.Core.Logic.{◌⊎◌, inl, inr}
use native.Mathlib.Omega.{arith}
use Rattle.meaning.specs.Field.{Field}
use Rattle.algebra.proofs.Rings.Ring.{zero-mul}
use Rattle.bridge.proofs.Basics.Interpretation.{IsField, element-mul, element_injective, mul-below}
use Rattle.bridge.proofs.Basics.Interpretation.{size-two, element-zero-only, power_size}
use Rattle.bridge.proofs.Basics.Interpretation.{number-mul_comm}
use Rattle.bridge.proofs.Basics.Interpretation.{number-mul_assoc, number-one-mul}
use Rattle.bridge.proofs.Lists.Spread.{raise, raise-zero-power, raise-suc-power, raise-below}
use Rattle.bridge.proofs.Lists.Spread.{element-raise}

module _ {F : Field} (I : IsField F) where
  open I use {K, ring, field, value, element}
  open ring use {0#, 1#, ◌⊗◌}

  infixl 70 ◌⊗◌
  pub raise-add : (m n a : ℕ) → F.mul (raise F m a) (raise F n a) ≡ raise F (m + n) a
  raise-add zero n a =
      ap (λ x. F.mul x (raise F n a)) (raise-zero-power F a)
      ∙ number-one-mul I (raise-below I n a)
      ∙ ap (λ k. raise F k a) (omega arith)
  raise-add (suc m) n a =
      ap (λ x. F.mul x (raise F n a)) (raise-suc-power F m a)
      ∙ number-mul_assoc I a (raise F m a) (raise F n a)
      ∙ ap (F.mul a) (raise-add m n a)
      ∙ sym (raise-suc-power F (m + n) a)
      ∙ ap (λ k. raise F k a) (omega arith)

  pub raise-last : (m a : ℕ) → F.mul (raise F m a) a ≡ raise F (suc m) a
  raise-last m a = number-mul_comm I (raise F m a) a ∙ sym (raise-suc-power F m a)

  pub record Reciprocal (a x : ℕ) : Type 0 where
    pub below : x < F.size
    pub either : (F.mul a x ≡ 1) ⊎ ((x ≡ 0) × ((y : ℕ) → F.mul a y ≡ 0))

  -- what vanishes
  product-zero : {a : ℕ} → element a ≡ 0# → (y : ℕ) → F.mul a y ≡ 0
  product-zero {a} e y =
      element-zero-only I (mul-below I a y)
      (element-mul I a y ∙ ap (λ u. u ⊗ element y) e ∙ zero-mul ring (element y))

  -- what does not: a·a^(q − 2) is a^(q − 1), and a·a^(q − 1) is a
  whole : (a : ℕ) → ¬ (element a ≡ 0#) → F.mul a (raise F (F.size - 2) a) ≡ 1
  whole a h =
      element_injective I (mul-below I a _) (size-two I)
      (ap element (sym (raise-suc-power F (F.size - 2) a) ∙ ap (λ k. raise F k a) less)
      ∙ one
      ∙ sym I.element_one)
    where
      less : suc (F.size - 2) ≡ F.size - 1
      less = omega (arith, size-two I)

      more : suc (F.size - 1) ≡ F.size
      more = omega (arith, size-two I)

      u : K
      u = element (raise F (F.size - 1) a)

      fixed : element a ⊗ u ≡ element a
      fixed =
          sym (element-mul I a (raise F (F.size - 1) a))
          ∙ ap element (sym (raise-suc-power F (F.size - 1) a) ∙ ap (λ k. raise F k a) more)
          ∙ element-raise I F.size a
          ∙ power_size I (element a)

      v : K
      v = field.inverse (element a)

      one : u ≡ 1#
      one =
          sym (ring.mul-one u)
          ∙ ap (λ z. u ⊗ z) (sym (field.mul_inverse (element a) h))
          ∙ sym (ring.mul_assoc u (element a) v)
          ∙ ap (λ z. z ⊗ v) (ring.mul_comm u (element a) ∙ fixed)
          ∙ field.mul_inverse (element a) h

  pub raise-reciprocal : 2 < F.size → (a : ℕ) → Reciprocal a (raise F (F.size - 2) a)
  raise-reciprocal l a = go (field.discrete (element a) 0#)
    where
      split : suc (F.size - 3) ≡ F.size - 2
      split = omega arith

      go : Dec (element a ≡ 0#) → Reciprocal a (raise F (F.size - 2) a)
      go (yes e) =
          record {
            below = raise-below I (F.size - 2) a;
            either =
                inr (
                  ap (λ k. raise F k a) (sym split)
                      ∙ raise-suc-power F (F.size - 3) a
                      ∙ product-zero e (raise F (F.size - 3) a),
                  product-zero e,
                );
          }
      go (no h) = record { below = raise-below I (F.size - 2) a; either = inl (whole a h) }
