-- Multiples in a ring by natural numbers.
--
--   multiple R n a   == a ⊕ … ⊕ a with n summands; 0# for n = 0
--   numeral R n      == the number n as an element of the ring: 1# ⊕ … ⊕ 1# with n summands
--
-- Assumes nothing.
use mathlib.Core.Path.{◌≡◌, refl, sym, ap, ◌∙◌}
use Prim.Native.Nat.{ℕ, zero, suc, ◌+◌, ◌*◌}
use native.Mathlib.Nat as ℕ
use Rattle.algebra.proofs.Rings.Ring.{Ring, Hom}
use Rattle.algebra.proofs.Rings.Ring.{zero-add, zero-mul, add-mul, add-add_comm}

module _ {K : Type 0} (R : Ring K) where
  open R use {0#, 1#, ◌⊕◌, ◌⊗◌, ⊖◌, add_assoc, add-zero, mul_comm, mul-one}

  infixl 60 ◌⊕◌
  infixl 70 ◌⊗◌
  infix 80 ⊖◌
  unfoldable pub multiple : ℕ → K → K
  multiple zero a = 0#
  multiple (suc n) a = multiple n a ⊕ a

  unfoldable pub numeral : ℕ → K
  numeral n = multiple n 1#

  pub multiple-zero : (a : K) → multiple 0 a ≡ 0#
  unfolding multiple
  multiple-zero a = refl

  pub multiple-suc : (n : ℕ) (a : K) → multiple (suc n) a ≡ multiple n a ⊕ a
  unfolding multiple
  multiple-suc n a = refl

  pub multiple-one : (a : K) → multiple 1 a ≡ a
  unfolding multiple
  multiple-one a = zero-add R a

  pub multiple_of_zero : (n : ℕ) → multiple n 0# ≡ 0#
  unfolding multiple
  multiple_of_zero zero = refl
  multiple_of_zero (suc n) = add-zero (multiple n 0#) ∙ multiple_of_zero n

  pub multiple-add : (m n : ℕ) (a : K) → multiple (m + n) a ≡ multiple m a ⊕ multiple n a
  unfolding multiple
  multiple-add m zero a = rw ℕ.add-zero (sym (add-zero (multiple m a)))
  multiple-add m (suc n) a =
      rw ℕ.add-suc (ap (λ x. x ⊕ a) (multiple-add m n a) ∙ add_assoc (multiple m a) (multiple n a) a)

  -- The multiple of a sum, of a negative, of a product.
  pub multiple_of_add : (n : ℕ) (a b : K) → multiple n (a ⊕ b) ≡ multiple n a ⊕ multiple n b
  unfolding multiple
  multiple_of_add zero a b = sym (add-zero 0#)
  multiple_of_add (suc n) a b =
      ap (λ x. x ⊕ (a ⊕ b)) (multiple_of_add n a b) ∙ add-add_comm R (multiple n a) (multiple n b) a b

  pub multiple-mul-left : (n : ℕ) (a b : K) → multiple n a ⊗ b ≡ multiple n (a ⊗ b)
  unfolding multiple
  multiple-mul-left zero a b = zero-mul R b
  multiple-mul-left (suc n) a b = add-mul R (multiple n a) a b ∙ ap (λ x. x ⊕ a ⊗ b) (multiple-mul-left n a b)

  pub multiple-mul-right : (n : ℕ) (a b : K) → a ⊗ multiple n b ≡ multiple n (a ⊗ b)
  multiple-mul-right n a b =
      mul_comm a (multiple n b) ∙ multiple-mul-left n b a ∙ ap (multiple n) (mul_comm b a)

  pub multiple-multiple : (m n : ℕ) (a : K) → multiple (m * n) a ≡ multiple m (multiple n a)
  unfolding multiple
  multiple-multiple m zero a = rw ℕ.mul-zero (sym (multiple_of_zero m))
  multiple-multiple m (suc n) a =
      rw
      ℕ.mul-suc
      (
      multiple-add (m * n) m a
      ∙ ap (λ x. x ⊕ multiple m a) (multiple-multiple m n a)
      ∙ sym (multiple_of_add m (multiple n a) a)
      )

  pub multiple-mul : (m n : ℕ) (a b : K) → multiple m a ⊗ multiple n b ≡ multiple (m * n) (a ⊗ b)
  multiple-mul m n a b =
      multiple-mul-left m a (multiple n b)
      ∙ ap (multiple m) (multiple-mul-right n a b)
      ∙ sym (multiple-multiple m n (a ⊗ b))

  -- Numerals.

  pub numeral-zero : numeral 0 ≡ 0#
  unfolding numeral
  numeral-zero = multiple-zero 1#

  pub numeral-one : numeral 1 ≡ 1#
  unfolding numeral
  numeral-one = multiple-one 1#

  pub numeral-suc : (n : ℕ) → numeral (suc n) ≡ numeral n ⊕ 1#
  unfolding numeral
  numeral-suc n = multiple-suc n 1#

  pub numeral-add : (m n : ℕ) → numeral (m + n) ≡ numeral m ⊕ numeral n
  unfolding numeral
  numeral-add m n = multiple-add m n 1#

  pub numeral-mul : (m n : ℕ) → numeral (m * n) ≡ numeral m ⊗ numeral n
  unfolding numeral
  numeral-mul m n = sym (multiple-mul m n 1# 1# ∙ ap (λ x. multiple (m * n) x) (mul-one 1#))

  pub multiple-numeral : (n : ℕ) (a : K) → multiple n a ≡ numeral n ⊗ a
  unfolding numeral
  multiple-numeral n a = sym (multiple-mul-left n 1# a ∙ ap (multiple n) (mul_comm 1# a ∙ mul-one a))

-- A homomorphism respects multiples and numerals.
module _ {K L : Type 0} {R : Ring K} {S : Ring L} {f : K → L} (h : Hom R S f) where
  pub hom-multiple : (n : ℕ) (a : K) → f (multiple R n a) ≡ multiple S n (f a)
  unfolding multiple
  hom-multiple zero a = h.zero
  hom-multiple (suc n) a = h.add (multiple R n a) a ∙ ap (λ x. S.◌⊕◌ x (f a)) (hom-multiple n a)

  pub hom-numeral : (n : ℕ) → f (numeral R n) ≡ numeral S n
  unfolding numeral
  hom-numeral n = hom-multiple n R.1# ∙ ap (λ x. multiple S n x) h.one
