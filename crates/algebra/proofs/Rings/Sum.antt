-- Finite sums in a ring.
--
--   sum R n f   == f 0 ⊕ f 1 ⊕ … ⊕ f (n - 1); 0# for n = 0
--
-- Assumes nothing.
use mathlib.Core.Path.{◌≡◌, refl, sym, ap, ap₂, ◌∙◌}
use mathlib.Core.Logic.{◌≢◌}
use Prim.Native.Nat.{ℕ, zero, suc, ◌+◌, ◌-◌, ◌≤◌, ◌<◌}
use native.Mathlib.Nat as ℕ
use Rattle.algebra.proofs.Rings.Ring.{Ring}
use Rattle.algebra.proofs.Rings.Ring.{zero-add, mul-zero, add-add_comm}

module _ {K : Type 0} (R : Ring K) where
  open R use {0#, 1#, ◌⊕◌, ◌⊗◌, ⊖◌, add_assoc, add_comm, add-zero, add_neg, mul-add, mul_comm}

  infixl 60 ◌⊕◌
  infixl 70 ◌⊗◌
  infix 80 ⊖◌
  unfoldable pub sum : ℕ → (ℕ → K) → K
  sum zero f = 0#
  sum (suc n) f = sum n f ⊕ f n

  -- The last, the first, the only summand.
  pub sum-last : (n : ℕ) (f : ℕ → K) → sum (suc n) f ≡ sum n f ⊕ f n
  unfolding sum
  sum-last n f = refl

  pub sum_first : (n : ℕ) (f : ℕ → K) → sum (suc n) f ≡ f 0 ⊕ sum n (λ i. f (suc i))
  unfolding sum
  sum_first zero f = add_comm 0# (f 0)
  sum_first (suc n) f =
      ap (λ x. x ⊕ f (suc n)) (sum_first n f) ∙ add_assoc (f 0) (sum n (λ i. f (suc i))) (f (suc n))

  pub sum_one : (f : ℕ → K) → sum 1 f ≡ f 0
  unfolding sum
  sum_one f = zero-add R (f 0)

  pub sum_ext : (n : ℕ) {f g : ℕ → K} → ((i : ℕ) → i < n → f i ≡ g i) → sum n f ≡ sum n g
  unfolding sum
  sum_ext zero h = refl
  sum_ext (suc n) h = ap₂ ◌⊕◌ (sum_ext n (λ i l. h i (ℕ.le_step l))) (h n (ℕ.le_refl (suc n)))

  pub sum_of_zero : (n : ℕ) → sum n (λ _. 0#) ≡ 0#
  unfolding sum
  sum_of_zero zero = refl
  sum_of_zero (suc n) = add-zero (sum n (λ _. 0#)) ∙ sum_of_zero n

  pub sum_zeros : (n : ℕ) {f : ℕ → K} → ((i : ℕ) → i < n → f i ≡ 0#) → sum n f ≡ 0#
  sum_zeros n h = sum_ext n h ∙ sum_of_zero n

  -- Sums of sums, negatives and products with a fixed factor.
  pub sum-add : (n : ℕ) (f g : ℕ → K) → sum n (λ i. f i ⊕ g i) ≡ sum n f ⊕ sum n g
  unfolding sum
  sum-add zero f g = sym (add-zero 0#)
  sum-add (suc n) f g =
      ap (λ x. x ⊕ (f n ⊕ g n)) (sum-add n f g) ∙ add-add_comm R (sum n f) (sum n g) (f n) (g n)

  pub sum-scale : (n : ℕ) (a : K) (f : ℕ → K) → sum n (λ i. a ⊗ f i) ≡ a ⊗ sum n f
  unfolding sum
  sum-scale zero a f = sym (mul-zero R a)
  sum-scale (suc n) a f = ap (λ x. x ⊕ a ⊗ f n) (sum-scale n a f) ∙ sym (mul-add a (sum n f) (f n))

  pub sum-scale-right : (n : ℕ) (f : ℕ → K) (a : K) → sum n (λ i. f i ⊗ a) ≡ sum n f ⊗ a
  sum-scale-right n f a =
      sum_ext n (λ i _. mul_comm (f i) a) ∙ sum-scale n a f ∙ mul_comm a (sum n f)

  -- A sum in two parts; a sum whose last summands are 0; a sum with one summand that is not 0.
  pub sum-split : (m n : ℕ) (f : ℕ → K) → sum (m + n) f ≡ sum m f ⊕ sum n (λ i. f (m + i))
  unfolding sum
  sum-split m zero f = rw ℕ.add-zero (sym (add-zero (sum m f)))
  sum-split m (suc n) f =
      rw
      ℕ.add-suc
      (
      ap (λ x. x ⊕ f (m + n)) (sum-split m n f) ∙ add_assoc (sum m f) (sum n (λ i. f (m + i))) (f (m + n))
      )

  pub sum_shorten : {m n : ℕ} {f : ℕ → K} → m ≤ n → ((i : ℕ) → m ≤ i → f i ≡ 0#) → sum n f ≡ sum m f
  sum_shorten {m} {n} {f} l h =
      ap (λ k. sum k f) (sym (ℕ.add-sub_of_le l))
      ∙ sum-split m (n - m) f
      ∙ ap (◌⊕◌ (sum m f)) (sum_zeros (n - m) (λ i _. h (m + i) (ℕ.le-add_right m i)))
      ∙ add-zero (sum m f)

  pub sum-single : (n k : ℕ) {f : ℕ → K} → k < n → ((i : ℕ) → i ≢ k → f i ≡ 0#) → sum n f ≡ f k
  sum-single n k {f} l h =
      sum_shorten l (λ i g. h i (ℕ.ne_of_gt g))
      ∙ sum-last k f
      ∙ ap (λ x. x ⊕ f k) (sum_zeros k (λ i g. h i (ℕ.ne_of_lt g)))
      ∙ zero-add R (f k)
