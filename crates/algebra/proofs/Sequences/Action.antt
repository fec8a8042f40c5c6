-- The action of a polynomial on endless sequences ℕ → K.
--
--   list-act R xs s k  == c0·s(k) + c1·s(k+1) + … for the list xs of c0, c1, …; 0# for the empty list
--   act f s            == the sequence that the polynomial f makes of s: act f s k = c0·s(k) + c1·s(k+1) + …
--   Kills s f          == the action of f on s is 0 at every place: f annihilates s; 0 annihilates all
--   Agree n s t        == the sequences s and t have the same first n terms
--   act-add, act-sequence-add
--                      == the action is additive in the polynomial and in the sequence
--   act-mul            == a product acts as its factors one after the other
--   act_comm           == so the actions of two polynomials may change places
--   act-sum            == the action as a sum over the coefficients below a bound
--   act_local          == the action of a polynomial below n depends on n terms alone
--
-- The action depends on the coefficients alone: `act_of_series`, `act-from_list`.
-- Assumes nothing.
use mathlib.Core.Path.{◌≡◌, refl, sym, ap, ap₂, fun_ext, subst, ◌∙◌}
use mathlib.Core.Logic.Dec
use mathlib.Core.Logic.{inl, inr}
use mathlib.Core.HLevel.{dec→stable}
use mathlib.Core.List.{List, [], ◌∷◌, ◌++◌}
use lib.ListN.{length, get_or-eq_default}
use Prim.Native.Nat.{ℕ, zero, suc, ◌+◌, ◌≤◌, ◌<◌, zero-le, suc-le-suc}
use native.Mathlib.Nat as ℕ
use native.Mathlib.Omega.{arith}
use Rattle.algebra.proofs.Numbers.Number.{none_below}
use Rattle.algebra.proofs.Rings.Ring.{Ring}
use Rattle.algebra.proofs.Rings.Ring.{zero-add, one-mul, zero-mul, mul-zero, add-add_comm}
use Rattle.algebra.proofs.Rings.Ring.{mul_left_comm, neg_unique, add-mul}
use Rattle.algebra.proofs.Rings.Power.{power, power_zero, power-suc-left}
use Rattle.algebra.proofs.Rings.Sum.{sum, sum_zeros, sum_first, sum_ext}
use Rattle.algebra.proofs.Polynomials.Series.{coefficient-list, list-plus, list-scale}
use Rattle.algebra.proofs.Polynomials.Polynomial.{
  Polynomial,
  Below,
  polynomials,
  coefficient,
  coefficient-from_list,
  constant,
  constant-polynomial-hom,
  scale,
  X,
  from_list,
  from_list_to_list,
  from_list-nil,
  from_list-cons,
  from_list-plus,
  from_list-scale,
  polynomial_induction,
  below_length,
}

module _ {K : Type 0} (R : Ring K) where
  open R use {0#, ◌⊕◌, ◌⊗◌, add_assoc, add-zero, mul-add, mul_assoc}

  infixl 60 ◌⊕◌
  infixl 70 ◌⊗◌
  unfoldable pub list-act : List K → (ℕ → K) → ℕ → K
  list-act [] s k = 0#
  list-act (c ∷ xs) s k = c ⊗ s k ⊕ list-act xs s (suc k)

  pub list-act-nil : (s : ℕ → K) (k : ℕ) → list-act [] s k ≡ 0#
  unfolding list-act
  list-act-nil s k = refl

  pub list-act-cons :
      (c : K) (xs : List K) (s : ℕ → K) (k : ℕ) → list-act (c ∷ xs) s k ≡ c ⊗ s k ⊕ list-act xs s (suc k)
  unfolding list-act
  list-act-cons c xs s k = refl

  pub list-act-one : (c : K) (s : ℕ → K) (k : ℕ) → list-act (c ∷ []) s k ≡ c ⊗ s k
  unfolding list-act
  list-act-one c s k = add-zero (c ⊗ s k)

  -- The action as a sum; so it depends on the coefficients alone.
  pub list-act-sum :
      (xs : List K) (n : ℕ) (s : ℕ → K) (k : ℕ)
      → ((i : ℕ) → n ≤ i → coefficient-list R xs i ≡ 0#)
      → list-act xs s k ≡ sum R n (λ i. coefficient-list R xs i ⊗ s (k + i))
  unfolding list-act sum
  list-act-sum [] n s k h = sym (sum_zeros R n (λ i _. zero-mul R (s (k + i))))
  list-act-sum (c ∷ xs) zero s k h =
      ap₂
      ◌⊕◌
      (ap (λ x. x ⊗ s k) (h 0 zero-le) ∙ zero-mul R (s k))
      (list-act-sum xs 0 s (suc k) (λ i _. h (suc i) zero-le))
      ∙ add-zero 0#
  list-act-sum (c ∷ xs) (suc n) s k h =
      ap₂
      ◌⊕◌
      (ap (λ j. c ⊗ s j) (sym (ℕ.add-zero k)))
      (
      list-act-sum xs n s (suc k) (λ i l. h (suc i) (suc-le-suc l))
      ∙ sum_ext R n (λ i _. ap (λ j. coefficient-list R xs i ⊗ s j) (omega arith))
      )
      ∙ sym (sum_first R n (λ i. coefficient-list R (c ∷ xs) i ⊗ s (k + i)))

  pub list-act-equal :
      (xs ys : List K) (s : ℕ → K) (k : ℕ)
      → ((i : ℕ) → coefficient-list R xs i ≡ coefficient-list R ys i)
      → list-act xs s k ≡ list-act ys s k
  list-act-equal xs ys s k h =
      list-act-sum xs (length xs) s k beyond
      ∙ sum_ext R (length xs) (λ i _. ap (λ c. c ⊗ s (k + i)) (h i))
      ∙ sym (list-act-sum ys (length xs) s k (λ i l. sym (h i) ∙ beyond i l))
    where
      beyond : (i : ℕ) → length xs ≤ i → coefficient-list R xs i ≡ 0#
      beyond i l = get_or-eq_default xs 0# l

  pub list-act_local :
      (xs : List K) (s t : ℕ → K) (j k : ℕ)
      → ((i : ℕ) → i < length xs → s (j + i) ≡ t (k + i))
      → list-act xs s j ≡ list-act xs t k
  list-act_local xs s t j k h =
      list-act-sum xs (length xs) s j (λ i l. get_or-eq_default xs 0# l)
      ∙ sum_ext R (length xs) (λ i l. ap (◌⊗◌ (coefficient-list R xs i)) (h i l))
      ∙ sym (list-act-sum xs (length xs) t k (λ i l. get_or-eq_default xs 0# l))

  -- Additive in the list and in the sequence; scaling; one list after another.
  pub list-act-plus :
      (xs ys : List K) (s : ℕ → K) (k : ℕ)
      → list-act (list-plus R xs ys) s k ≡ list-act xs s k ⊕ list-act ys s k
  unfolding list-act list-plus
  list-act-plus [] ys s k = sym (zero-add R (list-act ys s k))
  list-act-plus (a ∷ xs) [] s k = sym (add-zero (list-act (a ∷ xs) s k))
  list-act-plus (a ∷ xs) (b ∷ ys) s k =
      ap₂ ◌⊕◌ (add-mul R a b (s k)) (list-act-plus xs ys s (suc k))
      ∙ add-add_comm R (a ⊗ s k) (b ⊗ s k) (list-act xs s (suc k)) (list-act ys s (suc k))

  pub list-act-scale :
      (a : K) (xs : List K) (s : ℕ → K) (k : ℕ) → list-act (list-scale R a xs) s k ≡ a ⊗ list-act xs s k
  unfolding list-act list-scale
  list-act-scale a [] s k = sym (mul-zero R a)
  list-act-scale a (c ∷ xs) s k =
      ap₂ ◌⊕◌ (mul_assoc a c (s k)) (list-act-scale a xs s (suc k))
      ∙ sym (mul-add a (c ⊗ s k) (list-act xs s (suc k)))

  pub list-act-append :
      (xs ys : List K) (s : ℕ → K) (k : ℕ)
      → list-act (xs ++ ys) s k ≡ list-act xs s k ⊕ list-act ys s (length xs + k)
  unfolding list-act
  list-act-append [] ys s k = sym (zero-add R _ ∙ ap (list-act ys s) (ℕ.zero-add k))
  list-act-append (c ∷ xs) ys s k =
      ap (◌⊕◌ (c ⊗ s k)) (list-act-append xs ys s (suc k))
      ∙ sym (add_assoc (c ⊗ s k) (list-act xs s (suc k)) (list-act ys s (length xs + suc k)))
      ∙ ap (λ j. c ⊗ s k ⊕ list-act xs s (suc k) ⊕ list-act ys s j) (omega arith)

  pub list-act-sequence-add :
      (xs : List K) (s t : ℕ → K) (k : ℕ) → list-act xs (λ i. s i ⊕ t i) k ≡ list-act xs s k ⊕ list-act xs t k
  unfolding list-act
  list-act-sequence-add [] s t k = sym (add-zero 0#)
  list-act-sequence-add (c ∷ xs) s t k =
      ap₂ ◌⊕◌ (mul-add c (s k) (t k)) (list-act-sequence-add xs s t (suc k))
      ∙ add-add_comm R (c ⊗ s k) (c ⊗ t k) (list-act xs s (suc k)) (list-act xs t (suc k))

  pub list-act-sequence-zero : (xs : List K) (k : ℕ) → list-act xs (λ _. 0#) k ≡ 0#
  unfolding list-act
  list-act-sequence-zero [] k = refl
  list-act-sequence-zero (c ∷ xs) k = ap₂ ◌⊕◌ (mul-zero R c) (list-act-sequence-zero xs (suc k)) ∙ add-zero 0#

  pub list-act-sequence-scale :
      (xs : List K) (a : K) (s : ℕ → K) (k : ℕ) → list-act xs (λ i. a ⊗ s i) k ≡ a ⊗ list-act xs s k
  unfolding list-act
  list-act-sequence-scale [] a s k = sym (mul-zero R a)
  list-act-sequence-scale (c ∷ xs) a s k =
      ap₂ ◌⊕◌ (mul_left_comm R c a (s k)) (list-act-sequence-scale xs a s (suc k))
      ∙ sym (mul-add a (c ⊗ s k) (list-act xs s (suc k)))

module _ {K : Type 0} {R : Ring K} {D : Discrete K} where
  open R use {◌⊗◌}

  infixl 70 ◌⊗◌
  unfoldable pub act : Polynomial R D → (ℕ → K) → ℕ → K
  act f = list-act R f.to_list

  pub act_of_series :
      (f : Polynomial R D) (xs : List K) (s : ℕ → K) (k : ℕ)
      → ((i : ℕ) → coefficient f i ≡ coefficient-list R xs i)
      → act f s k ≡ list-act R xs s k
  unfolding act coefficient
  act_of_series f xs s k h = list-act-equal R f.to_list xs s k h

  -- The action as a sum, and what terms it depends on.
  pub act-sum :
      {f : Polynomial R D} {n : ℕ} → Below f n → (s : ℕ → K) (k : ℕ)
      → act f s k ≡ sum R n (λ i. coefficient f i ⊗ s (k + i))
  unfolding act coefficient
  act-sum {f} {n} b s k = list-act-sum R f.to_list n s k b.above

  pub act_local :
      {f : Polynomial R D} {n : ℕ} → Below f n → (s t : ℕ → K) (j k : ℕ)
      → ((i : ℕ) → i < n → s (j + i) ≡ t (k + i))
      → act f s j ≡ act f t k
  act_local {f} {n} b s t j k h =
      act-sum b s j ∙ sum_ext R n (λ i l. ap (◌⊗◌ (coefficient f i)) (h i l)) ∙ sym (act-sum b t k)

module _ {K : Type 0} (R : Ring K) (D : Discrete K) where
  open R use {0#, 1#, ◌⊗◌}
  open polynomials R D use {0# as 0ₚ, 1# as 1ₚ}

  infixl 70 ◌⊗◌
  pub act-from_list : (xs : List K) (s : ℕ → K) (k : ℕ) → act (from_list R D xs) s k ≡ list-act R xs s k
  act-from_list xs s k =
      act_of_series (from_list R D xs) xs s k (λ i. ap (λ u. u i) (coefficient-from_list R D xs))

  pub act-zero : (s : ℕ → K) (k : ℕ) → act 0ₚ s k ≡ 0#
  act-zero s k = ap (λ f. act f s k) (sym (from_list-nil R D)) ∙ act-from_list [] s k ∙ list-act-nil R s k

  pub act-constant : (a : K) (s : ℕ → K) (k : ℕ) → act (constant R D a) s k ≡ a ⊗ s k
  unfolding constant
  act-constant a s k = act-from_list (a ∷ []) s k ∙ list-act-one R a s k

  pub act-one : (s : ℕ → K) (k : ℕ) → act 1ₚ s k ≡ s k
  act-one s k =
      ap (λ f. act f s k) (sym (constant-polynomial-hom R D).one) ∙ act-constant 1# s k ∙ one-mul R (s k)

module _ {K : Type 0} {R : Ring K} {D : Discrete K} where
  open R use {0#, ◌⊕◌, ◌⊗◌, ⊖◌, add_neg}
  open polynomials R D use {0# as 0ₚ, ◌⊕◌ as ◌⊞◌, ◌⊗◌ as ◌⊠◌, ⊖◌ as ⊟◌}

  infixl 60 ◌⊕◌ ◌⊞◌
  infixl 70 ◌⊗◌ ◌⊠◌
  infix 80 ⊖◌ ⊟◌
  -- Additive in the polynomial.
  pub act-add : (f g : Polynomial R D) (s : ℕ → K) (k : ℕ) → act (f ⊞ g) s k ≡ act f s k ⊕ act g s k
  unfolding act
  act-add f g s k =
      ap
      (λ h. act h s k)
      (
      ap₂ ◌⊞◌ (sym (from_list_to_list R D f)) (sym (from_list_to_list R D g))
      ∙ sym (from_list-plus R D f.to_list g.to_list)
      )
      ∙ act-from_list R D (list-plus R f.to_list g.to_list) s k
      ∙ list-act-plus R f.to_list g.to_list s k

  pub act-neg : (f : Polynomial R D) (s : ℕ → K) (k : ℕ) → act (⊟ f) s k ≡ ⊖ act f s k
  act-neg f s k =
      neg_unique
      R
      (sym (act-add f (⊟ f) s k) ∙ ap (λ h. act h s k) ((polynomials R D).add_neg f) ∙ act-zero R D s k)

  pub act-sub : (f g : Polynomial R D) (s : ℕ → K) (k : ℕ) → act (f ⊞ ⊟ g) s k ≡ act f s k ⊕ ⊖ act g s k
  act-sub f g s k = act-add f (⊟ g) s k ∙ ap (◌⊕◌ (act f s k)) (act-neg g s k)

  pub act-scale : (a : K) (f : Polynomial R D) (s : ℕ → K) (k : ℕ) → act (scale a f) s k ≡ a ⊗ act f s k
  unfolding act
  act-scale a f s k =
      ap
      (λ h. act h s k)
      (ap (scale a) (sym (from_list_to_list R D f)) ∙ sym (from_list-scale R D a f.to_list))
      ∙ act-from_list R D (list-scale R a f.to_list) s k
      ∙ list-act-scale R a f.to_list s k

  -- By the constant term and the rest; x shifts the sequence.
  pub act-cons :
      (a : K) (f : Polynomial R D) (s : ℕ → K) (k : ℕ)
      → act (constant R D a ⊞ X R D ⊠ f) s k ≡ a ⊗ s k ⊕ act f s (suc k)
  unfolding act
  act-cons a f s k =
      ap (λ h. act (constant R D a ⊞ X R D ⊠ h) s k) (sym (from_list_to_list R D f))
      ∙ ap (λ h. act h s k) (sym (from_list-cons R D a f.to_list))
      ∙ act-from_list R D (a ∷ f.to_list) s k
      ∙ list-act-cons R a f.to_list s k

  pub act-x-mul : (f : Polynomial R D) (s : ℕ → K) (k : ℕ) → act (X R D ⊠ f) s k ≡ act f s (suc k)
  act-x-mul f s k =
      sym (zero-add R (act (X R D ⊠ f) s k))
      ∙ ap (λ y. y ⊕ act (X R D ⊠ f) s k) (sym (act-constant R D 0# s k ∙ zero-mul R (s k)))
      ∙ sym (act-add (constant R D 0#) (X R D ⊠ f) s k)
      ∙ act-cons 0# f s k
      ∙ ap (λ y. y ⊕ act f s (suc k)) (zero-mul R (s k))
      ∙ zero-add R (act f s (suc k))

  pub act-x-power-mul :
      (n : ℕ) (f : Polynomial R D) (s : ℕ → K) (k : ℕ)
      → act (power (polynomials R D) (X R D) n ⊠ f) s k ≡ act f s (n + k)
  act-x-power-mul zero f s k =
      ap
      (λ h. act h s k)
      (ap (λ u. u ⊠ f) (power_zero (polynomials R D) (X R D)) ∙ one-mul (polynomials R D) f)
      ∙ ap (act f s) (sym (ℕ.zero-add k))
  act-x-power-mul (suc n) f s k =
      ap
      (λ h. act h s k)
      (
      ap (λ u. u ⊠ f) (power-suc-left (polynomials R D) (X R D) n)
      ∙ (polynomials R D).mul_assoc (X R D) (power (polynomials R D) (X R D) n) f
      )
      ∙ act-x-mul (power (polynomials R D) (X R D) n ⊠ f) s k
      ∙ act-x-power-mul n f s (suc k)
      ∙ ap (act f s) (omega arith)

  -- Additive in the sequence.
  pub act-sequence-add :
      (f : Polynomial R D) (s t : ℕ → K) (k : ℕ) → act f (λ i. s i ⊕ t i) k ≡ act f s k ⊕ act f t k
  unfolding act
  act-sequence-add f s t k = list-act-sequence-add R f.to_list s t k

  pub act-sequence-scale :
      (f : Polynomial R D) (a : K) (s : ℕ → K) (k : ℕ) → act f (λ i. a ⊗ s i) k ≡ a ⊗ act f s k
  unfolding act
  act-sequence-scale f a s k = list-act-sequence-scale R f.to_list a s k

  pub act-sequence-zero : (f : Polynomial R D) (k : ℕ) → act f (λ _. 0#) k ≡ 0#
  unfolding act
  act-sequence-zero f k = list-act-sequence-zero R f.to_list k

  pub act-vanishes : (f : Polynomial R D) {s : ℕ → K} → ((i : ℕ) → s i ≡ 0#) → (k : ℕ) → act f s k ≡ 0#
  act-vanishes f h k = ap (λ u. act f u k) (fun_ext h) ∙ act-sequence-zero f k

  pub act-shift : (f : Polynomial R D) (s : ℕ → K) (n k : ℕ) → act f (λ i. s (n + i)) k ≡ act f s (n + k)
  act-shift f s n k =
      act_local (below_length f) (λ i. s (n + i)) s k (n + k) (λ i _. ap s (sym (ℕ.add_assoc n k i)))

  -- A product acts as its factors one after the other.
  pub act-mul : (f g : Polynomial R D) (s : ℕ → K) (k : ℕ) → act (f ⊠ g) s k ≡ act f (act g s) k
  act-mul f g s = polynomial_induction R D (λ f. (k : ℕ) → act (f ⊠ g) s k ≡ act f (act g s) k) base step f
    where
      base : (k : ℕ) → act (0ₚ ⊠ g) s k ≡ act 0ₚ (act g s) k
      base k =
          ap (λ h. act h s k) (zero-mul (polynomials R D) g)
          ∙ act-zero R D s k
          ∙ sym (act-zero R D (act g s) k)

      step :
          (a : K) (f : Polynomial R D)
          → ((k : ℕ) → act (f ⊠ g) s k ≡ act f (act g s) k)
          → (k : ℕ)
          → act ((constant R D a ⊞ X R D ⊠ f) ⊠ g) s k ≡ act (constant R D a ⊞ X R D ⊠ f) (act g s) k
      step a f h k =
          ap
          (λ u. act u s k)
          (
          add-mul (polynomials R D) (constant R D a) (X R D ⊠ f) g
          ∙ ap (◌⊞◌ (scale a g)) ((polynomials R D).mul_assoc (X R D) f g)
          )
          ∙ act-add (scale a g) (X R D ⊠ (f ⊠ g)) s k
          ∙ ap₂ ◌⊕◌ (act-scale a g s k) (act-x-mul (f ⊠ g) s k ∙ h (suc k))
          ∙ sym (act-cons a f (act g s) k)

  pub act_comm : (f g : Polynomial R D) (s : ℕ → K) (k : ℕ) → act f (act g s) k ≡ act g (act f s) k
  act_comm f g s k =
      sym (act-mul f g s k) ∙ ap (λ h. act h s k) ((polynomials R D).mul_comm f g) ∙ act-mul g f s k

module _ {K : Type 0} (R : Ring K) (D : Discrete K) where
  open polynomials R D use {1# as 1ₚ}

  pub act-x-power : (n : ℕ) (s : ℕ → K) (k : ℕ) → act (power (polynomials R D) (X R D) n) s k ≡ s (n + k)
  act-x-power n s k =
      ap (λ h. act h s k) (sym ((polynomials R D).mul-one (power (polynomials R D) (X R D) n)))
      ∙ act-x-power-mul n 1ₚ s k
      ∙ act-one R D s (n + k)

abbrev pub Agree : {K : Type 0} → ℕ → (ℕ → K) → (ℕ → K) → Type 0
Agree n s t = (i : ℕ) → i < n → s i ≡ t i

pub agree_suc : {K : Type 0} {s t : ℕ → K} {n : ℕ} → Agree n s t → s n ≡ t n → Agree (suc n) s t
agree_suc {s = s} {t} {n} h e i l = elim (ℕ.eq-or-lt_of_le (ℕ.le_of_suc-le-suc l)) [
  | inl z ↦ subst (λ k. s k ≡ t k) (sym z) e
  | inr z ↦ h i z
]

pub agree_decided : {K : Type 0} → Discrete K → (n : ℕ) (s t : ℕ → K) → Dec (Agree n s t)
agree_decided D n s t = elim (none_below (λ i. Dec.not (D (s i) (t i))) n) [
  | inl f ↦ no (λ h. f.2.holds (h f.0 f.1))
  | inr h ↦ yes (λ i l. dec→stable (D (s i) (t i)) (h i l))
]

-- The first e places of the action of a polynomial of degree a depend on the first e + a terms alone.
pub act_agree :
    {K : Type 0} {R : Ring K} {D : Discrete K} {f : Polynomial R D} {a e : ℕ} {s t : ℕ → K}
    → Below f (suc a)
    → Agree (e + a) s t
    → Agree e (act f s) (act f t)
act_agree {s = s} {t} b h k l = act_local b s t k k (λ i m. h (k + i) (omega arith))

pub record Kills {K : Type 0} {R : Ring K} {D : Discrete K} (s : ℕ → K) (f : Polynomial R D) : Type 0 where
  pub vanishes : (k : ℕ) → act f s k ≡ R.0#
