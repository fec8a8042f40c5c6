-- The laws of `convolved`, the coefficients of a product with f(x^q).
--
--   convolved-below   == it is an element of the field
--   convolved_local   == it looks at no place above k
--   convolved_stride  == it is an action with a stride, on what stands at these places
--
-- Assumes nothing.
use Prim.Native.Nat.{ℕ, suc, ◌+◌, ◌*◌, ◌-◌, ◌≤◌, ◌<◌}
use mathlib.Core.Path.{◌≡◌, refl, sym, ap, ap₂, ◌∙◌}
use mathlib.Core.List.{List, [], ◌∷◌}
use native.Mathlib.Nat.{mul-zero, mul-suc}
use native.Mathlib.Omega.{arith}
use lib.ListN.{length}
use Rattle.meaning.specs.Field.{Field}
use Rattle.meaning.specs.Sequence.{Sequence}
use Rattle.bridge.proofs.Basics.Interpretation.{IsField, size-positive, add-below}
use Rattle.bridge.proofs.Sequences.Actions.{act_stride, act_stride-nil, act_stride-cons}
use Rattle.poly.specs.convolution.Convolution.{convolved}

pub convolved_local : (F : Field) (f : List ℕ) (q : ℕ) (s t : Sequence) (k : ℕ)
    → ((j : ℕ) → j ≤ k → s j ≡ t j)
    → convolved F f q s k ≡ convolved F f q t k
unfolding convolved
convolved_local F [] q s t k h = refl
convolved_local F (c ∷ f) q s t k h =
    ap₂ (λ a b. F.add (F.mul c a) b) (h k (omega arith))
    (convolved_local F f q s t (k - q) (λ j l. h j (omega arith)))

pub convolved_stride : (F : Field) (f : List ℕ) (q r : ℕ) (s t : Sequence) (k j : ℕ)
    → ((i : ℕ) → i < length f → s (k - q * i) ≡ t (j + r * i))
    → convolved F f q s k ≡ act_stride F f r t j
unfolding convolved
convolved_stride F [] q r s t k j h = sym (act_stride-nil F r t j)
convolved_stride F (c ∷ f) q r s t k j h =
    ap₂ (λ a b. F.add (F.mul c a) b) first (convolved_stride F f q r s t (k - q) (j + r) rest)
    ∙ sym (act_stride-cons F c f r t j)
  where
    first : s k ≡ t j
    first =
        let x : k ≡ k - q * 0 = omega (arith, mul-zero q) in
        let y : j + r * 0 ≡ j = omega (arith, mul-zero r) in
        ap s x ∙ h 0 (omega arith) ∙ ap t y

    rest : (i : ℕ) → i < length f → s (k - q - q * i) ≡ t (j + r + r * i)
    rest i l =
        let x : k - q - q * i ≡ k - q * suc i = omega (arith, mul-suc q i) in
        let y : j + r * suc i ≡ j + r + r * i = omega (arith, mul-suc r i) in
        ap s x ∙ h (suc i) (omega arith) ∙ ap t y

pub convolved-below : {F : Field} (I : IsField F) (f : List ℕ) (q : ℕ) (s : Sequence) (k : ℕ)
    → convolved F f q s k < F.size
unfolding convolved
convolved-below I [] q s k = size-positive I
convolved-below I (c ∷ f) q s k = add-below I _ _
