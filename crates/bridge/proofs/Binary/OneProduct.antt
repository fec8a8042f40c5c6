-- The product of GF(2^n) is the only one: whatever product on the numbers below 2^n has the laws of a field
-- with the sum of GF(2^n), and takes a power of y on to the next and y^(n−1) to low, is that of GF(2^n).
--
--   Product n low mul == such a product
--   product-only      == it is the product of `binary n low`
--
-- Assumes nothing.
use Prim.Native.Nat.{ℕ, zero, suc, ◌-◌, ◌/◌, ◌%◌, ◌^◌, ◌≤◌, ◌<◌}
use mathlib.Core.Path.{◌≡◌, sym, ap, ap₂, subst, ◌∙◌}
use mathlib.Core.Logic.{◌⊎◌, inl, inr}
use native.Mathlib.Nat.{mod-eq_of_lt, mod-lt, one-mul, pow-succ', pow-zero}
use native.Mathlib.Omega.{arith}
use native.Mathlib.Decide.{dec_lt}
use lib.Bits.{bit_xor, xor_shifted}
use lib.Pow.{pow-lt, pow_mono}
use Rattle.meaning.specs.Field.{Field}
use Rattle.meaning.specs.Extension.{binary}
use Rattle.bridge.proofs.Basics.Interpretation.{IsField, number-zero-add, number-add-negative}
use Rattle.bridge.proofs.Basics.Interpretation.{number-mul-zero}
use Rattle.bridge.proofs.Binary.BinaryNumbers.{BinaryName, binary-size, binary-add-below}
use Rattle.bridge.proofs.Binary.BinaryNumbers.{binary-negative, binary-digits, I}

below_or_not : (a b : ℕ) → (a < b) ⊎ (b ≤ a)
below_or_not a b = go (dec_lt a b)
  where
    go : Dec (a < b) → (a < b) ⊎ (b ≤ a)
    go (yes l) = inl l
    go (no l) = inr (omega arith)

pub record Product (n low : ℕ) (mul : ℕ → ℕ → ℕ) : Type 0 where
  pub below : (a b : ℕ) → a < 2 ^ n → b < 2 ^ n → mul a b < 2 ^ n
  pub comm : (a b : ℕ) → a < 2 ^ n → b < 2 ^ n → mul a b ≡ mul b a
  pub assoc : (a b c : ℕ) → a < 2 ^ n → b < 2 ^ n → c < 2 ^ n → mul (mul a b) c ≡ mul a (mul b c)
  pub distributes : (a b c : ℕ) → a < 2 ^ n → b < 2 ^ n → c < 2 ^ n
      → mul a ((binary n low).add b c) ≡ (binary n low).add (mul a b) (mul a c)
  pub one : (a : ℕ) → a < 2 ^ n → mul 1 a ≡ a
  pub onward : (i : ℕ) → suc i < n → mul 2 (2 ^ i) ≡ 2 ^ suc i
  pub top : mul 2 (2 ^ (n - 1)) ≡ low

module _ {n low : ℕ} (name : BinaryName n low) where
  abbrev F : Field
  F = binary n low

  abbrev is_field : IsField F
  is_field = I n low name.least name.is_irreducible

  size : F.size ≡ 2 ^ n
  size = binary-size n low

  four : 4 ≤ 2 ^ n
  four = pow_mono name.least

  in_field_lem : {a : ℕ} → a < 2 ^ n → a < F.size
  in_field_lem {a} l = subst (λ k. a < k) (sym size) l

  add-self : (x : ℕ) → x < 2 ^ n → F.add x x ≡ 0
  add-self x l =
      ap (F.add x) (sym (binary-negative n low name.least name.is_irreducible x ∙ mod-eq_of_lt l))
      ∙ number-add-negative is_field x

  -- a number from 2^k to 2^(k+1) − 1 by its top bit
  split-top : (k c : ℕ) → suc k ≤ n → 2 ^ k ≤ c → c < 2 ^ suc k → F.add (2 ^ k) (c - 2 ^ k) ≡ c
  split-top k c l low high =
      let rest : c - 2 ^ k < 2 ^ k = omega (arith, pow-succ' 2 k) in
      let small : 2 ^ k < 2 ^ n = pow-lt l in
      binary-add-below n _ small (omega arith)
      ∙ ap (λ x. bit_xor x (c - 2 ^ k)) (sym (one-mul (2 ^ k)))
      ∙ xor_shifted 1 k (c - 2 ^ k) rest
      ∙ omega (arith, one-mul (2 ^ k))

  module _ {mul : ℕ → ℕ → ℕ} (p : Product n low mul) (q : Product n low F.mul) where
    times_zero : (a : ℕ) → a < 2 ^ n → mul a 0 ≡ 0
    times_zero a l =
        let z : 0 < 2 ^ n = omega (arith, four) in
        ap (mul a) (sym (number-zero-add is_field (in_field_lem z)))
        ∙ p.distributes a 0 0 l z z
        ∙ add-self (mul a 0) (p.below a 0 l z)

    power-y : (k : ℕ) → suc k ≤ n → mul 2 (2 ^ k) ≡ F.mul 2 (2 ^ k)
    power-y k l = elim (below_or_not (suc k) n) [
      | inl h ↦ p.onward k h ∙ sym (q.onward k h)
      | inr h ↦
          let e : k ≡ n - 1 = omega arith in
          subst (λ i. mul 2 (2 ^ i) ≡ F.mul 2 (2 ^ i)) (sym e) (p.top ∙ sym q.top)
    ]

    double : (k : ℕ) → k ≤ n → (c : ℕ) → c < 2 ^ k → mul 2 c ≡ F.mul 2 c
    double zero l c h =
        let e : c ≡ 0 = omega (arith, pow-zero 2) in
        subst (λ x. mul 2 x ≡ F.mul 2 x) (sym e)
        (times_zero 2 (omega (arith, four)) ∙ sym (number-mul-zero is_field 2))
    double (suc k) l c h = elim (below_or_not c (2 ^ k)) [
      | inl less ↦ double k (omega arith) c less
      | inr more ↦
          let r = c - 2 ^ k in
          let two : 2 < 2 ^ n = omega (arith, four) in
          let small : 2 ^ k < 2 ^ n = pow-lt l in
          let rest : r < 2 ^ k = omega (arith, pow-succ' 2 k) in
          let inside : r < 2 ^ n = omega arith in
          ap (mul 2) (sym (split-top k c l more h))
          ∙ p.distributes 2 (2 ^ k) r two small inside
          ∙ ap₂ F.add (power-y k l) (double k (omega arith) r rest)
          ∙ sym (q.distributes 2 (2 ^ k) r two small inside)
          ∙ ap (F.mul 2) (split-top k c l more h)
    ]

    one_bit : (a b : ℕ) → a < 2 ^ n → b < 2 → mul a b ≡ F.mul a b
    one_bit a zero l h = times_zero a l ∙ sym (number-mul-zero is_field a)
    one_bit a (suc zero) l h =
        let o : 1 < 2 ^ n = omega (arith, four) in
        p.comm a 1 l o ∙ p.one a l ∙ sym (q.comm a 1 l o ∙ q.one a l)
    one_bit a (suc (suc b)) l h = absurd (omega arith)

    -- a times y times c is y times what a times c is
    moved : {m : ℕ → ℕ → ℕ} → Product n low m → (a c : ℕ) → a < 2 ^ n → c < 2 ^ n
        → m a (m 2 c) ≡ m 2 (m a c)
    moved {m} r a c l h =
        let two : 2 < 2 ^ n = omega (arith, four) in
        sym (r.assoc a 2 c l two h) ∙ ap (λ x. m x c) (r.comm a 2 l two) ∙ r.assoc 2 a c two l h

    equal : (k : ℕ) → k ≤ n → (a b : ℕ) → a < 2 ^ n → b < 2 ^ k → mul a b ≡ F.mul a b
    equal zero l a b h s =
        let e : b ≡ 0 = omega (arith, pow-zero 2) in
        subst (λ x. mul a x ≡ F.mul a x) (sym e) (one_bit a 0 h (omega arith))
    equal (suc k) l a b h s =
        let c = b / 2 in
        let half : c < 2 ^ k = omega (arith, pow-succ' 2 k) in
        let up : 2 ^ suc k ≤ 2 ^ n = pow_mono l in
        let whole : b < 2 ^ n = omega (arith, up) in
        let small : c < 2 ^ n = omega arith in
        let bit : b % 2 < 2 ^ n = omega (arith, four) in
        let two : 2 < 2 ^ n = omega (arith, four) in
        let digits = binary-digits n low name.least name.is_irreducible b whole in
        let twice : mul 2 c ≡ F.mul 2 c = double n (omega arith) c small in
        let inside : F.mul 2 c < 2 ^ n = q.below 2 c two small in
        ap (mul a) (sym digits)
        ∙ p.distributes a (b % 2) (F.mul 2 c) h bit inside
        ∙ ap₂ F.add (one_bit a (b % 2) h (mod-lt b (omega arith)))
        (ap (mul a) (sym twice)
        ∙ moved p a c h small
        ∙ ap (mul 2) (equal k (omega arith) a c h half)
        ∙ double n (omega arith) (F.mul a c) (q.below a c h small)
        ∙ sym (moved q a c h small))
        ∙ sym (q.distributes a (b % 2) (F.mul 2 c) h bit inside)
        ∙ ap (F.mul a) digits

    pub product-only : (a b : ℕ) → a < 2 ^ n → b < 2 ^ n → mul a b ≡ F.mul a b
    product-only a b l h = equal n (omega arith) a b l h
