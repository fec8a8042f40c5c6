-- The field of a struct of 2^n elements, and its numbers.
--
--   name                == its degree and its reducing polynomial are admitted
--   extension_of-is_field == it is a field
--   extension_size      == its size, from 4 to 256 (`size_low`, `size-high`)
--   element_mask        == the lowest bits by a mask
--   double-kept, double-reduced, double_byte == y times an element
--   mul-element         == of a factor the lowest bits count
--   picks-eight         == a product by the multiples of its first factor
--   scale-element       == of a factor of a list the lowest bits count
--
-- Assumes nothing.
use Prim.Native.Nat.{ℕ, suc, ◌*◌, ◌-◌, ◌%◌, ◌^◌, ◌≤◌, ◌<◌}
use mathlib.Core.Path.{◌≡◌, refl, sym, ap, ap₂, subst, ◌∙◌}
use mathlib.Core.Logic.{◌≢◌}
use mathlib.Core.List.{List, [], ◌∷◌}
use native.Mathlib.Nat.{mod-eq_of_lt, mod-lt, mod-mod, pow-le-pow_right, le_trans}
use native.Mathlib.Omega.{arith}
use lib.Bits.{bit_and, bit_xor, and_mask, xor_lt, xor_mod}
use borrow.Author.Tests.{ne_eqb}
use Rattle.meaning.specs.Field.{Field}
use Rattle.meaning.specs.Extension.{binary}
use Rattle.meaning.specs.Polynomial.{scale}
use Rattle.bridge.proofs.Basics.Interpretation.{IsField, mul-below, number-mul_comm, number-one-mul}
use Rattle.bridge.proofs.Lists.Spread.{raise, raise-zero-power, raise-suc-power}
use Rattle.bridge.proofs.Binary.Extension.{extension_is_field}
use Rattle.bridge.proofs.Binary.BinaryNumbers.{binary-size, binary-add, binary-mul-low}
use Rattle.bridge.proofs.Binary.BinaryNumbers.{binary-double-small, binary-double-large, picked, picks}
use Rattle.bridge.proofs.Binary.BinaryNumbers.{doublings, picks-mul, BinaryName, binary-name}
use Rattle.arith.specs.declared.extension.ExtensionField.{ExtensionField}
use Rattle.arith.specs.extension.Extension.{extension_of}

pub picked_none : {t : ℕ} (m : ℕ) → t ≡ 0 → 0 ≡ picked t m
unfolding picked
picked_none m e = rw (e, picked) refl

pub picked-some : {t : ℕ} (m : ℕ) → t ≢ 0 → m ≡ picked t m
unfolding picked
picked-some {t} m h = rw (ne_eqb t 0 h, picked) refl

module _ (f : ExtensionField) where
  abbrev n : ℕ
  n = f.degree

  abbrev F : Field
  F = extension_of f

  pub name : BinaryName f.degree f.low
  name = binary-name f.degree f.low f.admitted

  pub extension_of-is_field : IsField (extension_of f)
  unfolding extension_of
  extension_of-is_field =
      let l = name.least in
      let positive : 1 ≤ n = omega arith in
      extension_is_field n f.low positive name.is_irreducible

  pub extension_size : (extension_of f).size ≡ 2 ^ f.degree
  unfolding extension_of
  extension_size = binary-size f.degree f.low

  pub size_low : 4 ≤ 2 ^ f.degree
  size_low = let h : 2 ^ 2 ≤ 2 ^ n = pow-le-pow_right (omega arith) name.least in h

  pub size-high : 2 ^ f.degree ≤ 256
  size-high = let h : 2 ^ n ≤ 2 ^ 8 = pow-le-pow_right (omega arith) name.most in h

  pub element_mask : (a : ℕ) → bit_and a (f.size - 1) ≡ a % 2 ^ f.degree
  element_mask a = ap (λ (s : ℕ). bit_and a (s - 1)) f.size_is_right ∙ and_mask a f.degree

  pub double-kept : (x : ℕ) → 2 * x < f.size → 2 * x ≡ (extension_of f).mul 2 x
  unfolding extension_of
  double-kept x l =
      sym
      (binary-double-small n f.low name.least name.is_irreducible x
      (subst (λ s. 2 * x < s) f.size_is_right l))

  pub double-reduced :
      (x : ℕ)
      → x < 2 ^ f.degree
      → f.size ≤ 2 * x
      → bit_xor (2 * x - f.size) f.low ≡ (extension_of f).mul 2 x
  unfolding extension_of
  double-reduced x l k =
      ap (λ (s : ℕ). bit_xor (2 * x - s) f.low) f.size_is_right
      ∙ sym
      (binary-double-large n f.low name.least name.is_irreducible x l
      (subst (λ s. s ≤ 2 * x) f.size_is_right k) name.small)

  pub double_byte : (x : ℕ) → x < 2 ^ f.degree → bit_xor (2 * x - f.size) f.low < 256
  double_byte x l =
      xor_lt 8 (2 * x - f.size) f.low (omega (arith, size-high, f.size_is_right))
      (omega (arith, size-high, name.small))

  pub mul-element : (c b : ℕ) → (extension_of f).mul (c % 2 ^ f.degree) b ≡ (extension_of f).mul c b
  unfolding extension_of
  mul-element c b =
      sym (binary-mul-low n f.low (c % 2 ^ n) b)
      ∙ ap (λ x. (binary n f.low).mul x (b % 2 ^ n)) (mod-mod c (2 ^ n))
      ∙ binary-mul-low n f.low c b

  pub mul-element-right : (c b : ℕ) → (extension_of f).mul c (b % 2 ^ f.degree) ≡ (extension_of f).mul c b
  unfolding extension_of
  mul-element-right c b =
      sym (binary-mul-low n f.low c (b % 2 ^ n))
      ∙ ap (λ x. (binary n f.low).mul (c % 2 ^ n) x) (mod-mod b (2 ^ n))
      ∙ binary-mul-low n f.low c b

  pub element_byte : (b : ℕ) → b % 2 ^ f.degree < 2 ^ f.degree
  element_byte b = mod-lt b (omega (arith, size_low))

  pub product_byte : (a b : ℕ) → (extension_of f).mul a b < 2 ^ f.degree
  product_byte a b =
      subst (λ s. (extension_of f).mul a b < s) extension_size (mul-below extension_of-is_field a b)

  pub picks-eight :
      {l : List ℕ} {m : ℕ}
      → m < 2 ^ f.degree
      → l ≡ doublings (extension_of f) m 8
      → (b : ℕ)
      → picks l (b % 2 ^ f.degree) ≡ (extension_of f).mul m b
  unfolding extension_of
  picks-eight {l} {m} h e b =
      ap (λ l. picks l (b % 2 ^ n)) e
      ∙ picks-mul n f.low name.least name.is_irreducible 8 m (b % 2 ^ n) h
      (le_trans (element_byte b) size-high)
      (element_byte b)
      ∙ mul-element-right m b

  -- a sum with a byte of which the lowest bits count
  pub add-element :
      (a p : ℕ) → p < 2 ^ f.degree → bit_xor (a % 2 ^ f.degree) p ≡ (extension_of f).add a p
  unfolding extension_of
  add-element a p l =
      sym (binary-add n f.low a p ∙ ap (bit_xor (a % 2 ^ n)) (mod-eq_of_lt l))

  pub element_under : {r : ℕ} (c : ℕ) → r ≡ c % 2 ^ f.degree → r < 2 ^ f.degree
  element_under c e = subst (λ x. x < 2 ^ f.degree) (sym e) (element_byte c)

  pub double_under : {r : ℕ} (x : ℕ) → r ≡ (extension_of f).mul 2 x → r < 2 ^ f.degree
  double_under x e = subst (λ y. y < 2 ^ f.degree) (sym e) (product_byte 2 x)

  doublings-step :
      {x y : ℕ} {l : List ℕ} (k : ℕ) → y ≡ (extension_of f).mul 2 x → l ≡ doublings (extension_of f) y k
      → x ∷ l ≡ doublings (extension_of f) x (suc k)
  unfolding doublings
  doublings-step {x} k e h = ap (◌∷◌ x) (h ∙ ap (λ z. doublings (extension_of f) z k) e)

  doublings-one : (x : ℕ) → x ∷ [] ≡ doublings (extension_of f) x 1
  unfolding doublings
  doublings-one x = refl

  -- seven doublings make eight multiples
  pub multiples_of :
      {m0 m1 m2 m3 m4 m5 m6 m7 : ℕ}
      → m1 ≡ (extension_of f).mul 2 m0
      → m2 ≡ (extension_of f).mul 2 m1
      → m3 ≡ (extension_of f).mul 2 m2
      → m4 ≡ (extension_of f).mul 2 m3
      → m5 ≡ (extension_of f).mul 2 m4
      → m6 ≡ (extension_of f).mul 2 m5
      → m7 ≡ (extension_of f).mul 2 m6
      → m0 ∷ m1 ∷ m2 ∷ m3 ∷ m4 ∷ m5 ∷ m6 ∷ m7 ∷ [] ≡ doublings (extension_of f) m0 8
  multiples_of e1 e2 e3 e4 e5 e6 e7 =
      doublings-step 7 e1
      (doublings-step 6 e2
      (doublings-step 5 e3
      (doublings-step 4 e4
      (doublings-step 3 e5 (doublings-step 2 e6 (doublings-step 1 e7 (doublings-one _)))))))

  pub sum-element : (a b : ℕ) → bit_xor a b % 2 ^ f.degree ≡ (extension_of f).add a b
  unfolding extension_of
  sum-element a b = xor_mod a b n ∙ sym (binary-add n f.low a b)

  -- the first multiple stands for the factor
  pub scale-element :
      {r : ℕ} (c : ℕ) (b : List ℕ)
      → r ≡ c % 2 ^ f.degree
      → scale (extension_of f) r b ≡ scale (extension_of f) c b
  unfolding scale
  scale-element c [] e = refl
  scale-element c (x ∷ b) e =
      ap₂ ◌∷◌ (ap (λ y. (extension_of f).mul y x) e ∙ mul-element c x) (scale-element c b e)

  -- a square, also of a byte that is no element
  pub square-raise : (x : ℕ) → (extension_of f).mul x x ≡ raise (extension_of f) 2 x
  square-raise x =
      sym
      (raise-suc-power (extension_of f) 1 x
      ∙ ap ((extension_of f).mul x)
      (raise-suc-power (extension_of f) 0 x
      ∙ ap ((extension_of f).mul x) (raise-zero-power (extension_of f) x)
      ∙ number-mul_comm extension_of-is_field x 1
      ∙ sym (mul-element-right 1 x)
      ∙ number-one-mul extension_of-is_field
      (subst (λ s. x % 2 ^ f.degree < s) (sym extension_size) (element_byte x)))
      ∙ mul-element-right x x)
