-- The fields that names stand for, in plain numbers: the laws of a field, what the sum and the product of
-- GF(p) are, and what fixes those of GF(2^n). Nobody has to believe the definition of a product.
--
--   FieldLaws F      == the numbers below the size of F, with its sum and product, are a field
--   Residues F p     == sum and product are those of numbers, modulo p
--   bit a i          == bit i of a
--   TimesY mul n low == what y, the number 2, times a power of y is
--   Polynomials F n low == an element is a polynomial in y over GF(2) of degree below n, bit i being the
--                       coefficient of y^i: sums are taken coefficient by coefficient, y times y^i is
--                       y^(i+1), and y times y^(n−1) is low, since y^n + low counts as 0
--   Multiplies F n low mul == mul is a product on the elements of F with the laws of a field, and takes the
--                       powers of y so; the product of F is the only one (`only`)
--   FieldPromise     == so it is for every name that is not refused
use Rattle.std.specs.Prelude.{ℕ, suc, ◌+◌, ◌*◌, ◌-◌, ◌/◌, ◌%◌, ◌^◌, ◌≤◌, ◌<◌, ◌≡◌, ◌≢◌, false}
use Rattle.meaning.specs.declared.FieldName.{FieldName}
use Rattle.meaning.specs.Field.{Field}
use Rattle.meaning.specs.FieldNames.{not_field}
use Rattle.theorems.specs.Ratings.{GF}

pub record FieldLaws (F : Field) : Type 0 where
  pub two_or_more : 2 ≤ F.size
  pub add-below : (a b : ℕ) → F.add a b < F.size
  pub mul-below : (a b : ℕ) → F.mul a b < F.size
  pub add_comm : (a b : ℕ) → F.add a b ≡ F.add b a
  pub mul_comm : (a b : ℕ) → F.mul a b ≡ F.mul b a
  pub add_assoc : (a b c : ℕ) → F.add (F.add a b) c ≡ F.add a (F.add b c)
  pub mul_assoc : (a b c : ℕ) → F.mul (F.mul a b) c ≡ F.mul a (F.mul b c)
  pub mul-add : (a b c : ℕ) → F.mul a (F.add b c) ≡ F.add (F.mul a b) (F.mul a c)
  pub zero-add : (a : ℕ) → a < F.size → F.add 0 a ≡ a
  pub one-mul : (a : ℕ) → a < F.size → F.mul 1 a ≡ a
  pub opposite : (a : ℕ) → (b : ℕ) × (b < F.size) × (F.add a b ≡ 0)
  pub inverse : (a : ℕ) → a < F.size → a ≢ 0 → (b : ℕ) × (b < F.size) × (F.mul a b ≡ 1)

pub record Residues (F : Field) (p : ℕ) : Type 0 where
  pub size : F.size ≡ p
  pub sum : (a b : ℕ) → F.add a b ≡ (a + b) % p
  pub product : (a b : ℕ) → F.mul a b ≡ a * b % p

abbrev pub bit : ℕ → ℕ → ℕ
bit a i = a / 2 ^ i % 2

pub record TimesY (mul : ℕ → ℕ → ℕ) (n low : ℕ) : Type 0 where
  pub onward : (i : ℕ) → suc i < n → mul 2 (2 ^ i) ≡ 2 ^ suc i
  pub top : mul 2 (2 ^ (n - 1)) ≡ low

pub record Polynomials (F : Field) (n low : ℕ) : Type 0 where
  pub size : F.size ≡ 2 ^ n
  pub sum : (a b i : ℕ) → i < n → bit (F.add a b) i ≡ (bit a i + bit b i) % 2
  pub times_y : TimesY F.mul n low

pub record Multiplies (F : Field) (n low : ℕ) (mul : ℕ → ℕ → ℕ) : Type 0 where
  pub below : (a b : ℕ) → a < F.size → b < F.size → mul a b < F.size
  pub comm : (a b : ℕ) → a < F.size → b < F.size → mul a b ≡ mul b a
  pub assoc : (a b c : ℕ) → a < F.size → b < F.size → c < F.size → mul (mul a b) c ≡ mul a (mul b c)
  pub distributes : (a b c : ℕ)
      → a < F.size
      → b < F.size
      → c < F.size
      → mul a (F.add b c) ≡ F.add (mul a b) (mul a c)
  pub one : (a : ℕ) → a < F.size → mul 1 a ≡ a
  pub times_y : TimesY mul n low

pub record FieldPromise : Type 0 where
  pub laws : (name : FieldName) → not_field name ≡ false → FieldLaws (GF name)
  pub prime : (p : ℕ) → not_field (FieldName.Prime p) ≡ false → Residues (GF (FieldName.Prime p)) p
  pub binary : (n low : ℕ)
      → not_field (FieldName.Binary n low) ≡ false
      → Polynomials (GF (FieldName.Binary n low)) n low
  pub only : (n low : ℕ) (mul : ℕ → ℕ → ℕ)
      → not_field (FieldName.Binary n low) ≡ false
      → Multiplies (GF (FieldName.Binary n low)) n low mul
      → (a b : ℕ)
      → a < 2 ^ n
      → b < 2 ^ n
      → mul a b ≡ (GF (FieldName.Binary n low)).mul a b
