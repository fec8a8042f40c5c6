-- In characteristic 2 a sum is an exclusive or, of which the bits below the size count.
--
--   sum-bits          == so is a + 1·b for any numbers a and b
--   product-bits      == and 1·b has the bits of b below the size
--
-- Assumes nothing.
use Prim.Native.Nat.{ℕ, ◌+◌, ◌-◌, ◌%◌, ◌^◌}
use mathlib.Core.Path.{◌≡◌, sym, ap, ◌∙◌}
use native.Mathlib.Nat.{add-mod}
use lib.Bits.{bit_and, bit_xor, and_mask, xor_zero_l}
use native.Mathlib.Omega.{arith}
use Rattle.meaning.specs.Field.{prime}
use Rattle.bridge.proofs.Basics.Interpretation.{prime-add, number-add-one-mul, prime-size}
use Rattle.bridge.proofs.Basics.Interpretation.{number-zero-add, mul-below}
use Rattle.bridge.proofs.Binary.WordLists.{xor_low}
use Rattle.arith.specs.declared.field.GaloisField.{GaloisField}
use Rattle.arith.specs.prime_field.PrimeForm.{prime_field_of}
use Rattle.arith.specs.Represented.{field_of}
use Rattle.arith.proofs.Represented.{field-is_field}
use Rattle.arith.proofs.extension.Elements.{sum-element, extension_size}
use Rattle.arith.proofs.Sorts.{prime_characteristic}

-- the size is 2^n, and the n lowest bits count
record Bits (f : GaloisField) (n : ℕ) : Type 0 where
  size : (field_of f).size ≡ 2 ^ n
  sum : (a b : ℕ) → bit_xor a b % 2 ^ n ≡ (field_of f).add a b

by-sort : (f : GaloisField) → (field_of f).characteristic ≡ 2 → (n : ℕ) × Bits f n
unfolding field_of prime_field_of
by-sort (GaloisField.Extension f) h = (
  f.degree,
  record { size = extension_size f; sum = sum-element f },
)
by-sort (GaloisField.Prime f) h = (
  1,
  record {
    size = prime-size f.size ∙ is_two;
    sum = λ a b.
        xor_low a b
        ∙ sym (add-mod a b 2)
        ∙ sym (prime-add 2 a b)
        ∙ ap (λ p. (prime p).add a b) (sym is_two);
  },
)
  where
    is_two : f.size ≡ 2
    is_two = sym (prime_characteristic f) ∙ h

module _
    (f : GaloisField) (two : (field_of f).characteristic ≡ 2)
    (mask : ℕ) (masks : mask + 1 ≡ (field_of f).size)
  where
    masked : (n : ℕ) → (field_of f).size ≡ 2 ^ n → (x : ℕ) → bit_and x mask ≡ x % 2 ^ n
    masked n e x =
        let m : mask ≡ 2 ^ n - 1 = omega (arith, masks, e) in ap (bit_and x) m ∙ and_mask x n

    pub sum-bits :
        (a b : ℕ) → bit_and (bit_xor a b) mask ≡ (field_of f).add a ((field_of f).mul 1 b)
    sum-bits a b =
        let (n, s) = by-sort f two in
        masked n s.size (bit_xor a b) ∙ s.sum a b ∙ sym (number-add-one-mul (field-is_field f) a b)

    pub product-bits : (b : ℕ) → bit_and b mask ≡ (field_of f).mul 1 b
    product-bits b =
        let (n, s) = by-sort f two in
        masked n s.size b
        ∙ ap (λ (x : ℕ). x % 2 ^ n) (sym (xor_zero_l b))
        ∙ s.sum 0 b
        ∙ sym (number-add-one-mul (field-is_field f) 0 b)
        ∙ number-zero-add (field-is_field f) (mul-below (field-is_field f) 1 b)
