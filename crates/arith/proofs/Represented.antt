-- The field that a value of `GaloisField` stands for, as callers cite it.
--
--   field-is_field     == it is a field
--   size-power        == the size is a power of the characteristic
--   size-least, size_most == it is from 2 to 256
--   characteristic_least, characteristic_most == the characteristic is from 2 to 251
--   binary-field      == it is GF(2) where its size is 2
--
-- Assumes nothing.
use Prim.Native.Nat.{ℕ, ◌^◌, ◌≤◌}
use mathlib.Core.Path.{◌≡◌, sym, ap, ◌∙◌}
use mathlib.Core.Bool.{Bool, true}
use native.Mathlib.Omega.{arith}
use lib.Dec.{eqb}
use borrow.Author.Tests.{eqb-true}
use Rattle.meaning.specs.Field.{prime}
use Rattle.bridge.proofs.Basics.Interpretation.{IsField, prime-size, prime-size-power}
use Rattle.bridge.proofs.Basics.Interpretation.{size-two}
use Rattle.bridge.proofs.Binary.BinaryNumbers.{binary-size-power}
use Rattle.arith.specs.declared.field.GaloisField.{GaloisField}
use Rattle.arith.specs.prime_field.PrimeForm.{prime_field_of}
use Rattle.arith.specs.extension.Extension.{extension_of}
use Rattle.arith.specs.Represented.{field_of}
use Rattle.arith.proofs.prime_field.PrimeForm as primes
use Rattle.arith.proofs.extension.Elements.{extension_of-is_field, extension_size, size_low, size-high}
use Rattle.arith.proofs.Sorts.{prime_characteristic, binary_characteristic}

pub field-is_field : (f : GaloisField) → IsField (field_of f)
unfolding field_of
field-is_field (GaloisField.Prime f) = primes.field-is_field f
field-is_field (GaloisField.Extension f) = extension_of-is_field f

pub size-power : (f : GaloisField) → (n : ℕ) × ((field_of f).size ≡ (field_of f).characteristic ^ n)
unfolding field_of prime_field_of extension_of
size-power (GaloisField.Prime f) = (1, prime-size-power f.size)
size-power (GaloisField.Extension f) = (f.degree, binary-size-power f.degree f.low)

pub size-least : (f : GaloisField) → 2 ≤ (field_of f).size
size-least f = size-two (field-is_field f)

pub size_most : (f : GaloisField) → (field_of f).size ≤ 256
unfolding field_of prime_field_of
size_most (GaloisField.Prime f) = omega (arith, primes.size_most f, prime-size f.size)
size_most (GaloisField.Extension f) = omega (arith, size-high f, extension_size f)

pub characteristic_least : (f : GaloisField) → 2 ≤ (field_of f).characteristic
unfolding field_of
characteristic_least (GaloisField.Prime f) =
    omega (arith, prime_characteristic f, primes.size-least f)
characteristic_least (GaloisField.Extension f) = omega (arith, binary_characteristic f)

pub characteristic_most : (f : GaloisField) → (field_of f).characteristic ≤ 251
unfolding field_of
characteristic_most (GaloisField.Prime f) = omega (arith, prime_characteristic f, primes.size_most f)
characteristic_most (GaloisField.Extension f) = omega (arith, binary_characteristic f)

pub binary-field :
    (f : GaloisField) {b : Bool} → b ≡ eqb (field_of f).size 2 → b ≡ true → field_of f ≡ prime 2
unfolding field_of prime_field_of
binary-field (GaloisField.Prime f) e h =
    ap prime (sym (prime-size f.size) ∙ eqb-true _ _ (sym e ∙ h))
binary-field (GaloisField.Extension f) e h =
    absurd (omega (arith, size_low f, extension_size f, eqb-true _ _ (sym e ∙ h)))
