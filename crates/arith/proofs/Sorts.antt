-- The two sorts of field that a value may stand for.
--
--   prime-field, extension-field == the field of a value of either variant
--   prime-made, binary-made == what the conversion makes of a name
--   not-prime_declined, not-binary_declined == what it answers a name that it refuses
--   own-negative      == in GF(2^n) an element is its own negative
--   prime-raised      == in GF(p) the power p of an element is the element itself
--   prime_characteristic, binary_characteristic == the characteristic of either sort
--
-- Assumes nothing.
use Prim.Native.Nat.{ℕ, ◌*◌, ◌%◌, ◌^◌}
use mathlib.Core.Path.{◌≡◌, refl, sym, ap, ap₂, ◌∙◌}
use mathlib.Core.Bool.{true, false, not}
use mathlib.Core.List.{List, map}
use native.Mathlib.Nat.{pow-suc, pow-zero, one-mul}
use lib.Dec.{T}
use Rattle.meaning.specs.declared.FieldName.{FieldName}
use Rattle.meaning.specs.declared.Refusal.TheVariants.{NotPrime, NotBinaryField}
use Rattle.meaning.specs.Field.{prime, prime_in_range, negative, are_elements}
use Rattle.meaning.specs.Extension.{binary}
use Rattle.meaning.specs.Conditions.{not_prime, not_binary}
use Rattle.meaning.specs.FieldNames.{named_field, not_field, field_number}
use Rattle.meaning.specs.Answers.{number_of}
use Rattle.bridge.proofs.Basics.Searches.{T-not-false}
use Rattle.bridge.proofs.Basics.Interpretation.{prime-size, prime_characteristic_number}
use Rattle.bridge.proofs.Lists.Spread.{raise, raises_same}
use Rattle.bridge.proofs.Binary.BinaryNumbers.{binary_characteristic_number, binary-negative}
use Rattle.arith.specs.prime_field.PrimeForm.{prime_field_of}
use Rattle.arith.specs.declared.prime_field.PrimeField.{PrimeField}
use Rattle.arith.specs.declared.extension.ExtensionField.{ExtensionField}
use Rattle.arith.specs.extension.Extension.{extension_of}
use Rattle.arith.specs.declared.field.GaloisField.{GaloisField}
use Rattle.arith.specs.Represented.{field_of, well_formed, FieldNamed, Declined}
use Rattle.arith.proofs.prime_field.PrimeForm.{field-is_field}
use Rattle.arith.proofs.extension.Elements.{name}

module _ (f : PrimeField) where
  pub prime-field : {F : GaloisField} → F ≡ GaloisField.Prime f → prime_field_of f ≡ field_of F
  unfolding field_of
  prime-field e = sym (ap field_of e)

  pub prime_characteristic : (prime_field_of f).characteristic ≡ f.size
  unfolding prime_field_of
  prime_characteristic = prime_characteristic_number f.size

  once : (m : ℕ) → m ^ 1 ≡ m
  once m = pow-suc m 0 ∙ ap (λ (k : ℕ). k * m) (pow-zero m) ∙ one-mul m

  pub prime-raised :
      (a : List ℕ)
      → T (are_elements (prime_field_of f) a)
      → a ≡ map (raise (prime_field_of f) (prime_field_of f).characteristic) a
  unfolding prime_field_of
  prime-raised a e =
      sym (ap (λ n. map (raise (prime_field_of f) n) a) (sym (once (prime_field_of f).characteristic))
      ∙ raises_same (field-is_field f) 1 (prime-size f.size ∙ sym prime_characteristic) a e)

module _ (f : ExtensionField) where
  pub extension-field : {F : GaloisField} → F ≡ GaloisField.Extension f → extension_of f ≡ field_of F
  unfolding field_of
  extension-field e = sym (ap field_of e)

  pub binary_characteristic : (extension_of f).characteristic ≡ 2
  unfolding extension_of
  binary_characteristic = binary_characteristic_number f.degree f.low

  pub own-negative : (a : ℕ) → a % 2 ^ f.degree ≡ negative (extension_of f) a
  unfolding extension_of
  own-negative a = sym (binary-negative f.degree f.low (name f).least (name f).is_irreducible a)

-- What the conversion answers a name that it refuses
pub not-prime_declined : (p : ℕ) → prime_in_range p ≡ false → Declined (FieldName.Prime p) NotPrime
unfolding not_field not_prime field_number number_of
not-prime_declined p e = record { holds = ap not e; number = refl }

pub not-binary_declined :
    (n low : ℕ) → not_binary n low ≡ true → Declined (FieldName.Binary n low) NotBinaryField
unfolding not_field field_number number_of
not-binary_declined n low e = record { holds = e; number = refl }

-- What it makes of the others
pub prime-made :
    (p : ℕ) (f : PrimeField) → T (prime_in_range p) → f.size ≡ p
    → FieldNamed (FieldName.Prime p) (GaloisField.Prime f)
unfolding named_field not_field not_prime prime_field_of
prime-made p f h s =
    record {
      exists = T-not-false (prime_in_range p) h;
      well_formed = well_formed (GaloisField.Prime f);
      is_field = sym (prime-field f refl) ∙ ap prime s;
    }

pub binary-made :
    (n low : ℕ) (f : ExtensionField) → not_binary n low ≡ false → f.degree ≡ n → f.low ≡ low
    → FieldNamed (FieldName.Binary n low) (GaloisField.Extension f)
unfolding named_field not_field extension_of
binary-made n low f h d l =
    record {
      exists = h;
      well_formed = well_formed (GaloisField.Extension f);
      is_field = sym (extension-field f refl) ∙ ap₂ binary d l;
    }
