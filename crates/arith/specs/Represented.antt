-- What the contracts of crate arith cite: the field that a value of `GaloisField` stands for.
--
--   field_of f         == the field that f stands for, GF(p) or GF(2^n)
--   WellFormed f      == the parts of f name a field in range and agree with each other
--   well_formed       == so it is with every f: the parts are those of a type that keeps these facts
--   FieldNamed name f == the name is that of a field, and f is well-formed and stands for it
--   Declined name r   == the name is that of no field, and r is the refusal that it meets
--   FieldMade name r  == so the conversion answers the name
use Rattle.std.specs.Prelude.{◌≡◌, true, false, Result, MatchResult}
use Rattle.meaning.specs.declared.FieldName.{FieldName}
use Rattle.meaning.specs.declared.Refusal.{Refusal}
use Rattle.meaning.specs.Field.{Field}
use Rattle.meaning.specs.FieldNames.{named_field, not_field, field_number}
use Rattle.meaning.specs.Answers.{number_of}
use Rattle.bridge.proofs.Binary.BinaryNumbers.{binary-name}
use Rattle.arith.specs.declared.prime_field.PrimeField.{PrimeField}
use Rattle.arith.specs.declared.extension.ExtensionField.{ExtensionField}
use Rattle.arith.specs.declared.field.GaloisField.{GaloisField}
use Rattle.arith.specs.prime_field.PrimeForm.{prime_field_of, WellFormedPrime}
use Rattle.arith.specs.extension.Extension.{extension_of, WellFormedExtension}

unfoldable pub field_of : GaloisField → Field
field_of (GaloisField.Prime f) = prime_field_of f
field_of (GaloisField.Extension f) = extension_of f

unfoldable pub WellFormed : GaloisField → Type 0
WellFormed (GaloisField.Prime f) = WellFormedPrime f
WellFormed (GaloisField.Extension f) = WellFormedExtension f

pub prime_formed : (f : PrimeField) → WellFormedPrime f
prime_formed f = record { size_is_prime = f.size_is_prime; multiplier_is_right = f.multiplier_is_right }

pub extension_formed : (f : ExtensionField) → WellFormedExtension f
extension_formed f =
    record { name = binary-name f.degree f.low f.admitted; size_is_right = f.size_is_right }

pub well_formed : (f : GaloisField) → WellFormed f
unfolding WellFormed
well_formed (GaloisField.Prime f) = prime_formed f
well_formed (GaloisField.Extension f) = extension_formed f

pub record FieldNamed (name : FieldName) (f : GaloisField) : Type 0 where
  pub exists : not_field name ≡ false
  pub well_formed : WellFormed f
  pub is_field : field_of f ≡ named_field name

pub record Declined (name : FieldName) (r : Refusal) : Type 0 where
  pub holds : not_field name ≡ true
  pub number : number_of r ≡ field_number name

abbrev pub FieldMade : FieldName → Result GaloisField Refusal → Type 0
FieldMade name r = MatchResult r (FieldNamed name) (Declined name)
