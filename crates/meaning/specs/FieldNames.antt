-- The field that a name stands for. A call is given a name, and all behind its door is about the field.
--
--   named_field name    == the field with this name; nothing is said of a name that is refused
--   not_field name      == the name is that of no field in range
--   field_number name   == the number of the refusal that this meets: 6, or 20 for a field of 2^n elements
--   in_field name answer == refused by that number, or else the answer in the field with this name
use Rattle.std.specs.Prelude.{ℕ, Bool, true, false}
use Rattle.meaning.specs.declared.FieldName.{FieldName}
use Rattle.meaning.specs.Field.{Field, prime}
use Rattle.meaning.specs.Extension.{binary}
use Rattle.meaning.specs.Result.{Result, refused}
use Rattle.meaning.specs.Conditions.{not_prime, not_binary}

unfoldable pub named_field : FieldName → Field
named_field (FieldName.Prime p) = prime p
named_field (FieldName.Binary n low) = binary n low

unfoldable pub not_field : FieldName → Bool
not_field (FieldName.Prime p) = not_prime p
not_field (FieldName.Binary n low) = not_binary n low

unfoldable pub field_number : FieldName → ℕ
field_number (FieldName.Prime p) = 6
field_number (FieldName.Binary n low) = 20

unfoldable pub in_field : {A : Type 0} → FieldName → (Field → Result A) → Result A
in_field name answer =
    elim (not_field name) [ true ↦ refused (field_number name) | false ↦ answer (named_field name) ]
