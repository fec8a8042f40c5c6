-- The door of a call: the field is made by its name, or the name is refused.
--
--   made-named, made_declined == what the conversion's contract says in each of its two cases
--   behind_door, at_door      == the answer of a call, where the field is made and where the name is refused
-- Assumes nothing.
use mathlib.Core.Path.{◌≡◌, sym, ap, subst, ◌∙◌}
use Rattle.std.specs.Prelude.{Result as Answer, Ok, Err}
use Rattle.meaning.specs.declared.FieldName.{FieldName}
use Rattle.meaning.specs.declared.Refusal.{Refusal}
use Rattle.meaning.specs.Field.{Field}
use Rattle.meaning.specs.Result.{Result, refused}
use Rattle.meaning.specs.FieldNames.{in_field}
use Rattle.meaning.specs.Answers.{number_of}
use Rattle.meaning.proofs.Tables.{in_field_lem, no_field}
use Rattle.arith.specs.declared.field.GaloisField.{GaloisField}
use Rattle.arith.specs.Represented.{field_of, FieldNamed, Declined, FieldMade}

module _ {name : FieldName} {made : Answer GaloisField Refusal} (h : FieldMade name made) where
  pub made-named : {f : GaloisField} → made ≡ Ok f → FieldNamed name f
  made-named e = subst (FieldMade name) e h

  pub made_declined : {r : Refusal} → made ≡ Err r → Declined name r
  made_declined e = subst (FieldMade name) e h

module _ {A : Type 0} {name : FieldName} (answer : Field → Result A) where
  pub behind_door : {f : GaloisField} → FieldNamed name f → in_field name answer ≡ answer (field_of f)
  behind_door o = in_field_lem name answer o.exists ∙ ap answer (sym o.is_field)

  pub at_door : {r : Refusal} → Declined name r → in_field name answer ≡ refused (number_of r)
  at_door d = no_field name answer d.holds ∙ ap refused (sym d.number)
