-- Where two numbers name a field of 2^n elements, and the squares there.
--
--   named-binary, declined_binary == the two numbers name a field; they name none where they are refused
--   squares_out, squares_in == the squares, by whether all numbers are elements
--
-- Assumes nothing.
use Prim.Native.Nat.{ℕ}
use mathlib.Core.Path.{◌≡◌, sym, ap, ◌∙◌}
use mathlib.Core.Bool.{Bool, true, false, not}
use mathlib.Core.List.{List, map}
use lib.Dec.{T}
use Rattle.meaning.specs.declared.FieldName.{FieldName}
use Rattle.meaning.specs.declared.Refusal.{Refusal}
use Rattle.meaning.specs.Field.{Field, are_elements}
use Rattle.meaning.specs.Conditions.{not_binary, term_out_of_field}
use Rattle.bridge.proofs.Basics.Searches.{T_true, not-true}
use Rattle.bridge.proofs.Lists.Spread.{raise}
use Rattle.meaning.specs.FieldNames.{not_field}
use Rattle.arith.specs.Represented.{FieldNamed, Declined}
use Rattle.arith.specs.declared.field.GaloisField.{GaloisField}
use Rattle.leaves.specs.binary.Squares.{squares}
use Rattle.leaves.proofs.Suiting.{where_yes, where_no}

-- Two numbers that name a field, and two that do not
module _ {n low : ℕ} where
  pub named-binary : {field : GaloisField} → FieldNamed (FieldName.Binary n low) field
      → not (not_binary n low) ≡ true
  unfolding not_field
  named-binary h = ap not h.exists

  pub declined_binary : {r : Refusal} → Declined (FieldName.Binary n low) r → not (not_binary n low) ≡ false
  unfolding not_field
  declined_binary d = ap not d.holds

-- Squares
module _ (F : Field) (l : List ℕ) where
  out_of_field : {q : Bool} → q ≡ term_out_of_field F l → q ≡ true → are_elements F l ≡ false
  unfolding term_out_of_field
  out_of_field e h = not-true (are_elements F l) (sym e ∙ h)

  pub squares_out : {q : Bool} → q ≡ term_out_of_field F l → q ≡ true → l ≡ squares F l
  squares_out e h = where_no (are_elements F l) (map (raise F F.characteristic) l) l (out_of_field e h)

  pub squares_in :
      {r : List ℕ} → T (are_elements F l) → r ≡ map (raise F F.characteristic) l → r ≡ squares F l
  squares_in m a = where_yes (are_elements F l) (map (raise F F.characteristic) l) l (T_true m) a
