-- The question whether a polynomial is irreducible.
--
--   irreducible_table    == the refusals that the question meets in the field F, in order
--   irreducible_in F f == the answer to the question in the field F, of the monic multiple of f
--   ask_irreducible name f == the answer in the field with this name
use Rattle.std.specs.Prelude.{Bool, List, [], ◌∷◌}
use Rattle.std.proofs.Math.Option.{some}
use Rattle.meaning.specs.declared.FieldName.{FieldName}
use Rattle.meaning.specs.Field.{Field}
use Rattle.meaning.specs.Polynomial.{Polynomial, irreducible, monic_multiple}
use Rattle.meaning.specs.Result.{Result, Check, settle}
use Rattle.meaning.specs.Conditions.{factor_degree_out_of_range, coefficient_out_of_range}
use Rattle.meaning.specs.FieldNames.{in_field}

unfoldable pub irreducible_table : Field → Polynomial → List Check
irreducible_table F f =
    (10, λ _. factor_degree_out_of_range F f)
    ∷ (11, λ _. coefficient_out_of_range F f)
    ∷ []

unfoldable pub irreducible_in : Field → Polynomial → Result Bool
irreducible_in F f = settle (irreducible_table F f) (λ _. some (irreducible F (monic_multiple F f)))

unfoldable pub ask_irreducible : FieldName → Polynomial → Result Bool
ask_irreducible name f = in_field name (λ F. irreducible_in F f)
