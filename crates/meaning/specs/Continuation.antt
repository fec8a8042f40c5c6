-- The continuation way: the sequence that a polynomial and its starting terms define, in a lent buffer.
--
--   continue_table       == the refusals that the continuation meets in the field F, in order, for a buffer
--                           of
--                          `size` bytes
--   filled F g start place buffer == the buffer with the continued sequence from the place to its end
--   continue_in F g start place buffer == the buffer afterwards, or the refusal, in the field F; the
--                          polynomial stands for its monic multiple
--   continue_sequence name g start place buffer == the same in the field with this name
use Rattle.std.specs.Prelude.{ℕ, ◌-◌, List, [], ◌∷◌, ◌++◌, length, take}
use Rattle.std.proofs.Math.Option.{some}
use Rattle.meaning.specs.declared.FieldName.{FieldName}
use Rattle.meaning.specs.Field.{Field}
use Rattle.meaning.specs.Polynomial.{Polynomial, monic_multiple}
use Rattle.meaning.specs.Sequence.{continuation, cut}
use Rattle.meaning.specs.Result.{Result, Check, settle}
use Rattle.meaning.specs.Conditions.{place_out_of_range, term_out_of_field}
use Rattle.meaning.specs.Conditions.{continuation_degree_out_of_range, coefficient_out_of_range}
use Rattle.meaning.specs.Conditions.{start_unlike_degree}
use Rattle.meaning.specs.FieldNames.{in_field}

unfoldable pub continue_table : Field → Polynomial → List ℕ → ℕ → ℕ → List Check
continue_table F g start place size =
    (7, λ _. place_out_of_range size place)
    ∷ (8, λ _. term_out_of_field F start)
    ∷ (10, λ _. continuation_degree_out_of_range g)
    ∷ (11, λ _. coefficient_out_of_range F g)
    ∷ (15, λ _. start_unlike_degree g start)
    ∷ []

unfoldable pub filled : Field → Polynomial → List ℕ → ℕ → List ℕ → List ℕ
filled F g start place buffer = take place buffer ++ cut (continuation F g start) 0 (length buffer - place)

unfoldable pub continue_in : Field → Polynomial → List ℕ → ℕ → List ℕ → Result (List ℕ)
continue_in F g start place buffer =
    settle (continue_table F g start place (length buffer))
    (λ _. some (filled F (monic_multiple F g) start place buffer))

unfoldable pub continue_sequence : FieldName → Polynomial → List ℕ → ℕ → List ℕ → Result (List ℕ)
continue_sequence name g start place buffer = in_field name (λ F. continue_in F g start place buffer)
