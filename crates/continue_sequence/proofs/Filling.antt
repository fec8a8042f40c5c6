-- The continuation, by its field, its verdict and what the filler leaves.
--
--   continue_place, continue_accepted == what an accepted call gives to the filler
--   continue_declined, continue_refused, continue_filled == the contract, by its three ends
--
-- Assumes nothing.
use Prim.Native.Nat.{ℕ, ◌-◌, ◌≤◌}
use native.Mathlib.Nat.{le_refl}
use native.Mathlib.Omega.{arith}
use mathlib.Core.Path.{◌≡◌, refl, sym, ap, ◌∙◌}
use mathlib.Core.List.{List, [], ◌++◌, append-nil}
use lib.ListN.{length, take, drop, length-drop, drop_of_length-le}
use lib.Dec.{ltb, eqb}
use lib.Seq.{length-take-le}
use borrow.Author.Tests.{ltb-false, eqb-true, not-false}
use Rattle.std.specs.Prelude.{Ok, Err}
use Rattle.meaning.specs.declared.FieldName.{FieldName}
use Rattle.meaning.specs.declared.Refusal.{Refusal}
use Rattle.meaning.specs.Field.{Field}
use Rattle.meaning.specs.Polynomial.{Polynomial, degree, monic_multiple}
use Rattle.meaning.specs.Sequence.{continuation, cut}
use Rattle.meaning.specs.Result.{Result, refused, first_of, map_result, value_of}
use Rattle.meaning.specs.Conditions.{place_out_of_range, count_out_of_range}
use Rattle.meaning.specs.Conditions.{continuation_degree_out_of_range, start_unlike_degree}
use Rattle.meaning.specs.Continuation.{continue_table, filled, continue_in, continue_sequence}
use Rattle.meaning.specs.Answers.{told_filling, told, Reply}
use Rattle.meaning.specs.Calls.{buffer_after, ContinueCall}
use Rattle.meaning.proofs.Passes.{Passes}
use Rattle.meaning.proofs.Tables.{in_field_lem, no_field}
use Rattle.bridge.proofs.Basics.Searches.{or-false}
use Rattle.bridge.proofs.Ways.Accepted.{terms-accepted}
use Rattle.bridge.proofs.Lists.Multiples.{coefficients_lead}
use Rattle.arith.specs.Represented.{field_of, FieldNamed, Declined}
use Rattle.arith.specs.declared.field.GaloisField.{GaloisField}
use Rattle.refusals.specs.Verdicts.{number_in}
use Rattle.refusals.proofs.Settled.{verdict_passes, settle_refused, settle-accepted}
use Rattle.continue_sequence.specs.continuation.Continuing.{Continuable}

-- a call for a buffer of `size` bytes that is accepted
module _ (F : Field) (g : Polynomial) (start : List ℕ) (place size : ℕ) {v : Reply (Unit {0})}
    (e : number_in v ≡ first_of (continue_table F g start place size)) (q : v ≡ Ok tt) where
  passes : Passes (continue_table F g start place size)
  passes = verdict_passes (continue_table F g start place size) e q

  pub continue_place : place ≤ size
  unfolding continue_table place_out_of_range
  continue_place =
      ltb-false size place
      (or-false (ltb size place) (count_out_of_range (size - place)) passes.count_in_range).0

  pub continue_accepted : Continuable F g start
  unfolding continue_table continuation_degree_out_of_range start_unlike_degree
  continue_accepted =
      let few : degree g ≤ 4096 = ltb-false 4096 (degree g) passes.degrees_in_range in
      let t = not-false (eqb (length start) (degree g)) passes.enough_terms in
      let same : length start ≡ degree g = eqb-true (length start) (degree g) t in
      record {
        leads = coefficients_lead F g passes.coefficients_in_range;
        elements = terms-accepted F start passes.terms_in_field;
        enough = same;
        few = omega arith;
      }

to_end : (l : List ℕ) (a : ℕ) → drop (length l - a) (drop a l) ≡ []
to_end l a = drop_of_length-le (drop a l) {i = length l - a} (rw length-drop (le_refl (length l - a)))

to_end-length : (l : List ℕ) (a : ℕ) → length (take (length l - a) (drop a l)) ≡ length l - a
to_end-length l a = length-take-le (length l - a) (drop a l) (rw length-drop (le_refl (length l - a)))

module _ (name : FieldName) (g : Polynomial) (start buffer : List ℕ) (place : ℕ) where
  -- what the call tells of a result, and what it leaves
  exactly : {r : Reply (Unit {0})} {result : Result (List ℕ)}
      → continue_sequence name g start place buffer ≡ result
      → told_filling r ≡ map_result (λ _. tt) result
      → ContinueCall name g start buffer place r (buffer_after result buffer)
  exactly d t =
      record {
        filling = t ∙ ap (map_result (λ _. tt)) (sym d);
        buffer_bytes = ap (λ (r : Result (List ℕ)). buffer_after r buffer) (sym d);
      }

  -- the name is that of no field
  pub continue_declined : {r : Refusal} → Declined name r
      → ContinueCall name g start buffer place (Err r) buffer
  unfolding told_filling told continue_sequence map_result buffer_after
  continue_declined d = exactly (no_field name _ d.holds ∙ ap refused (sym d.number)) refl

  module _ {field : GaloisField} (f : FieldNamed name field) where
    named : {result : Result (List ℕ)} → continue_in (field_of field) g start place buffer ≡ result
        → continue_sequence name g start place buffer ≡ result
    unfolding continue_sequence
    named d =
        in_field_lem name _ f.exists
        ∙ ap (λ F. continue_in F g start place buffer) (sym f.is_field)
        ∙ d

    module _ {v : Reply (Unit {0})}
        (e : number_in v ≡ first_of (continue_table (field_of field) g start place (length buffer)))
      where
        pub continue_refused : {x : Refusal}
            → v ≡ Err x
            → ContinueCall name g start buffer place (Err x) buffer
        unfolding told_filling told continue_in map_result buffer_after
        continue_refused q = exactly (named (settle_refused _ _ e q)) refl

        -- the part that the filler was lent runs to the end of the buffer, and comes back as ys
        pub continue_filled : {ys : List ℕ}
            → v ≡ Ok tt
            → ys
            ≡ cut (continuation (field_of field) (monic_multiple (field_of field) g) start) 0
            (length (take (length buffer - place) (drop place buffer)))
            → ContinueCall name g start buffer place (Ok tt)
            (take place buffer ++ (ys ++ drop (length buffer - place) (drop place buffer)))
        unfolding told_filling told continue_in filled map_result buffer_after value_of
        continue_filled q i =
            rw (to_end buffer place, append-nil, i, to_end-length buffer place)
            (exactly (named (settle-accepted _ _ e q)) refl)
