-- The question whether a polynomial is irreducible, by its verdict and the answer for its monic multiple.
--
--   asked-…           == what the multiple and the test ask of a polynomial that 10 and 11 let pass
--   question-…        == the call, by its ends
-- Assumes nothing.
use Prim.Native.Nat.{ℕ, ◌-◌, ◌≤◌, ◌<◌}
use mathlib.Core.Path.{◌≡◌, sym, ap, subst, ◌∙◌}
use mathlib.Core.Bool.{Bool}
use mathlib.Core.List.{List, ◌++◌}
use native.Mathlib.Omega.{arith}
use lib.ListN.{length, get_or, take, drop, length-append}
use lib.Seq.{take_at}
use Rattle.std.specs.Prelude.{Ok, Err}
use Rattle.meaning.specs.declared.FieldName.{FieldName}
use Rattle.meaning.specs.declared.Refusal.{Refusal}
use Rattle.meaning.specs.Field.{Field}
use Rattle.meaning.specs.Polynomial.{Polynomial, irreducible, monic_multiple}
use Rattle.meaning.specs.Result.{answered, first_of, value_of}
use Rattle.meaning.specs.Irreducibility.{irreducible_table, irreducible_in, ask_irreducible}
use Rattle.meaning.specs.Answers.{told_irreducible, told, Reply}
use Rattle.meaning.specs.Calls.{IrreducibleCall}
use Rattle.arith.specs.declared.field.GaloisField.{GaloisField}
use Rattle.arith.specs.Represented.{field_of, FieldNamed, Declined}
use Rattle.arith.proofs.Door.{behind_door, at_door}
use Rattle.refusals.specs.Verdicts.{number_in}
use Rattle.refusals.proofs.Settled.{verdict_passes, settle_refused, settle-accepted}
use Rattle.bridge.proofs.Basics.Interpretation.{IsField}
use Rattle.bridge.proofs.Lists.Polynomials.{leading-nonempty, monic_over_lem}
use Rattle.bridge.proofs.Lists.Multiples.{Leads, coefficients_lead, multiple-ten, multiple-eleven}
use Rattle.bridge.proofs.Lists.Multiples.{multiple-length}
use Rattle.bridge.proofs.Lists.Multiples.{multiple_self}
use Rattle.irreducible.specs.Accepted.{Accepted}
use Rattle.irreducible.proofs.Accepted.{accepted-short}
use Rattle.questions.specs.Asked.{Asked}

-- a polynomial that 10 and 11 let pass
module _ {F : Field} (I : IsField F) {f : Polynomial} (x : Asked F f) where
  pub asked-leads : Leads F f
  asked-leads = coefficients_lead F f x.coefficients_in_range

  pub asked-some : 0 < length f
  asked-some = leading-nonempty f asked-leads.nonzero

  pub asked-accepted : Accepted F (monic_multiple F f)
  asked-accepted =
      record {
        degree_in_range = multiple-ten I asked-leads ∙ x.degree_in_range;
        monic_over = multiple-eleven I asked-leads;
      }

  pub asked-short : length f ≤ 33
  asked-short = subst (λ n. n ≤ 33) (multiple-length I asked-leads) (accepted-short asked-accepted)

  -- a monic one is its own multiple
  pub asked-itself : get_or f (length f - 1) 0 ≡ 1 → monic_multiple F f ≡ f
  asked-itself e =
      multiple_self I f (monic_over_lem F f (length f - 1) (omega (arith, asked-some)) e
      asked-leads.elements)

  -- the multiple at the front of the room
  module _ (room : List ℕ) {w : List ℕ} (k : w ≡ monic_multiple F f ++ drop (length f) room) where
    pub asked-front : take (length f) w ≡ monic_multiple F f
    asked-front =
        ap (take (length f)) k
        ∙ take_at (monic_multiple F f) (drop (length f) room) (length f) (multiple-length I asked-leads)

    pub asked-room : length f ≤ length w
    asked-room =
        subst (λ (l : List ℕ). length f ≤ length l) (sym k)
        (omega (
          arith,
          length-append (monic_multiple F f) (drop (length f) room),
          multiple-length I asked-leads,
        ))

-- the call in the field that is made, by its verdict
module _ {name : FieldName} {field : GaloisField} (n : FieldNamed name field) (f : Polynomial)
    {v : Reply (Unit {0})} (e : number_in v ≡ first_of (irreducible_table (field_of field) f)) where
  pub question_refused : {x : Refusal}
      → v ≡ Err x
      → IrreducibleCall name f (Err x)
  unfolding told_irreducible told ask_irreducible irreducible_in
  question_refused q =
      record {
        answer =
            sym (behind_door (λ F. irreducible_in F f) n
            ∙ settle_refused (irreducible_table (field_of field) f) _ e q);
      }

  pub question_asked : v ≡ Ok tt → Asked (field_of field) f
  unfolding irreducible_table
  question_asked q =
      let h = verdict_passes (irreducible_table (field_of field) f) e q in
      record {
        degree_in_range = h.degrees_in_range;
        coefficients_in_range = h.coefficients_in_range;
      }

  pub question_answered : v ≡ Ok tt
      → {b : Bool}
      → b ≡ irreducible (field_of field) (monic_multiple (field_of field) f)
      → IrreducibleCall name f (Ok b)
  unfolding told_irreducible told ask_irreducible irreducible_in value_of
  question_answered q d =
      record {
        answer =
            ap answered d
            ∙ sym (behind_door (λ F. irreducible_in F f) n
            ∙ settle-accepted (irreducible_table (field_of field) f) _ e q);
      }

-- the name is that of no field
pub question_declined : {name : FieldName} {x : Refusal} (f : Polynomial)
    → Declined name x
    → IrreducibleCall name f (Err x)
unfolding told_irreducible told ask_irreducible
question_declined f d = record { answer = sym (at_door (λ F. irreducible_in F f) d) }
