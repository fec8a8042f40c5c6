-- How the meter keeps what it knows, and what the contracts of its parts cite.
--
--   state_after F ts   == the state of the Berlekamp-Massey model after the terms ts over F
--   meter_numbers, meter_bytes == the numbers of a state, and its two polynomials in two halves of 4,096
--                                 bytes
--                        with zeros after them
--   meter_model        == these after the terms held
--   meter_of name r, recurrence_of m == the numbers of a recurrence as a meter for the field with this name,
--                        and those of the meter m as a recurrence
--   Usable m r        == r says whether the degree of the meter is at most the number of terms held, and its
--                        half 0 or 1; both of which hold where the meter holds terms
--   Taken F m t terms work m' terms' work' == the term is stored after those held, and for every meter that
--                        holds terms of F the step on it is taken
--   NextCall m t terms work r terms' work' == for every meter that holds terms, r is the meter that holds the
--                        term too, or the refusal of the term, and the lent bytes are as it leaves them
use Rattle.std.specs.Prelude.{ℕ, zero, suc, ◌≤◌, ◌≡◌, Bool, true, List, ◌∷◌, [], ◌++◌, length, set}
use Rattle.meaning.specs.declared.FieldName.{FieldName}
use Rattle.meaning.specs.declared.Meter.{Meter}
use Rattle.meaning.specs.Field.{Field}
use Rattle.meaning.specs.FieldNames.{named_field}
use Rattle.meaning.specs.Meter.{MeterModel, Holding, take_term, unless_refused}
use Rattle.meaning.specs.Result.{map_result}
use Rattle.meaning.specs.Answers.{Reply, told_start}
use Rattle.bridge.proofs.Basics.Padding.{pad}
use Rattle.bridge.proofs.Massey.Steps.{MasseyState, massey_after}
use Rattle.arith.specs.Inverse.{inverse}
use Rattle.massey.specs.declared.step.Recurrence.{Recurrence}

abbrev pub state_after : Field → List ℕ → MasseyState
state_after F ts = massey_after F (inverse F) ts (length ts)

abbrev pub meter_numbers : FieldName → ℕ → MasseyState → Meter
meter_numbers name n x =
    record {
      field = name;
      held = n;
      degree = length x.lower;
      earlier = length x.previous;
      inverse = x.inverse;
      half = x.half;
    }

unfoldable pub meter_bytes : ℕ → MasseyState → List ℕ
meter_bytes zero x = pad 4096 x.lower ++ pad 4096 x.previous
meter_bytes (suc i) x = pad 4096 x.previous ++ pad 4096 x.lower

abbrev pub meter_model : MeterModel
meter_model =
    record {
      meter = λ name ts. meter_numbers name (length ts) (state_after (named_field name) ts);
      work =
          λ name ts. meter_bytes (state_after (named_field name) ts).half (state_after (named_field name) ts);
    }

abbrev pub meter_of : FieldName → Recurrence → Meter
meter_of name r =
    record {
      field = name;
      held = r.seen;
      degree = r.degree;
      earlier = r.earlier;
      inverse = r.inverse;
      half = r.half;
    }

abbrev pub recurrence_of : Meter → Recurrence
recurrence_of m =
    record { seen = m.held; degree = m.degree; earlier = m.earlier; inverse = m.inverse; half = m.half }

pub record Usable (m : Meter) (r : Bool) : Type 0 where
  pub degree : r ≡ true → m.degree ≤ m.held
  pub half : r ≡ true → m.half ≤ 1
  pub holding : (name : FieldName) (ts terms work : List ℕ)
      → Holding meter_model name ts m terms work
      → r ≡ true

pub record Taken (F : Field) (m : Meter) (t : ℕ) (terms work : List ℕ) (m' : Meter) (terms' work' : List ℕ)
    : Type 0 where
  pub stored : terms' ≡ set terms m.held t
  pub numbers : (name : FieldName) (ts : List ℕ) → F ≡ named_field name
      → Holding meter_model name ts m terms work
      → m' ≡ meter_model.meter name (ts ++ (t ∷ []))
  pub bytes : (name : FieldName) (ts : List ℕ) → F ≡ named_field name
      → Holding meter_model name ts m terms work
      → work' ≡ meter_model.work name (ts ++ (t ∷ []))

pub record NextCall (m : Meter) (t : ℕ) (terms work : List ℕ) (r : Reply Meter) (terms' work' : List ℕ)
    : Type 0 where
  pub next : (name : FieldName) (ts : List ℕ) → Holding meter_model name ts m terms work
      → told_start r
      ≡ map_result (λ _. meter_model.meter name (ts ++ (t ∷ []))) (take_term (named_field name) ts t)
  pub term_bytes : (name : FieldName) (ts : List ℕ) → Holding meter_model name ts m terms work
      → terms' ≡ unless_refused (take_term (named_field name) ts t) terms (set terms (length ts) t)
  pub work_bytes : (name : FieldName) (ts : List ℕ) → Holding meter_model name ts m terms work
      → work'
      ≡ unless_refused (take_term (named_field name) ts t) work (meter_model.work name (ts ++ (t ∷ [])))
