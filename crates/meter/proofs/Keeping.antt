-- What a meter keeps: the state of the model after the terms held, in its numbers and its lent bytes.
--
--   meter_remembers   == a meter keeps the name of its field, the number of its terms and their least degree,
--                        so that some result meets the contracts of a term and of a reading
--   stands_meter, stands_bytes == where the state of the model stands in numbers and bytes, the meter and the
--                        work bytes are those of the model
--   usable_no, usable_last == whether a meter is usable: its degree is too large; its half decides
--   holding-numbers   == the numbers of a meter that holds terms are in range
--   holding_reading   == its degree and the number of its terms give what it is to show
--   stored-terms      == the lent terms up to one stored after those held
--   holding-holds     == for these the state of the model stands in its work bytes
--
-- Assumes nothing.
use Prim.Native.Nat.{ℕ, zero, suc, ◌+◌, ◌*◌, ◌-◌, ◌≤◌, ◌<◌}
use mathlib.Core.Path.{◌≡◌, refl, sym, ap, ap₂, subst, ◌∙◌}
use mathlib.Core.List.{List, [], ◌∷◌, ◌++◌}
use native.Mathlib.Nat as ℕ
use native.Mathlib.Omega.{arith}
use lib.ListN.{length, take, drop, set, length-drop, take-append-drop, get_or-append}
use lib.Seq.{take_at, drop_at, take_all}
use lib.Dec.{T, leb, leb→le, ltb, ltb→lt, lt→ltb}
use Rattle.meaning.specs.declared.FieldName.{FieldName}
use Rattle.meaning.specs.declared.Meter.{Meter}
use Rattle.meaning.specs.Field.{Field}
use Rattle.meaning.specs.Result.{answered, first_of, settle, value_of}
use Rattle.meaning.specs.FieldNames.{named_field}
use Rattle.meaning.specs.Free.{is_unique}
use Rattle.meaning.specs.Meter.{Remembers, Holding, meter_reading}
use Rattle.bridge.proofs.Basics.Searches.{T_true}
use Rattle.bridge.proofs.Basics.Interpretation.{IsField}
use Rattle.bridge.proofs.Basics.Padding.{pad, length-pad}
use Rattle.bridge.proofs.Binary.NamedFields.{named-is_field}
use Rattle.bridge.proofs.Massey.Steps.{MasseyState, massey_after, massey_sizes, massey_half, after_local}
use Rattle.bridge.proofs.Massey.Answer.{massey_least, massey_reading}
use Rattle.bridge.proofs.Massey.Meters.{take-stored}
use Rattle.arith.specs.Inverse.{inverse}
use Rattle.arith.specs.Slices.{part}
use Rattle.massey.specs.declared.step.Recurrence.{Recurrence}
use Rattle.massey.specs.step.Steps.{Stands, Holds}
use Rattle.massey.proofs.Inverting.{inverts}
use Rattle.meter.specs.Model.{state_after, meter_bytes, meter_model, meter_of, recurrence_of, Usable}

-- The two polynomials in the work bytes
bytes_lower : (i : ℕ) (x : MasseyState) → i ≤ 1 → part (meter_bytes i x) (4096 * i) 4096 ≡ pad 4096 x.lower
unfolding meter_bytes
bytes_lower zero x l =
    take_at (pad 4096 x.lower) (pad 4096 x.previous) 4096 (length-pad 4096 x.lower)
bytes_lower (suc zero) x l =
    ap (take 4096) (drop_at (pad 4096 x.previous) (pad 4096 x.lower) 4096
    (length-pad 4096 x.previous))
    ∙ take_all 4096 (pad 4096 x.lower) (ℕ.le_of_eq (length-pad 4096 x.lower))
bytes_lower (suc (suc i)) x l = absurd (omega arith)

bytes_previous : (i : ℕ) (x : MasseyState) → i ≤ 1
    → part (meter_bytes i x) (4096 * (1 - i)) 4096 ≡ pad 4096 x.previous
unfolding meter_bytes
bytes_previous zero x l =
    ap (take 4096) (drop_at (pad 4096 x.lower) (pad 4096 x.previous) 4096 (length-pad 4096 x.lower))
    ∙ take_all 4096 (pad 4096 x.previous) (ℕ.le_of_eq (length-pad 4096 x.previous))
bytes_previous (suc zero) x l =
    take_at (pad 4096 x.previous) (pad 4096 x.lower) 4096 (length-pad 4096 x.previous)
bytes_previous (suc (suc i)) x l = absurd (omega arith)

parts_whole : (w : List ℕ) → length w ≡ 8192 → part w 0 4096 ++ part w 4096 4096 ≡ w
parts_whole w e =
    ap (λ u. take 4096 w ++ u) (take_all 4096 (drop 4096 w) (omega (arith, length-drop 4096 w)))
    ∙ take-append-drop 4096 w

bytes_stand : (i : ℕ) (x : MasseyState) (w : List ℕ) → i ≤ 1 → length w ≡ 8192
    → part w (4096 * i) 4096 ≡ pad 4096 x.lower
    → part w (4096 * (1 - i)) 4096 ≡ pad 4096 x.previous
    → w ≡ meter_bytes i x
unfolding meter_bytes
bytes_stand zero x w l e a b = sym (parts_whole w e) ∙ ap₂ ◌++◌ a b
bytes_stand (suc zero) x w l e a b = sym (parts_whole w e) ∙ ap₂ ◌++◌ b a
bytes_stand (suc (suc i)) x w l e a b = absurd (omega arith)

-- The numbers of a meter: the name of the field, how many terms it holds, and their least degree
pub meter_remembers : Remembers meter_model
meter_remembers =
    record {
      field_kept = λ name ts. refl;
      count_kept = λ name ts. refl;
      degree_kept =
          λ name ts six eight.
          let I = named-is_field name six in massey_least I (inverse (named_field name)) (inverts I) ts;
    }

-- The meter of a state
module _ (name : FieldName) (ts : List ℕ) {w : List ℕ} {r : Recurrence}
    (h : Stands (state_after (named_field name) ts) w r) where
  pub stands_meter : {q : FieldName} → q ≡ name → r.seen ≡ length ts
      → meter_of q r ≡ meter_model.meter name ts
  stands_meter e c i =
      record {
        field = e i;
        held = c i;
        degree = h.degree i;
        earlier = h.earlier i;
        inverse = h.inverse i;
        half = h.half i;
      }

  pub stands_bytes : length w ≡ 8192 → w ≡ meter_model.work name ts
  stands_bytes l =
      bytes_stand r.half (state_after (named_field name) ts) w h.within l h.current h.previous
      ∙ ap (λ i. meter_bytes i (state_after (named_field name) ts)) h.half

-- A meter that holds terms
module _ {name : FieldName} {ts : List ℕ} {m : Meter} {terms work : List ℕ}
    (h : Holding meter_model name ts m terms work) where
  abbrev F : Field
  F = named_field name

  abbrev x : MasseyState
  x = state_after F ts

  holding-is_field : IsField F
  holding-is_field = named-is_field name h.field_exists

  half-bound : m.half ≤ 1
  half-bound =
      subst (λ n. n ≤ 1) (sym (ap (λ m. m.half) h.numbers))
      (massey_half F (inverse F) ts (length ts))

  holding-stands : Stands x work (recurrence_of m)
  holding-stands =
      record {
        half = ap (λ m. m.half) h.numbers;
        within = half-bound;
        degree = ap (λ m. m.degree) h.numbers;
        earlier = ap (λ m. m.earlier) h.numbers;
        inverse = ap (λ m. m.inverse) h.numbers;
        current =
            ap₂ (λ w i. part w (4096 * i) 4096) h.bytes (ap (λ m. m.half) h.numbers)
            ∙ bytes_lower x.half x (massey_half F (inverse F) ts (length ts));
        previous =
            ap₂ (λ w i. part w (4096 * (1 - i)) 4096) h.bytes (ap (λ m. m.half) h.numbers)
            ∙ bytes_previous x.half x (massey_half F (inverse F) ts (length ts));
      }

  pub holding-numbers : (m.degree ≤ m.held) × (m.half ≤ 1)
  holding-numbers = (
    subst (λ m. m.degree ≤ m.held) (sym h.numbers) (massey_sizes F (inverse F) ts (length ts)).short,
    half-bound,
  )

  -- what the reading tells
  pub holding_reading : meter_reading F ts
      ≡ answered (record { degree = m.degree; unique = leb (2 * m.degree) m.held })
  unfolding meter_reading settle first_of value_of is_unique
  holding_reading =
      rw (
        massey_reading holding-is_field (inverse F) (inverts holding-is_field) ts,
        h.numbers,
        meter_reading,
        settle,
        first_of,
        value_of,
        is_unique,
      )

  -- another term is stored after those held
  module _ (t : ℕ) where
    abbrev next : List ℕ
    next = ts ++ (t ∷ [])

    held_count : m.held ≡ length ts
    held_count = ap (λ m. m.held) h.numbers

    pub stored-terms : length ts < length terms → part (set terms m.held t) 0 (m.held + 1) ≡ next
    stored-terms l =
        let e : m.held + 1 ≡ suc (length ts) = omega (arith, held_count) in
        ap₂ (λ n k. take k (set terms n t)) held_count e
        ∙ take-stored (length ts) terms t l
        ∙ ap (λ u. u ++ (t ∷ [])) h.front

    pub holding-holds : Holds F next work (recurrence_of m)
    holding-holds =
        subst (λ s. Stands s work (recurrence_of m))
        (sym (ap (massey_after F (inverse F) next) held_count
        ∙ after_local F (inverse F) next ts (length ts)
        (λ i l. get_or-append ts (t ∷ []) 0 i l)))
        holding-stands

-- Whether a meter is usable
pub usable_no : (m : Meter) → m.held < m.degree → Usable m (leb m.degree m.held)
usable_no m l =
    record {
      degree = λ e. absurd (omega (arith, leb→le m.degree m.held (subst T (sym e) tt)));
      half = λ e. absurd (omega (arith, leb→le m.degree m.held (subst T (sym e) tt)));
      holding = λ name ts terms work h. absurd (omega (arith, holding-numbers h));
    }

pub usable_last : (m : Meter) → m.degree ≤ m.held → Usable m (ltb m.half 2)
usable_last m l =
    record {
      degree = λ _. l;
      half = λ e. omega (arith, ltb→lt m.half 2 (subst T (sym e) tt));
      holding = λ name ts terms work h. T_true (lt→ltb m.half 2 (omega (arith, holding-numbers h)));
    }
