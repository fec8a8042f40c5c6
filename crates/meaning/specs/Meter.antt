-- The meter: the free way's figures after each term.
--
--   free_figures F ts   == the degree that the free way gives for the terms, and whether the word is `one`
--   start_meter name    == a meter is started for the field with this name, or 6 or 20
--   term_table F n t    == what a term t meets where n terms are held: 8, then 18
--   take_term F ts t    == the figures after the term, or its refusal
--   meter_reading F ts  == the figures that a meter shows which holds the terms ts; for none 0 and `one`
--   MeterModel         == how the program keeps what it knows: the meter's numbers and the lent work bytes,
--                         from the name of the field and the terms held alone
--   Holding model name ts m terms work == the meter m with these lent bytes was started for the field with
--                         this name and holds ts: they are what the model says, and the terms stand at the
--                         front of theirs
--   Remembers model    == its meters keep the name of the field, how many terms are held, and the least
--                         degree for these
--   unless_refused r old new == what was lent, as it was where r is a refusal
--   profile_entry n a   == the four bytes of a term in a profile: 0 or the number of its refusal, the degree
--                         in two bytes, the less significant first, and 1 for `one` or 0 for `some`
--   profile_of F held ts == the entries of the terms ts, handed in turn to a meter that holds some. Of a
--                         refused term the figures are those that the meter shows still; a meter for a field
--                         always shows some, so that no entry is missing
--
-- Of a meter that was made otherwise than by a start and by terms nothing is claimed.
use Rattle.std.specs.Prelude.{ℕ, ◌≤◌, ◌/◌, ◌%◌, ◌≡◌, Bool, true, false, List, [], ◌∷◌, ◌++◌, length, take}
use Rattle.std.specs.Prelude.{leb}
use Rattle.std.proofs.Math.Option.{Option, some}
use Rattle.meaning.specs.declared.FieldName.{FieldName}
use Rattle.meaning.specs.declared.Meter.{Meter}
use Rattle.meaning.specs.Search.{map_option}
use Rattle.meaning.specs.Field.{Field}
use Rattle.meaning.specs.Result.{Result, refused, answered, Check, settle}
use Rattle.meaning.specs.Conditions.{term_out_of_field}
use Rattle.meaning.specs.FieldNames.{named_field, not_field, in_field}
use Rattle.meaning.specs.Free.{FreeFigures, least_degree, is_unique}

unfoldable pub free_figures : Field → List ℕ → Option FreeFigures
free_figures F ts = map_option (λ e. record { degree = e; unique = is_unique ts e }) (least_degree F ts)

unfoldable pub start_meter : FieldName → Result (Unit {0})
start_meter name = in_field name (λ F. answered tt)

-- 18, of the number of terms held
unfoldable pub meter_full : ℕ → Bool
meter_full n = leb 4096 n

unfoldable pub term_table : Field → ℕ → ℕ → List Check
term_table F n t = (8, λ _. term_out_of_field F (t ∷ [])) ∷ (18, λ _. meter_full n) ∷ []

unfoldable pub take_term : Field → List ℕ → ℕ → Result FreeFigures
take_term F ts t = settle (term_table F (length ts) t) (λ _. free_figures F (ts ++ (t ∷ [])))

unfoldable pub meter_reading : Field → List ℕ → Result FreeFigures
meter_reading F ts = settle [] (λ _. free_figures F ts)

-- The meter and its lent bytes
pub record MeterModel : Type 0 where
  pub meter : FieldName → List ℕ → Meter
  pub work : FieldName → List ℕ → List ℕ

pub record Holding (model : MeterModel) (name : FieldName) (ts : List ℕ) (m : Meter) (terms work : List ℕ)
    : Type 0 where
  pub field_exists : not_field name ≡ false
  pub terms_in_field : term_out_of_field (named_field name) ts ≡ false
  pub count : length ts ≤ 4096
  pub numbers : m ≡ model.meter name ts
  pub front : take (length ts) terms ≡ ts
  pub bytes : work ≡ model.work name ts

pub record Remembers (model : MeterModel) : Type 0 where
  pub field_kept : (name : FieldName) (ts : List ℕ) → (model.meter name ts).field ≡ name
  pub count_kept : (name : FieldName) (ts : List ℕ) → (model.meter name ts).held ≡ length ts
  pub degree_kept : (name : FieldName) (ts : List ℕ)
      → not_field name ≡ false
      → term_out_of_field (named_field name) ts ≡ false
      → least_degree (named_field name) ts ≡ some (model.meter name ts).degree

unfoldable pub unless_refused : {A B : Type 0} → Result A → B → B → B
unless_refused (refused n) old new = old
unless_refused (answered a) old new = new

-- The whole profile
unfoldable pub profile_entry : ℕ → FreeFigures → List ℕ
profile_entry status a =
    status ∷ a.degree % 256 ∷ a.degree / 256 ∷ elim a.unique [ true ↦ 1 | false ↦ 0 ] ∷ []

unfoldable pub reading_entry : ℕ → Result FreeFigures → List ℕ
reading_entry status (refused n) = []
reading_entry status (answered a) = profile_entry status a

unfoldable pub profile_of : Field → List ℕ → List ℕ → List ℕ
profile_of F held [] = []
profile_of F held (t ∷ ts) = elim (take_term F held t) [
  | refused n ↦ reading_entry n (meter_reading F held) ++ profile_of F held ts
  | answered a ↦ profile_entry 0 a ++ profile_of F (held ++ (t ∷ [])) ts
]
