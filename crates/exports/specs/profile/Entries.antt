-- What the contracts of the parts of the profile cite.
--
--   held_with F held t  == the terms that a meter for F holds after t was handed in: t too, unless it is
--                         refused
--   held_after F held ts == the terms that it holds after all of ts were handed in
--   entry_of F held t   == the entry of the term t: its status, and what the meter then shows
--   Ready name held m terms work == the meter for the field with this name holds these terms, and 4,096 bytes
--                         are lent to it for terms
--   EntryWritten status r bytes == the bytes are the entry with this status and the figures that r tells,
--                         where two bytes hold the degree
--   TermEntered …      == the term was handed to the meter, and its entry written
--   ProfileWritten …   == the entries of the terms were written at the front of the profile, as many as it
--                         has room for, and the rest is as it was
--
-- The last two speak of every meter that is ready, and of no other.
use Rattle.std.specs.Prelude.{ℕ, ◌<◌, ◌/◌, ◌≡◌, List, [], ◌∷◌, ◌++◌, length, take}
use Rattle.meaning.specs.declared.FieldName.{FieldName}
use Rattle.meaning.specs.declared.FreeRating.{FreeRating}
use Rattle.meaning.specs.declared.Meter.{Meter}
use Rattle.meaning.specs.Field.{Field}
use Rattle.meaning.specs.Result.{written}
use Rattle.meaning.specs.FieldNames.{named_field}
use Rattle.meaning.specs.Meter.{take_term, meter_reading, unless_refused, Holding, profile_entry}
use Rattle.meaning.specs.Meter.{reading_entry}
use Rattle.meaning.specs.Meter.{profile_of}
use Rattle.meaning.specs.Answers.{free_figures_of}
use Rattle.meaning.specs.Exports.{status_of}
use Rattle.meter.specs.Model.{meter_model}

unfoldable pub held_with : Field → List ℕ → ℕ → List ℕ
held_with F held t = unless_refused (take_term F held t) held (held ++ (t ∷ []))

unfoldable pub held_after : Field → List ℕ → List ℕ → List ℕ
held_after F held [] = held
held_after F held (t ∷ ts) = held_after F (held_with F held t) ts

unfoldable pub entry_of : Field → List ℕ → ℕ → List ℕ
entry_of F held t = reading_entry (status_of (take_term F held t)) (meter_reading F (held_with F held t))

pub record Ready (name : FieldName) (held : List ℕ) (m : Meter) (terms work : List ℕ) : Type 0 where
  pub holding : Holding meter_model name held m terms work
  pub size : length terms ≡ 4096

pub record EntryWritten (status : ℕ) (r : FreeRating) (bytes : List ℕ) : Type 0 where
  pub entry : (free_figures_of r).degree < 65536 → bytes ≡ profile_entry status (free_figures_of r)

pub record TermEntered (m : Meter) (t : ℕ) (terms work : List ℕ) (m' : Meter) (terms' work' bytes : List ℕ)
    : Type 0 where
  pub ready : (name : FieldName) (held : List ℕ) → Ready name held m terms work
      → Ready name (held_with (named_field name) held t) m' terms' work'
  pub entry : (name : FieldName) (held : List ℕ) → Ready name held m terms work
      → bytes ≡ entry_of (named_field name) held t

pub record ProfileWritten (m : Meter) (ts terms work profile profile' : List ℕ) : Type 0 where
  pub entries : (name : FieldName) → Ready name [] m terms work
      → profile' ≡ written (profile_of (named_field name) [] (take (length profile / 4) ts)) profile
