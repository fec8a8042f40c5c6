-- What the contracts of the rating of an accepted file cite.
--
--   AcceptedRecords rs == no body of a factor is cut, and the factors suit the mode
--   Rateable F file ts == the records of the file are accepted, and so are the terms ts that they hold, by 7
--                         and 8
--   rated_in F rs answer work == the answer of the mode's way in the field F on what the records hold
use Rattle.std.specs.Prelude.{ℕ, ◌<◌, ◌≡◌, false, List, [], map, length, get_or}
use Rattle.std.proofs.Math.Option.{none, some}
use Rattle.meaning.specs.Field.{Field}
use Rattle.meaning.specs.Result.{Result, refused, Rated, first_of}
use Rattle.meaning.specs.Route.{RouteRecord, mode_of, bodies, byte_of, mode_unsuited}
use Rattle.meaning.specs.File.{FileFigures, file_factor, terms_of, rate_mode}
use Rattle.route.specs.framing.Framing.{body_length, records_from}
use Rattle.refusals.specs.Verdicts.{terms_table}

pub record AcceptedRecords (rs : List RouteRecord) : Type 0 where
  pub whole : (i : ℕ) → i < length (bodies 4 rs) → length (get_or (bodies 4 rs) i []) ≡ body_length 4
  pub suited : mode_unsuited rs ≡ false

pub record Rateable (F : Field) (file ts : List ℕ) : Type 0 where
  pub accepted : AcceptedRecords (records_from file 0)
  pub terms : ts ≡ terms_of (records_from file 0)
  pub passed : first_of (terms_table F ts) ≡ none

unfoldable pub rated_in : Field → List RouteRecord → ℕ → ℕ → Result (Rated FileFigures)
rated_in F rs answer work =
    elim (mode_of (byte_of 3 rs)) [
      | none ↦ refused 5
      | some m ↦ rate_mode m F (map file_factor (bodies 4 rs)) (terms_of rs) answer work
    ]
