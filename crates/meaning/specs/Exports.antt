-- The contracts of the calls for other languages: the result of the call that each wraps, as one struct of
-- numbers, and the lent bytes afterwards. A lent list x is x' as the call returns.
--
--   version            == the number of the interface
--   named_by f          == the name of the field with the numbers f: GF(number) where the degree is 0, and
--                         else GF(2^degree), reduced by y^degree and the bits of the number. No numbers make
--                         the name of a field of 2^0 elements
--   status_of r         == 0 where the call is accepted, and else the number of the refusal
--   period_told, set_told, free_told == the struct of a rating, from the result of the way: zeros where
--                                       refused.
--                         The period way has one power; the free way has a word and no powers and no repeat
--                         length
--   word_number u       == the word as a number: 1 for `one`, 2 for `some`
--   answer_told, entry_told == the structs of the question and of the search, from their results
--   body_start rs n     == the place in the file where the body of record n begins, of its records rs: after
--                         the records before it and its kind. Beyond the last it is the end of the file, as
--                         for the end record
--   record_told r n     == the struct of record n, from the records of the file or its refusal
--   RatingExported tell result … == `gobashe_rate_period`, `gobashe_rate_set`, `gobashe_rate_free`: what is
--                         told of the result, and the lent answer and work bytes
--   ProfileExported name ts … == `gobashe_profile`: the entries of the profile at the front of the lent
--                         bytes, as many as these have room for, and the rest as it was
--   EntryExported ts … == `gobashe_find_entry`
--   Filled r …         == `gobashe_continue_sequence` with the result r
--   Question r a       == `gobashe_is_irreducible` with the result r
--   RecordExported …   == `gobashe_record`
use Rattle.std.specs.Prelude.{ℕ, zero, suc, ◌+◌, ◌/◌, ◌≡◌, Bool, true, false, List, [], ◌∷◌, length, get_or}
use Rattle.std.specs.Prelude.{take, eqb}
use Rattle.meaning.specs.declared.FieldName.{FieldName}
use Rattle.meaning.specs.declared.FieldNumbers.{FieldNumbers}
use Rattle.meaning.specs.declared.Rating.{Rating}
use Rattle.meaning.specs.declared.Answer.{Answer}
use Rattle.meaning.specs.declared.Entry.{Entry}
use Rattle.meaning.specs.declared.Found.{Found}
use Rattle.meaning.specs.Result.{Result, refused, answered, Rated, figures_of, written, work_after}
use Rattle.meaning.specs.Power.{PowerFigures}
use Rattle.meaning.specs.Portion.{SetFigures}
use Rattle.meaning.specs.Free.{FreeFigures}
use Rattle.meaning.specs.Meter.{start_meter, unless_refused, profile_of}
use Rattle.meaning.specs.Catalogue.{EntryFigures, find_entry}
use Rattle.meaning.specs.Route.{RouteRecord, end_record, records}
use Rattle.meaning.specs.Answers.{padded}
use Rattle.meaning.specs.Calls.{LentAfter, buffer_after}
use Rattle.meaning.specs.FieldNames.{named_field}

unfoldable pub version : ℕ
version = 4

unfoldable pub named_by : FieldNumbers → FieldName
named_by f = elim (eqb f.degree 0) [
  | true ↦ FieldName.Prime f.number
  | false ↦ FieldName.Binary f.degree f.number
]

unfoldable pub status_of : {A : Type 0} → Result A → ℕ
status_of (refused n) = n
status_of (answered a) = 0

-- THE RATINGS
abbrev pub rating_refused : ℕ → Rating
rating_refused n = record { status = n; complexity = 0; repeat = 0; word = 0; powers = padded [] }

unfoldable pub period_told : Result PowerFigures → Rating
period_told (refused n) = rating_refused n
period_told (answered a) =
    record {
      status = 0;
      complexity = a.degree;
      repeat = a.repeat;
      word = 0;
      powers = padded (a.power ∷ []);
    }

unfoldable pub set_told : Result SetFigures → Rating
set_told (refused n) = rating_refused n
set_told (answered a) =
    record { status = 0; complexity = a.degree; repeat = a.repeat; word = 0; powers = padded a.powers }

unfoldable pub word_number : Bool → ℕ
word_number true = 1
word_number false = 2

unfoldable pub free_told : Result FreeFigures → Rating
free_told (refused n) = rating_refused n
free_told (answered a) =
    record {
      status = 0;
      complexity = a.degree;
      repeat = 0;
      word = word_number a.unique;
      powers = padded [];
    }

pub record RatingExported {A : Type 0} (tell : Result A → Rating) (result : Result (Rated A))
    (answer work : List ℕ) (r : Rating) (answer' work' : List ℕ) : Type 0 where
  pub told : r ≡ tell (figures_of result)
  pub lent : LentAfter result answer work answer' work'

-- THE METER
pub record ProfileExported (name : FieldName) (ts profile : List ℕ) (status : ℕ) (profile' : List ℕ) : Type 0
  where
    pub told : status ≡ status_of (start_meter name)
    pub lent : profile'
        ≡ unless_refused (start_meter name) profile
        (written (profile_of (named_field name) [] (take (length profile / 4) ts)) profile)

-- THE CATALOGUE (entry i is answered as `CatalogueCall` says)
unfoldable pub entry_told : Result EntryFigures → Entry
entry_told (refused n) = record { status = n; entry = 0; power = 0 }
entry_told (answered a) = record { status = 0; entry = a.entry; power = a.power }

pub record EntryExported (ts work : List ℕ) (r : Entry) (work' : List ℕ) : Type 0 where
  pub told : r ≡ entry_told (find_entry ts (length work))
  pub work_bytes : work' ≡ work_after (find_entry ts (length work)) work

-- THE CONTINUATION
pub record Filled (result : Result (List ℕ)) (buffer : List ℕ) (status : ℕ) (buffer' : List ℕ) : Type 0 where
  pub told : status ≡ status_of result
  pub lent : buffer' ≡ buffer_after result buffer

-- THE QUESTION (whether a number is a prime in range is answered as `PrimeCall` says)
unfoldable pub answer_told : Result Bool → Answer
answer_told (refused n) = record { status = n; yes = 0 }
answer_told (answered true) = record { status = 0; yes = 1 }
answer_told (answered false) = record { status = 0; yes = 0 }

pub record Question (result : Result Bool) (r : Answer) : Type 0 where
  pub told : r ≡ answer_told result

-- THE READER
unfoldable pub body_start : List RouteRecord → ℕ → ℕ
body_start [] n = 0
body_start (r ∷ rs) zero = 1
body_start (r ∷ rs) (suc n) = 1 + length r.body + body_start rs n

unfoldable pub record_told : Result (List RouteRecord) → ℕ → Found
record_told (refused k) n = record { status = k; kind = 0; from = 0; length = 0 }
record_told (answered rs) n =
    record {
      status = 0;
      kind = (get_or rs n end_record).kind;
      from = body_start rs n;
      length = length (get_or rs n end_record).body;
    }

pub record RecordExported (file : List ℕ) (n : ℕ) (r : Found) : Type 0 where
  pub told : r ≡ record_told (records file) n
