-- The meter, as statements about the contracts of its calls, for every way `model` to keep what it knows. The
-- signs are those of Promises.
--
--   start_numbers name, term_numbers == the numbers by which a start and a term are refused
--   start_conditions name, term_conditions F … == when they are
--   Run model name ts m terms work == the meter m was started for the field with this name and has taken the
--                       accepted terms ts, refused ones between them: by the contracts of the calls alone,
--                       from an accepted start on
--   StartAnswers     == demand 1 of a start
--   FreeGives name ts a == whatever rates the terms ts by the free way, with enough lent bytes, tells a
--   MeterRight …     == what a meter after a run shows, and what it tells of another term
--   MeterPromise     == so it is after every run
--   ProfileExport    == the same of the whole profile, as the call for other languages leaves it
--   ProfileAnswers   == demand 1 of that call: some result meets the contract, and one only
use Rattle.meaning.specs.Answers.{Reply}
use Rattle.std.specs.Prelude.{Ok}
use Rattle.std.specs.Prelude.{ℕ, suc, ◌*◌, ◌≤◌, ◌<◌, ◌≡◌, true, List, [], ◌∷◌, ◌++◌, length, take, drop, T}
use Rattle.meaning.specs.declared.FieldName.{FieldName}
use Rattle.meaning.specs.declared.FieldNumbers.{FieldNumbers}
use Rattle.meaning.specs.declared.FreeRating.{FreeRating}
use Rattle.meaning.specs.declared.Meter.{Meter}
use Rattle.meaning.specs.declared.MeterStep.{MeterStep}
use Rattle.meaning.specs.Field.{Field, are_elements}
use Rattle.meaning.specs.Result.{refused, answered}
use Rattle.meaning.specs.Conditions.{term_out_of_field, accepted_lent}
use Rattle.meaning.specs.FieldNames.{field_number}
use Rattle.meaning.specs.Free.{FreeFigures}
use Rattle.meaning.specs.Meter.{MeterModel, Remembers, start_meter, profile_entry}
use Rattle.meaning.specs.Answers.{told_free, told_start}
use Rattle.meaning.specs.Calls.{FreeCall, StartCall, TermCall, ReadingCall}
use Rattle.meaning.specs.Exports.{named_by, ProfileExported}
use Rattle.theorems.specs.Answering.{Tells, Condition, Decided, under_name}
use Rattle.theorems.specs.Ratings.{GF}
use Rattle.theorems.specs.OtherLanguages.{StatusTold, ExactlyOne}

abbrev pub start_numbers : FieldName → List ℕ
start_numbers name = field_number name ∷ []

abbrev pub term_numbers : List ℕ
term_numbers = 8 ∷ 18 ∷ []

-- of a start: that of the name alone
abbrev pub start_conditions : FieldName → List Condition
start_conditions name = under_name name (λ F. [])

-- of a term t for a meter that holds n terms
abbrev pub term_conditions : Field → ℕ → ℕ → List Condition
term_conditions F n t = (8, T (term_out_of_field F (t ∷ []))) ∷ (18, (4096 ≤ n)) ∷ []

-- A START

pub record Starting (model : MeterModel) (name : FieldName) (work : List ℕ) : Type 0 where
  pub tells : (r : Reply Meter) (work' : List ℕ) → StartCall model name work r work'
      → Tells (start_numbers name) (told_start r)
  pub decided : (r : Reply Meter) (work' : List ℕ) → StartCall model name work r work'
      → Decided (start_conditions name) (told_start r)
  pub work-kept : (r : Reply Meter) (work' : List ℕ)
      → StartCall model name work r work'
      → (n : ℕ)
      → told_start r ≡ refused n
      → work' ≡ work
  pub some : (r : Reply Meter) × (work' : List ℕ) × StartCall model name work r work'
  pub one : (r s : Reply Meter) (work' work'' : List ℕ)
      → StartCall model name work r work'
      → StartCall model name work s work''
      → (r ≡ s) × (work' ≡ work'')

abbrev pub StartAnswers : Type 0
StartAnswers = (model : MeterModel) (name : FieldName) (work : List ℕ) → Starting model name work

-- A RUN: an accepted start, with 4,096 lent bytes for the terms; then terms, some taken and some refused.
-- Each call gets the meter and the bytes that the call before it left.

pub data Run (model : MeterModel) (name : FieldName) : List ℕ → Meter → List ℕ → List ℕ → Type 0 where
  begun : {m : Meter} {terms work work' : List ℕ}
      → length terms ≡ 4096
      → StartCall model name work (Ok m) work'
      → Run model name [] m terms work'
  taken : {ts : List ℕ} {m : Meter} {t : ℕ} {terms work : List ℕ} {r : MeterStep} {terms' work' : List ℕ}
      → Run model name ts m terms work
      → TermCall model m t terms work r terms' work'
      → (a : FreeFigures)
      → told_free r.reading ≡ answered a
      → Run model name (ts ++ (t ∷ [])) r.meter terms' work'
  passed : {ts : List ℕ} {m : Meter} {t : ℕ} {terms work : List ℕ} {r : MeterStep} {terms' work' : List ℕ}
      → Run model name ts m terms work
      → TermCall model m t terms work r terms' work'
      → (n : ℕ)
      → told_free r.reading ≡ refused n
      → Run model name ts r.meter terms' work'

-- THE PROMISE

abbrev pub FreeGives : FieldName → List ℕ → FreeFigures → Type 0
FreeGives name ts a =
    (answer work : List ℕ) (r : Reply FreeRating) (answer' work' : List ℕ)
    → T (accepted_lent (length answer) (length work))
    → FreeCall name ts answer work r answer' work'
    → told_free r ≡ answered a

-- The meter shows figures: before the first term 0 and `one`, and else those of the free way for the terms
-- taken. Another term is told with the free way's figures for all of them, or refused by 8 or 18. Refused, it
-- leaves the meter and its lent bytes as they were.
--
-- The contracts of a term and of a reading speak of whatever the meter and its bytes may hold. With a model
-- that forgets (one meter for two fields, say) nothing would meet them; `some` and `some_reading` are said of
-- a model whose meters remember the name of the field, the number of terms and the least degree. That of the
-- program does: `meter_remembers` of crates/meter.
pub record MeterRight (model : MeterModel) (name : FieldName) (ts : List ℕ) (m : Meter) (terms work : List ℕ)
    : Type 0 where
  pub shows : (r : Reply FreeRating) → ReadingCall model m r → (a : FreeFigures) × (told_free r ≡ answered a)
  pub at_first : ts ≡ [] → (r : Reply FreeRating) → ReadingCall model m r
      → told_free r ≡ answered (record { degree = 0; unique = true })
  pub free-way : 1 ≤ length ts → (r : Reply FreeRating) (a : FreeFigures) → ReadingCall model m r
      → told_free r ≡ answered a
      → FreeGives name ts a
  pub tells : (t : ℕ) (r : MeterStep) (terms' work' : List ℕ) → TermCall model m t terms work r terms' work'
      → Tells term_numbers (told_free r.reading)
  pub decided : (t : ℕ) (r : MeterStep) (terms' work' : List ℕ)
      → TermCall model m t terms work r terms' work'
      → Decided (term_conditions (GF name) (length ts) t) (told_free r.reading)
  pub term_told : (t : ℕ) (r : MeterStep) (terms' work' : List ℕ)
      → TermCall model m t terms work r terms' work'
      → (a : FreeFigures)
      → told_free r.reading ≡ answered a
      → FreeGives name (ts ++ (t ∷ [])) a
  pub unchanged : (t : ℕ) (r : MeterStep) (terms' work' : List ℕ)
      → TermCall model m t terms work r terms' work'
      → (n : ℕ)
      → told_free r.reading ≡ refused n
      → (r.meter ≡ m) × (terms' ≡ terms) × (work' ≡ work)
  pub some_reading : Remembers model → (r : Reply FreeRating) × ReadingCall model m r
  pub some : Remembers model
      → (t : ℕ)
      → (r : MeterStep)
      × (terms' : List ℕ)
      × (work' : List ℕ)
      × TermCall model m t terms work r terms' work'
  pub one_reading : (r s : Reply FreeRating) → ReadingCall model m r → ReadingCall model m s → r ≡ s
  pub one : (t : ℕ) (r s : MeterStep) (terms' terms'' work' work'' : List ℕ)
      → TermCall model m t terms work r terms' work'
      → TermCall model m t terms work s terms'' work''
      → (r ≡ s) × ((terms' ≡ terms'') × (work' ≡ work''))

abbrev pub MeterPromise : Type 0
MeterPromise =
    (model : MeterModel) (name : FieldName) (ts : List ℕ) (m : Meter) (terms work : List ℕ)
    → Run model name ts m terms work
    → MeterRight model name ts m terms work

-- OTHER LANGUAGES: the call is given the numbers of a field, and the meter the name that they make. Where all
-- terms are elements and they are at most 4,096, each entry that there is room for has the figures of the
-- free way for the terms up to it

pub record ProfileRight (name : FieldName) (ts profile : List ℕ) (status : ℕ) (profile' : List ℕ)
    : Type 0 where
  pub status_told : StatusTold (start_meter name) status
  pub answers : Tells (start_numbers name) (start_meter name)
  pub decided : Decided (start_conditions name) (start_meter name)
  pub kept : (n : ℕ) → start_meter name ≡ refused n → profile' ≡ profile
  pub entries : status ≡ 0
      → T (are_elements (GF name) ts)
      → length ts ≤ 4096
      → (i : ℕ)
      → i < length ts
      → 4 * suc i ≤ length profile
      → (a : FreeFigures) × FreeGives name (take (suc i) ts) a
      × (take 4 (drop (4 * i) profile') ≡ profile_entry 0 a)

abbrev pub ProfileExport : Type 0
ProfileExport =
    (field : FieldNumbers) (ts profile : List ℕ) (status : ℕ) (profile' : List ℕ)
    → ProfileExported (named_by field) ts profile status profile'
    → ProfileRight (named_by field) ts profile status profile'

abbrev pub ProfileAnswers : Type 0
ProfileAnswers =
    (field : FieldNumbers) (ts profile : List ℕ)
    → ExactlyOne {R = ℕ × List ℕ} (λ r. ProfileExported (named_by field) ts profile r.0 r.1)
