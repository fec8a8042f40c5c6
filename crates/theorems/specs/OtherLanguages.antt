-- The calls for other languages, as statements about their contracts: each keeps the promise of the call
-- that it wraps, through its numbers. The signs are those of Promises.
--
-- `told` is what the call tells: the status is 0 where that is an answer and else the number of the refusal,
-- and 0 is told of nothing but an answer. The struct that a rating, a question or a search returns is that of
-- what is told (`period_told`, …), with zeros where it is refused. What is told, and what is left in the
-- answer, work and buffer bytes, has the promises of the wrapped call: demand 1 (`answers`) and demand 2
-- (`right`). An exported call is given the numbers of a field, any two numbers, and the call that it wraps
-- the name that they make. The exported question for primes has the contract `PrimeCall`, and so its promise
-- and its demand 1.
--
--   part_of file r    == the part of the file that the struct r of the reader names
--
-- ExportAnswers says that on every input some result meets the contract of an exported call, and one only, in
-- every number of its struct and in every lent byte.
use Rattle.std.specs.Prelude.{ℕ, ◌+◌, ◌≤◌, ◌≡◌, ◌↔◌, Bool, List, map, length, take, drop, T}
use Rattle.meaning.specs.declared.FieldName.{FieldName}
use Rattle.meaning.specs.declared.FieldNumbers.{FieldNumbers}
use Rattle.meaning.specs.declared.Rating.{Rating}
use Rattle.meaning.specs.declared.Answer.{Answer}
use Rattle.meaning.specs.declared.Found.{Found}
use Rattle.meaning.specs.Polynomial.{Polynomial, NotAProduct, monic_multiple}
use Rattle.meaning.specs.Result.{Result, refused, answered, map_result}
use Rattle.meaning.specs.Power.{PowerFigures}
use Rattle.meaning.specs.Period.{rate_period}
use Rattle.meaning.specs.Portion.{SetFigures, rate_set}
use Rattle.meaning.specs.Free.{FreeFigures, rate_free}
use Rattle.meaning.specs.Continuation.{continue_sequence}
use Rattle.meaning.specs.Irreducibility.{ask_irreducible}
use Rattle.meaning.specs.Answers.{set_figures_told}
use Rattle.meaning.specs.Calls.{PrimeCall}
use Rattle.meaning.specs.Exports.{version, named_by, status_of, period_told, set_told, free_told}
use Rattle.meaning.specs.Exports.{RatingExported}
use Rattle.meaning.specs.Exports.{Filled, answer_told, Question, RecordExported}
use Rattle.theorems.specs.Answering.{period_numbers, set_numbers, free_numbers, reader_numbers}
use Rattle.theorems.specs.Answering.{continue_numbers, irreducible_numbers, Answered, Tells}
use Rattle.theorems.specs.Answering.{Decided, list_conditions, lists_conditions, terms_conditions}
use Rattle.theorems.specs.Answering.{under_name, continue_conditions, irreducible_conditions}
use Rattle.theorems.specs.Answering.{reader_conditions, RatingAnswers}
use Rattle.theorems.specs.Ratings.{GF, PeriodRight, SetRight, FreeAnswered, ContinueRight}
use Rattle.theorems.specs.Files.{HandsBack}

pub record StatusTold {A : Type 0} (told : Result A) (status : ℕ) : Type 0 where
  pub is : status ≡ status_of told
  pub zero : status ≡ 0 → Answered told

-- of results r, which are what a call returns and what is left in lent bytes
pub record ExactlyOne {R : Type 0} (Call : R → Type 0) : Type 0 where
  pub some : (r : R) × Call r
  pub one : (r s : R) → Call r → Call s → r ≡ s

-- THE PERIOD WAY

pub record PeriodExportRight (name : FieldName) (f : Polynomial) (ts answer work : List ℕ) (r : Rating)
    (answer' work' : List ℕ) : Type 0 where
  pub told : Result PowerFigures
  pub status_told : StatusTold told r.status
  pub rating_told : r ≡ period_told told
  pub answers :
      RatingAnswers (period_numbers name) (list_conditions name f ts (length answer) (length work))
      (λ a. a.degree) told answer work answer' work'
  pub right : PeriodRight (GF name) (monic_multiple (GF name) f) ts told answer'

abbrev pub PeriodExport : Type 0
PeriodExport =
    (field : FieldNumbers) (f : Polynomial) (ts answer work : List ℕ) (r : Rating) (answer' work' : List ℕ)
    → RatingExported period_told (rate_period (named_by field) f ts (length answer) (length work)) answer
    work r
    answer' work'
    → PeriodExportRight (named_by field) f ts answer work r answer' work'

-- THE SET WAY: the powers of the struct are the eight places

pub record SetExportRight (name : FieldName) (fs : List Polynomial) (vs ts answer work : List ℕ) (r : Rating)
    (answer' work' : List ℕ) : Type 0 where
  pub told : Result SetFigures
  pub status_told : StatusTold told r.status
  pub rating_told : r ≡ set_told told
  pub answers :
      RatingAnswers (set_numbers name) (lists_conditions name fs vs ts (length answer) (length work))
      (λ a. a.degree) (map_result set_figures_told told) answer work answer' work'
  pub right :
      SetRight (GF name) (map (monic_multiple (GF name)) fs) vs ts (map_result set_figures_told told) r.powers
      answer'

abbrev pub SetExport : Type 0
SetExport =
    (field : FieldNumbers) (fs : List Polynomial) (vs ts answer work : List ℕ) (r : Rating)
    (answer' work' : List ℕ)
    → RatingExported set_told (rate_set (named_by field) fs vs ts (length answer) (length work)) answer work r
    answer' work'
    → SetExportRight (named_by field) fs vs ts answer work r answer' work'

-- THE FREE WAY

pub record FreeExportRight (name : FieldName) (ts answer work : List ℕ) (r : Rating) (answer' work' : List ℕ)
    : Type 0 where
  pub told : Result FreeFigures
  pub status_told : StatusTold told r.status
  pub rating_told : r ≡ free_told told
  pub answers :
      RatingAnswers (free_numbers name) (terms_conditions name ts (length answer) (length work))
      (λ a. a.degree) told answer work answer' work'
  pub right : (a : FreeFigures) → told ≡ answered a → FreeAnswered (GF name) ts a answer'

abbrev pub FreeExport : Type 0
FreeExport =
    (field : FieldNumbers) (ts answer work : List ℕ) (r : Rating) (answer' work' : List ℕ)
    → RatingExported free_told (rate_free (named_by field) ts (length answer) (length work)) answer work r
    answer' work'
    → FreeExportRight (named_by field) ts answer work r answer' work'

-- THE CONTINUATION AND THE QUESTION

pub record ContinueExportRight (name : FieldName) (g : Polynomial) (start buffer : List ℕ) (place status : ℕ)
    (buffer' : List ℕ) : Type 0 where
  pub told : Result (Unit {0})
  pub status_told : StatusTold told status
  pub answers : Tells (continue_numbers name) told
  pub decided : Decided (under_name name (λ F. continue_conditions F g start place (length buffer))) told
  pub right : ContinueRight (GF name) (monic_multiple (GF name) g) start buffer place told buffer'

abbrev pub ContinueExport : Type 0
ContinueExport =
    (field : FieldNumbers) (g : Polynomial) (start buffer : List ℕ) (place status : ℕ) (buffer' : List ℕ)
    → Filled (continue_sequence (named_by field) g start place buffer) buffer status buffer'
    → ContinueExportRight (named_by field) g start buffer place status buffer'

pub record IrreducibleExportRight (name : FieldName) (f : Polynomial) (r : Answer) : Type 0 where
  pub told : Result Bool
  pub status_told : StatusTold told r.status
  pub told_answer : r ≡ answer_told told
  pub answers : Tells (irreducible_numbers name) told
  pub decided : Decided (under_name name (λ F. irreducible_conditions F f)) told
  pub right : (said : Bool) → told ≡ answered said → T said ↔ NotAProduct (GF name) f

abbrev pub IrreducibleExport : Type 0
IrreducibleExport =
    (field : FieldNumbers) (f : Polynomial) (r : Answer)
    → Question (ask_irreducible (named_by field) f) r
    → IrreducibleExportRight (named_by field) f r

-- THE READER: where the file is accepted, the kind and the part of the file are what the reader hands back
-- under the number, and so all of them together the file (`RecordPromise`). Refused, all is 0.

abbrev pub part_of : List ℕ → Found → List ℕ
part_of file r = take r.length (drop r.from file)

pub record RecordExportRight (file : List ℕ) (n : ℕ) (r : Found) : Type 0 where
  pub told : Result ℕ
  pub status_told : StatusTold told r.status
  pub answers : Tells reader_numbers told
  pub decided : Decided (reader_conditions file) told
  pub handed_back : (kind : ℕ)
      → told ≡ answered kind
      → (r.kind ≡ kind) × HandsBack file n kind (part_of file r)
  pub inside : r.from + r.length ≤ length file
  pub zeros : (k : ℕ) → told ≡ refused k → r ≡ record { status = k; kind = 0; from = 0; length = 0 }

abbrev pub RecordExport : Type 0
RecordExport = (file : List ℕ) (n : ℕ) (r : Found) → RecordExported file n r → RecordExportRight file n r

-- DEMAND 1

pub record ExportAnswers : Type 0 where
  pub period : (field : FieldNumbers) (f : Polynomial) (ts answer work : List ℕ)
      → ExactlyOne {R = Rating × List ℕ × List ℕ}
      (λ r.
      RatingExported period_told (rate_period (named_by field) f ts (length answer) (length work)) answer work
      r.0 r.1 r.2)
  pub set : (field : FieldNumbers) (fs : List Polynomial) (vs ts answer work : List ℕ)
      → ExactlyOne {R = Rating × List ℕ × List ℕ}
      (λ r.
      RatingExported set_told (rate_set (named_by field) fs vs ts (length answer) (length work)) answer work
      r.0 r.1 r.2)
  pub free : (field : FieldNumbers) (ts answer work : List ℕ)
      → ExactlyOne {R = Rating × List ℕ × List ℕ}
      (λ r.
      RatingExported free_told (rate_free (named_by field) ts (length answer) (length work)) answer work
      r.0 r.1 r.2)
  pub continuation : (field : FieldNumbers) (g : Polynomial) (start buffer : List ℕ) (place : ℕ)
      → ExactlyOne {R = ℕ × List ℕ}
      (λ r. Filled (continue_sequence (named_by field) g start place buffer) buffer r.0 r.1)
  pub irreducibility : (field : FieldNumbers) (f : Polynomial)
      → ExactlyOne (Question (ask_irreducible (named_by field) f))
  pub records : (file : List ℕ) (n : ℕ) → ExactlyOne (RecordExported file n)
  pub primes : (n : ℕ) → ExactlyOne (PrimeCall n)
  pub versions : ExactlyOne (λ r. r ≡ version)
