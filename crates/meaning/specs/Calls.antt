-- The contracts of the public calls, one record for each. A contract fixes the whole answer and every lent
-- byte afterwards, for all inputs, and those of a meter for all meters that hold terms: the lists are the
-- contents of the slices as the call begins (answer, work, buffer) and as it returns (answer', work',
-- buffer'), and r is what it returns.
--
--   LentAfter result …  == the lent answer and work bytes are left as the result says
--   PrimeCall           == prime_in_range      IrreducibleCall == is_irreducible
--   PeriodCall          == rate_period         SetCall         == rate_set
--   FreeCall            == rate_free
--   StartCall           == start_meter         TermCall        == take_term (`TermTaken` for terms held)
--   ReadingCall         == reading
--   EntryCall           == find_entry          CatalogueCall   == catalogue_entry
--   ContinueCall        == continue_sequence   FileCall        == rate_file
--   RecordCall          == record (the route reader)                ProgramCall == what the program prints
--
-- `model` is how the program keeps what a meter knows; the contracts of the meter name one such. Everything
-- else is an equation: nothing about an answer is left to the program.
use Rattle.std.specs.Prelude.{ℕ, ◌≡◌, Bool, List, [], ◌∷◌, ◌++◌, length, get_or, set}
use Rattle.meaning.specs.declared.FieldName.{FieldName}
use Rattle.meaning.specs.declared.PowerRating.{PowerRating}
use Rattle.meaning.specs.declared.SetRating.{SetRating}
use Rattle.meaning.specs.declared.FreeRating.{FreeRating}
use Rattle.meaning.specs.declared.Meter.{Meter}
use Rattle.meaning.specs.declared.MeterStep.{MeterStep}
use Rattle.meaning.specs.declared.EntryRating.{EntryRating}
use Rattle.meaning.specs.declared.FileRating.{FileRating}
use Rattle.meaning.specs.Field.{prime_in_range}
use Rattle.meaning.specs.Polynomial.{Polynomial}
use Rattle.meaning.specs.Result.{Result, refused, answered, map_result, Rated, figures_of, answer_after}
use Rattle.meaning.specs.Result.{work_after}
use Rattle.meaning.specs.Period.{rate_period}
use Rattle.meaning.specs.Portion.{rate_set}
use Rattle.meaning.specs.Free.{rate_free}
use Rattle.meaning.specs.Meter.{start_meter, take_term, meter_reading, MeterModel, Holding, unless_refused}
use Rattle.meaning.specs.Catalogue.{catalogue, find_entry}
use Rattle.meaning.specs.Continuation.{continue_sequence}
use Rattle.meaning.specs.Irreducibility.{ask_irreducible}
use Rattle.meaning.specs.Route.{RouteRecord, box_of, read_record}
use Rattle.meaning.specs.File.{rate_file}
use Rattle.meaning.specs.Print.{printed}
use Rattle.meaning.specs.Answers.{told_irreducible, told_filling, told_power, told_free, told_start, told_set}
use Rattle.meaning.specs.Answers.{set_figures_told, told_file, file_figures_told, told_record, set_padded}
use Rattle.meaning.specs.Answers.{told_entry, file_padded, set_places, file_places, Reply}
use Rattle.meaning.specs.FieldNames.{named_field}

pub record LentAfter {A : Type 0} (result : Result (Rated A)) (answer work answer' work' : List ℕ)
    : Type 0 where
  pub answer_bytes : answer' ≡ answer_after result answer
  pub work_bytes : work' ≡ work_after result work

pub record PrimeCall (n : ℕ) (r : Bool) : Type 0 where
  pub answer : r ≡ prime_in_range n

pub record IrreducibleCall (name : FieldName) (f : Polynomial) (r : Reply Bool) : Type 0 where
  pub answer : told_irreducible r ≡ ask_irreducible name f

pub record PeriodCall (name : FieldName) (f ts answer work : List ℕ) (r : Reply PowerRating)
    (answer' work' : List ℕ)
    : Type 0 where
  pub rating : told_power r ≡ figures_of (rate_period name f ts (length answer) (length work))
  pub lent : LentAfter (rate_period name f ts (length answer) (length work)) answer work answer' work'

pub record SetCall (name : FieldName) (fs : List Polynomial) (vs ts answer work : List ℕ)
    (r : Reply SetRating)
    (answer' work' : List ℕ) : Type 0 where
  pub rating : told_set r
      ≡ map_result set_figures_told (figures_of (rate_set name fs vs ts (length answer) (length work)))
  pub powers : set_places r ≡ set_padded (figures_of (rate_set name fs vs ts (length answer) (length work)))
  pub lent : LentAfter (rate_set name fs vs ts (length answer) (length work)) answer work answer' work'

pub record FreeCall (name : FieldName) (ts answer work : List ℕ) (r : Reply FreeRating)
    (answer' work' : List ℕ)
    : Type 0 where
  pub rating : told_free r ≡ figures_of (rate_free name ts (length answer) (length work))
  pub lent : LentAfter (rate_free name ts (length answer) (length work)) answer work answer' work'

pub record StartCall (model : MeterModel) (name : FieldName) (work : List ℕ) (r : Reply Meter)
    (work' : List ℕ)
    : Type 0 where
  pub starting : told_start r ≡ map_result (λ _. model.meter name []) (start_meter name)
  pub work_bytes : work' ≡ unless_refused (start_meter name) work (model.work name [])

pub record TermTaken (model : MeterModel) (name : FieldName) (ts : List ℕ) (m : Meter) (t : ℕ)
    (terms work : List ℕ)
    (r : MeterStep) (terms' work' : List ℕ) : Type 0 where
  pub reading : told_free r.reading ≡ take_term (named_field name) ts t
  pub meter : r.meter ≡ unless_refused (take_term (named_field name) ts t) m
      (model.meter name (ts ++ (t ∷ [])))
  pub term_bytes : terms' ≡ unless_refused (take_term (named_field name) ts t) terms (set terms (length ts) t)
  pub work_bytes : work' ≡ unless_refused (take_term (named_field name) ts t) work
      (model.work name (ts ++ (t ∷ [])))

pub record TermCall (model : MeterModel) (m : Meter) (t : ℕ) (terms work : List ℕ) (r : MeterStep)
    (terms' work' : List ℕ) : Type 0 where
  pub taken : (name : FieldName) (ts : List ℕ)
      → Holding model name ts m terms work
      → TermTaken model name ts m t terms work r terms' work'

pub record ReadingCall (model : MeterModel) (m : Meter) (r : Reply FreeRating) : Type 0 where
  pub reading : (name : FieldName) (ts terms work : List ℕ)
      → Holding model name ts m terms work
      → told_free r ≡ meter_reading (named_field name) ts

pub record EntryCall (ts work : List ℕ) (r : Reply EntryRating) (work' : List ℕ) : Type 0 where
  pub finding : told_entry r ≡ find_entry ts (length work)
  pub work_bytes : work' ≡ work_after (find_entry ts (length work)) work

-- entry i of the catalogue, from 0 on; 0, which is no entry, beyond the last
pub record CatalogueCall (i : ℕ) (r : ℕ) : Type 0 where
  pub answer : r ≡ get_or catalogue i 0

-- the buffer afterwards: unchanged by a refusal
unfoldable pub buffer_after : Result (List ℕ) → List ℕ → List ℕ
buffer_after (refused n) buffer = buffer
buffer_after (answered after) buffer = after

pub record ContinueCall (name : FieldName) (g : Polynomial) (start buffer : List ℕ) (place : ℕ)
    (r : Reply (Unit {0})) (buffer' : List ℕ) : Type 0 where
  pub filling : told_filling r ≡ map_result (λ _. tt) (continue_sequence name g start place buffer)
  pub buffer_bytes : buffer' ≡ buffer_after (continue_sequence name g start place buffer) buffer

pub record FileCall (file answer work : List ℕ) (r : FileRating) (answer' work' : List ℕ) : Type 0 where
  pub sender : r.sender ≡ box_of file
  pub rating : told_file r.outcome
      ≡ map_result file_figures_told (figures_of (rate_file file (length answer) (length work)))
  pub powers : file_places r.outcome ≡ file_padded (figures_of (rate_file file (length answer) (length work)))
  pub lent : LentAfter (rate_file file (length answer) (length work)) answer work answer' work'

-- the body that the reader hands back: the empty part where the file is refused
unfoldable pub body_after : Result RouteRecord → List ℕ
body_after (refused n) = []
body_after (answered r) = r.body

pub record RecordCall (file : List ℕ) (n : ℕ) (r : Reply ℕ) (body : List ℕ) : Type 0 where
  pub found : told_record r ≡ map_result (λ a. a.kind) (read_record file n)
  pub part : body ≡ body_after (read_record file n)

-- what the rating program prints for what it reads
pub record ProgramCall (input output : List ℕ) : Type 0 where
  pub lines : output ≡ printed input
