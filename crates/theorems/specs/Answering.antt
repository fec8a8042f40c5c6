-- Demand 1, as statements about the contracts of the calls: every call gives an answer or one of its numbered
-- refusals, on every input; it answers exactly if none of its conditions holds, and refuses by n exactly if
-- the condition n holds and none before it does; a refusal leaves the answer bytes as they were; the input
-- alone decides. The signs are those of Promises.
--
--   Decided conditions told == so the conditions, each with its number, decide what is told
--   under_name name conditions == the conditions of a call that is given the name of a field: that of the
--                       name, and then those in the field
--   period_conditions F …, … == the conditions of the call in the field F, in their order
--   period_numbers name, … == the numbers by which paper 01 lets the call refuse: that of the name (6 of a
--                       prime, 20 of 2^n), and then those of the conditions in the field
--   OneOf n numbers  == n is one of the numbers
--   Tells numbers told == what is told is an answer, or a refusal by one of the numbers
--   RatingAnswers …  == what a rating tells, and what it leaves in the lent bytes
--   Answering …      == for one input of one call: so it is of whatever meets the contract; something meets
--                       it; and two results that meet it are the same, in every byte
--   …Answers         == so it is for every input of the call
--   NeverZero        == the definitions never reach `refused 0`, which would stand for a missing value
--
-- `tell` is what a result tells, `degree_from` the degree in what is told, and `Call` the contract on one
-- input, of a result and the lent bytes that it leaves.
use Rattle.meaning.specs.Answers.{Reply, told}
use Rattle.std.specs.Prelude.{ℕ, suc, ◌≤◌, ◌<◌, ◌≡◌, ◌⊎◌, ◌↔◌, ◌≢◌, Bool, List, [], ◌∷◌, ◌++◌, map, length}
use Rattle.std.specs.Prelude.{get_or, take, drop, replicate, T, eqb}
use Rattle.std.proofs.Math.Option.{none, some}
use Rattle.meaning.specs.declared.FieldName.{FieldName}
use Rattle.meaning.specs.Search.{holds_for_some}
use Rattle.meaning.specs.Field.{Field}
use Rattle.meaning.specs.Polynomial.{Polynomial, product, monic_multiple}
use Rattle.meaning.specs.Sequence.{annihilates_known}
use Rattle.meaning.specs.Result.{Result, refused, answered, clearing}
use Rattle.meaning.specs.Conditions.{named, total_degree, count_out_of_range, place_out_of_range}
use Rattle.meaning.specs.Conditions.{term_out_of_field, factor_count_out_of_range, factor_degree_out_of_range}
use Rattle.meaning.specs.Conditions.{continuation_degree_out_of_range, coefficient_out_of_range, is_reducible}
use Rattle.meaning.specs.Conditions.{two_equal}
use Rattle.meaning.specs.Conditions.{upper_powers_out_of_range, fewer_terms_than, start_unlike_degree}
use Rattle.meaning.specs.Conditions.{lent_too_short}
use Rattle.meaning.specs.FieldNames.{not_field, field_number}
use Rattle.meaning.specs.Period.{NoPower, rate_period}
use Rattle.meaning.specs.Portion.{factors_of, rate_set}
use Rattle.meaning.specs.Free.{rate_free}
use Rattle.meaning.specs.Catalogue.{find_entry}
use Rattle.meaning.specs.Continuation.{continue_sequence}
use Rattle.meaning.specs.Irreducibility.{ask_irreducible}
use Rattle.meaning.specs.Route.{RouteRecord, Mode, period_mode, set_mode, free_mode, mode_of, byte_of}
use Rattle.meaning.specs.Route.{records}
use Rattle.meaning.specs.Route.{Stage, at_start, after_end, look_up, body_lengths, admitted, walk, bodies}
use Rattle.meaning.specs.Route.{mode_unsuited, read_record}
use Rattle.meaning.specs.File.{WrittenFactor, file_factor, polynomial_of, file_degree_out_of_range}
use Rattle.meaning.specs.File.{file_coefficient_out_of_range, terms_of, field_in, rate_file}
use Rattle.meaning.specs.Answers.{told_irreducible, told_filling, told_power, told_set, told_free, told_file}
use Rattle.meaning.specs.Answers.{told_record, FileTold, with_powers, with_one, with_some}
use Rattle.meaning.specs.Calls.{PrimeCall, IrreducibleCall, PeriodCall, SetCall, FreeCall, ContinueCall}
use Rattle.meaning.specs.Calls.{FileCall, RecordCall, ProgramCall}
use Rattle.theorems.specs.Ratings.{GF}

-- THE NUMBERS OF EACH CALL

abbrev pub period_numbers : FieldName → List ℕ
period_numbers name = field_number name ∷ 7 ∷ 8 ∷ 10 ∷ 11 ∷ 12 ∷ 16 ∷ 17 ∷ []

abbrev pub set_numbers : FieldName → List ℕ
set_numbers name = field_number name ∷ 7 ∷ 8 ∷ 9 ∷ 10 ∷ 11 ∷ 12 ∷ 13 ∷ 14 ∷ 15 ∷ 16 ∷ 17 ∷ []

abbrev pub free_numbers : FieldName → List ℕ
free_numbers name = field_number name ∷ 7 ∷ 8 ∷ 16 ∷ []

abbrev pub continue_numbers : FieldName → List ℕ
continue_numbers name = field_number name ∷ 7 ∷ 8 ∷ 10 ∷ 11 ∷ 15 ∷ []

abbrev pub irreducible_numbers : FieldName → List ℕ
irreducible_numbers name = field_number name ∷ 10 ∷ 11 ∷ []

abbrev pub reader_numbers : List ℕ
reader_numbers = 1 ∷ 2 ∷ 3 ∷ 4 ∷ 5 ∷ []

-- A file meets 1 to 5, and where they let it pass the checks of its mode, with the name of its field.
abbrev pub mode_numbers : Mode → FieldName → List ℕ
mode_numbers period_mode = period_numbers
mode_numbers set_mode = set_numbers
mode_numbers free_mode = free_numbers

abbrev pub file_numbers : Result (List RouteRecord) → List ℕ
file_numbers (refused n) = reader_numbers
file_numbers (answered rs) = elim (mode_of (byte_of 3 rs))
    [ none ↦ [] | some m ↦ mode_numbers m (field_in rs) ]

-- AN ANSWER, OR A REFUSAL BY ONE OF THE NUMBERS

abbrev pub OneOf : ℕ → List ℕ → Type 0
OneOf n numbers = T (holds_for_some (eqb n) numbers)

abbrev pub Answered : {A : Type 0} → Result A → Type 0
Answered {A} told = (a : A) × (told ≡ answered a)

abbrev pub RefusedBy : {A : Type 0} → List ℕ → Result A → Type 0
RefusedBy numbers told = (n : ℕ) × (told ≡ refused n) × OneOf n numbers

abbrev pub Tells : {A : Type 0} → List ℕ → Result A → Type 0
Tells numbers told = Answered told ⊎ RefusedBy numbers told

-- WHEN IT ANSWERS, AND WHEN IT IS REFUSED BY WHICH NUMBER

-- a number of the list, and what its condition says
abbrev pub Condition : Type 1
Condition = ℕ × Type 0

abbrev pub NoneHolds : List Condition → Type 0
NoneHolds [] = Unit {0}
NoneHolds (c ∷ rest) = (c.1 → ⊥) × NoneHolds rest

-- the condition n holds, and none before it
abbrev pub FirstThatHolds : ℕ → List Condition → Type 0
FirstThatHolds n [] = ⊥
FirstThatHolds n (c ∷ rest) = ((n ≡ c.0) × c.1) ⊎ ((c.1 → ⊥) × FirstThatHolds n rest)

pub record Decided {A : Type 0} (conditions : List Condition) (told : Result A) : Type 0 where
  pub answers : Answered told ↔ NoneHolds conditions
  pub refuses : (n : ℕ) → (told ≡ refused n) ↔ FirstThatHolds n conditions

-- A call that is given the name of a field asks first whether it is that of no field in range, and then what
-- it asks in the field.
abbrev pub under_name : FieldName → (Field → List Condition) → List Condition
under_name name conditions = (field_number name, T (not_field name)) ∷ conditions (GF name)

-- The period way and the set way: `ten` and `eleven` say whether these hold of the factors, which a list and
-- a file write differently; f stands for the monic multiple of the factor, l for the monic multiples with
-- their upper powers. 17: no power of f, however large, annihilates the period; the product does not
-- annihilate the terms.
abbrev pub period_conditions : Field → Bool → Bool → Polynomial → List ℕ → ℕ → ℕ → List Condition
period_conditions F ten eleven f ts answer work =
    (7, T (count_out_of_range (length ts)))
    ∷ (8, T (term_out_of_field F ts))
    ∷ (10, T ten)
    ∷ (11, T eleven)
    ∷ (12, T (is_reducible F f))
    ∷ (16, T (lent_too_short answer work))
    ∷ (17, NoPower F f ts)
    ∷ []

abbrev pub set_conditions : Field → Bool → Bool → List (Polynomial × ℕ) → List ℕ → ℕ → ℕ → List Condition
set_conditions F ten eleven l ts answer work =
    (7, T (count_out_of_range (length ts)))
    ∷ (8, T (term_out_of_field F ts))
    ∷ (9, T (factor_count_out_of_range (length l)))
    ∷ (10, T ten)
    ∷ (11, T eleven)
    ∷ (12, T (holds_for_some (is_reducible F) (factors_of l)))
    ∷ (13, T (two_equal (factors_of l)))
    ∷ (14, T (upper_powers_out_of_range l))
    ∷ (15, T (fewer_terms_than (total_degree l) ts))
    ∷ (16, T (lent_too_short answer work))
    ∷ (17, (T (annihilates_known F (product F l) ts) → ⊥))
    ∷ []

abbrev pub free_conditions : Field → List ℕ → ℕ → ℕ → List Condition
free_conditions F ts answer work =
    (7, T (count_out_of_range (length ts)))
    ∷ (8, T (term_out_of_field F ts))
    ∷ (16, T (lent_too_short answer work))
    ∷ []

abbrev pub continue_conditions : Field → Polynomial → List ℕ → ℕ → ℕ → List Condition
continue_conditions F g start place size =
    (7, T (place_out_of_range size place))
    ∷ (8, T (term_out_of_field F start))
    ∷ (10, T (continuation_degree_out_of_range g))
    ∷ (11, T (coefficient_out_of_range F g))
    ∷ (15, T (start_unlike_degree g start))
    ∷ []

abbrev pub irreducible_conditions : Field → Polynomial → List Condition
irreducible_conditions F f =
    (10, T (factor_degree_out_of_range F f)) ∷ (11, T (coefficient_out_of_range F f)) ∷ []

-- The records of a file. `Reached file rest stage`: all records before the bytes `rest` are of a known kind,
-- whole and in place, and the order of records has come to this stage.
pub data Reached (file : List ℕ) : List ℕ → Stage → Type 0 where
  front : Reached file file at_start
  onward : {kind n : ℕ} {rest : List ℕ} {stage after : Stage}
      → Reached file (kind ∷ rest) stage
      → look_up kind body_lengths ≡ some n
      → n ≤ length rest
      → look_up kind (admitted stage) ≡ some after
      → Reached file (drop n rest) after

-- 2: the kind of the next record is unknown
pub record UnknownKind (file : List ℕ) : Type 0 where
  pub kind : ℕ
  pub rest : List ℕ
  pub stage : Stage
  pub reached : Reached file (kind ∷ rest) stage
  pub unknown : look_up kind body_lengths ≡ none

-- 3: its kind is known, and the file ends inside its body
pub record BodyCut (file : List ℕ) : Type 0 where
  pub kind : ℕ
  pub size : ℕ
  pub rest : List ℕ
  pub stage : Stage
  pub reached : Reached file (kind ∷ rest) stage
  pub known : look_up kind body_lengths ≡ some size
  pub fewer : length rest < size

-- 3 too: the file ends before the end record
pub record EndMissing (file : List ℕ) : Type 0 where
  pub stage : Stage
  pub reached : Reached file [] stage
  pub not_ended : stage ≢ after_end

-- 4: it is known and whole, and may not stand here
pub record OutOfPlace (file : List ℕ) : Type 0 where
  pub kind : ℕ
  pub size : ℕ
  pub rest : List ℕ
  pub stage : Stage
  pub reached : Reached file (kind ∷ rest) stage
  pub known : look_up kind body_lengths ≡ some size
  pub whole : size ≤ length rest
  pub misplaced : look_up kind (admitted stage) ≡ none

-- 5: with these records the mode is not 1, 2 or 3, or the factors do not suit it
pub record Unsuited (file : List ℕ) : Type 0 where
  pub held : List RouteRecord
  pub walked : walk file 0 at_start ≡ answered held
  pub unsuited : T (mode_unsuited held)

abbrev pub reader_conditions : List ℕ → List Condition
reader_conditions file =
    (1, (16384 < length file))
    ∷ (2, UnknownKind file)
    ∷ (3, BodyCut file ⊎ EndMissing file)
    ∷ (4, OutOfPlace file)
    ∷ (5, Unsuited file)
    ∷ []

-- A file that 1 to 5 let pass meets the condition of the name that it holds, and then those of its mode.
abbrev pub mode_conditions : Mode → List WrittenFactor → List ℕ → ℕ → ℕ → Field → List Condition
mode_conditions period_mode fs ts answer work F =
    period_conditions F (holds_for_some (file_degree_out_of_range F) fs)
    (holds_for_some (file_coefficient_out_of_range F) fs) (get_or (map polynomial_of fs) 0 []) ts answer work
mode_conditions set_mode fs ts answer work F =
    set_conditions F (holds_for_some (file_degree_out_of_range F) fs)
    (holds_for_some (file_coefficient_out_of_range F) fs)
    (map (λ f. (polynomial_of f, f.upper)) fs) ts answer work
mode_conditions free_mode fs ts answer work F = free_conditions F ts answer work

abbrev pub later_conditions : Result (List RouteRecord) → ℕ → ℕ → List Condition
later_conditions (refused n) answer work = []
later_conditions (answered rs) answer work =
    elim (mode_of (byte_of 3 rs)) [
      | none ↦ []
      | some m ↦
          under_name (field_in rs)
          (mode_conditions m (map file_factor (bodies 4 rs)) (terms_of rs) answer work)
    ]

abbrev pub file_conditions : List ℕ → ℕ → ℕ → List Condition
file_conditions file answer work = reader_conditions file ++ later_conditions (records file) answer work

-- WHAT IS LEFT IN THE LENT BYTES

-- The answer bytes are as they were where the call is refused, and else as they were after the coefficients.
-- The work bytes are as they were after every refusal but those of `clearing`; after 17, which is one of
-- these, and after an answer their first 8,192 are 0; those beyond are as they were in every case. Lent
-- bytes keep their number.
pub record RatingAnswers {A : Type 0} (numbers : List ℕ) (conditions : List Condition) (degree_from : A → ℕ)
    (told : Result A) (answer work answer' work' : List ℕ) : Type 0 where
  pub tells : Tells numbers told
  pub decided : Decided conditions told
  pub answer_kept : (n : ℕ) → told ≡ refused n → answer' ≡ answer
  pub answer_after : (a : A)
      → told ≡ answered a
      → drop (suc (degree_from a)) answer' ≡ drop (suc (degree_from a)) answer
  pub answer_length : length answer' ≡ length answer
  pub work-kept : (n : ℕ) → told ≡ refused n → (OneOf n clearing → ⊥) → work' ≡ work
  pub work_cleared : Answered told ⊎ (told ≡ refused 17) → take 8192 work' ≡ replicate 8192 0
  pub work_beyond : drop 8192 work' ≡ drop 8192 work
  pub work_length : length work' ≡ length work

pub record Answering {R A : Type 0} (numbers : List ℕ) (conditions : List Condition) (tell : R → Result A)
    (degree_from : A → ℕ) (answer work : List ℕ) (Call : R → List ℕ → List ℕ → Type 0) : Type 0 where
  pub each : (r : R) (answer' work' : List ℕ)
      → Call r answer' work'
      → RatingAnswers numbers conditions degree_from (tell r) answer work answer' work'
  pub some : (r : R) × (answer' : List ℕ) × (work' : List ℕ) × Call r answer' work'
  pub one : (r s : R) (answer' answer'' work' work'' : List ℕ)
      → Call r answer' work'
      → Call s answer'' work''
      → (r ≡ s) × ((answer' ≡ answer'') × (work' ≡ work''))

-- THE RATINGS

-- a factor, or factors, as lists: 10 and 11 look at them as they are given
abbrev pub list_conditions : FieldName → Polynomial → List ℕ → ℕ → ℕ → List Condition
list_conditions name f ts answer work =
    under_name name
    (λ F.
    period_conditions F (factor_degree_out_of_range F f) (coefficient_out_of_range F f) (monic_multiple F f)
    ts answer
    work)

abbrev pub lists_conditions : FieldName → List Polynomial → List ℕ → List ℕ → ℕ → ℕ → List Condition
lists_conditions name fs vs ts answer work =
    under_name name
    (λ F.
    set_conditions F (holds_for_some (factor_degree_out_of_range F) fs)
    (holds_for_some (coefficient_out_of_range F) fs)
    (named (map (monic_multiple F) fs) vs) ts answer work)

-- no factor
abbrev pub terms_conditions : FieldName → List ℕ → ℕ → ℕ → List Condition
terms_conditions name ts answer work = under_name name (λ F. free_conditions F ts answer work)

abbrev pub PeriodAnswers : Type 0
PeriodAnswers =
    (name : FieldName) (f : Polynomial) (ts answer work : List ℕ)
    → Answering (period_numbers name) (list_conditions name f ts (length answer) (length work)) told_power
    (λ a. a.degree) answer work (PeriodCall name f ts answer work)

abbrev pub SetAnswers : Type 0
SetAnswers =
    (name : FieldName) (fs : List Polynomial) (vs ts answer work : List ℕ)
    → Answering (set_numbers name) (lists_conditions name fs vs ts (length answer) (length work))
    (λ r. told_set r) (λ a. a.degree) answer work (SetCall name fs vs ts answer work)

abbrev pub FreeAnswers : Type 0
FreeAnswers =
    (name : FieldName) (ts answer work : List ℕ)
    → Answering (free_numbers name) (terms_conditions name ts (length answer) (length work)) told_free
    (λ a. a.degree) answer work (FreeCall name ts answer work)

abbrev pub file_degree : FileTold → ℕ
file_degree (with_powers d m n) = d
file_degree (with_one d m) = d
file_degree (with_some d m) = d

abbrev pub FileAnswers : Type 0
FileAnswers =
    (file answer work : List ℕ)
    → Answering (file_numbers (records file)) (file_conditions file (length answer) (length work))
    (λ r. told_file r.outcome) file_degree answer work (FileCall file answer work)

-- THE CONTINUATION

pub record Continuing (name : FieldName) (g : Polynomial) (start buffer : List ℕ) (place : ℕ) : Type 0 where
  pub tells : (r : Reply (Unit {0})) (buffer' : List ℕ)
      → ContinueCall name g start buffer place r buffer'
      → Tells (continue_numbers name) (told_filling r)
  pub decided : (r : Reply (Unit {0})) (buffer' : List ℕ)
      → ContinueCall name g start buffer place r buffer'
      → Decided (under_name name (λ F. continue_conditions F g start place (length buffer))) (told_filling r)
  pub buffer_kept : (r : Reply (Unit {0})) (buffer' : List ℕ)
      → ContinueCall name g start buffer place r buffer'
      → (n : ℕ)
      → told_filling r ≡ refused n
      → buffer' ≡ buffer
  pub buffer_length : (r : Reply (Unit {0})) (buffer' : List ℕ)
      → ContinueCall name g start buffer place r buffer'
      → length buffer' ≡ length buffer
  pub some : (r : Reply (Unit {0})) × (buffer' : List ℕ) × ContinueCall name g start buffer place r buffer'
  pub one : (r s : Reply (Unit {0})) (buffer' buffer'' : List ℕ)
      → ContinueCall name g start buffer place r buffer'
      → ContinueCall name g start buffer place s buffer''
      → (r ≡ s) × (buffer' ≡ buffer'')

abbrev pub ContinueAnswers : Type 0
ContinueAnswers =
    (name : FieldName) (g : Polynomial) (start buffer : List ℕ) (place : ℕ)
    → Continuing name g start buffer place

-- THE TWO QUESTIONS, THE READER, THE PROGRAM

pub record Asking (name : FieldName) (f : Polynomial) : Type 0 where
  pub tells : (r : Reply Bool)
      → IrreducibleCall name f r
      → Tells (irreducible_numbers name) (told_irreducible r)
  pub decided : (r : Reply Bool)
      → IrreducibleCall name f r
      → Decided (under_name name (λ F. irreducible_conditions F f)) (told_irreducible r)
  pub some : (r : Reply Bool) × IrreducibleCall name f r
  pub one : (r s : Reply Bool) → IrreducibleCall name f r → IrreducibleCall name f s → r ≡ s

abbrev pub IrreducibleAnswers : Type 0
IrreducibleAnswers = (name : FieldName) (f : Polynomial) → Asking name f

-- the prime question has no refusal
pub record AskingPrime (n : ℕ) : Type 0 where
  pub some : (r : Bool) × PrimeCall n r
  pub one : (r s : Bool) → PrimeCall n r → PrimeCall n s → r ≡ s

abbrev pub PrimeAnswers : Type 0
PrimeAnswers = (n : ℕ) → AskingPrime n

pub record ReadingFile (file : List ℕ) (n : ℕ) : Type 0 where
  pub tells : (r : Reply ℕ) (body : List ℕ)
      → RecordCall file n r body
      → Tells reader_numbers (told_record r)
  pub decided : (r : Reply ℕ) (body : List ℕ)
      → RecordCall file n r body
      → Decided (reader_conditions file) (told_record r)
  pub some : (r : Reply ℕ) × (body : List ℕ) × RecordCall file n r body
  pub one : (r s : Reply ℕ) (body body' : List ℕ)
      → RecordCall file n r body
      → RecordCall file n s body'
      → (r ≡ s) × (body ≡ body')

abbrev pub RecordAnswers : Type 0
RecordAnswers = (file : List ℕ) (n : ℕ) → ReadingFile file n

pub record Printing (input : List ℕ) : Type 0 where
  pub some : (output : List ℕ) × ProgramCall input output
  pub one : (output output' : List ℕ)
      → ProgramCall input output
      → ProgramCall input output'
      → output ≡ output'

abbrev pub ProgramAnswers : Type 0
ProgramAnswers = (input : List ℕ) → Printing input

-- NO VALUE IS MISSING, WHATEVER THE INPUT

pub record NeverZero : Type 0 where
  pub period : (name : FieldName) (f : Polynomial) (ts : List ℕ) (answer work : ℕ)
      → rate_period name f ts answer work ≢ refused 0
  pub set : (name : FieldName) (fs : List Polynomial) (vs ts : List ℕ) (answer work : ℕ)
      → rate_set name fs vs ts answer work ≢ refused 0
  pub free : (name : FieldName) (ts : List ℕ) (answer work : ℕ)
      → rate_free name ts answer work ≢ refused 0
  pub continuation : (name : FieldName) (g : Polynomial) (start : List ℕ) (place : ℕ) (buffer : List ℕ)
      → continue_sequence name g start place buffer ≢ refused 0
  pub irreducibility : (name : FieldName) (f : Polynomial) → ask_irreducible name f ≢ refused 0
  pub file : (file : List ℕ) (answer work : ℕ) → rate_file file answer work ≢ refused 0
  pub reader : (file : List ℕ) (n : ℕ) → read_record file n ≢ refused 0
  pub search : (ts : List ℕ) (work : ℕ) → find_entry ts work ≢ refused 0
