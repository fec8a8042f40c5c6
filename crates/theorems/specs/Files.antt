-- Route files, the reader and the program, as statements about their contracts. The signs are those of
-- Promises; rs are the records of a file, and its field, terms and factors are those that they hold:
-- `field_in rs` is the name of its field.
--
--   polynomials_in rs, uppers_in rs == the factors of the file, as polynomials, and their upper powers
--   PeriodFile, SetFile, FreeFile == what an answer for a file in mode 1, 2 or 3 means: that of the mode's
--                                    way
--   Holds file rs m  == the file has the records rs, and its mode is m
--   FilePromise      == what the rating of a file tells and leaves is right
--   ReadBack         == the records that the reader hands back, put one after another, are the file
--   RecordPromise    == so it is wherever the reader hands back records
--   rated_lines, lines_told == the result line and the poly line, from what a rating tells and leaves
--   ProgramAsCall    == the program prints the lines of what the rating of the file tells and leaves
--   ProgramPromise   == what it prints is right
use Rattle.meaning.specs.Answers.{Reply, file_places}
use Rattle.std.specs.Prelude.{ℕ, zero, suc, ◌≤◌, ◌<◌, ◌≡◌, true, false, List, [], ◌∷◌, ◌++◌, map, length}
use Rattle.std.specs.Prelude.{take}
use Rattle.std.proofs.Math.Option.{some}
use Rattle.meaning.specs.declared.FileRating.{FileRating}
use Rattle.meaning.specs.Polynomial.{Polynomial, product}
use Rattle.meaning.specs.Result.{Result, refused, answered}
use Rattle.meaning.specs.Conditions.{named}
use Rattle.meaning.specs.Power.{PowerFigures}
use Rattle.meaning.specs.Period.{NoPower}
use Rattle.meaning.specs.Free.{FreeFigures}
use Rattle.meaning.specs.Route.{RouteRecord, Mode, period_mode, set_mode, free_mode, mode_of, byte_of, bodies}
use Rattle.meaning.specs.Route.{records, box_of, look_up, body_lengths}
use Rattle.meaning.specs.File.{WrittenFactor, file_factor, polynomial_of, terms_of, field_in}
use Rattle.meaning.specs.Print.{text, decimal, joined, line, header}
use Rattle.meaning.specs.Answers.{SetTold, FileTold, with_powers, with_one, with_some, told_file, told_record}
use Rattle.meaning.specs.Answers.{padded}
use Rattle.meaning.specs.Calls.{FileCall, RecordCall, ProgramCall}
use Rattle.theorems.specs.Answering.{Tells, file_numbers, Decided, file_conditions}
use Rattle.theorems.specs.Ratings.{GF, list_in, NoneBegins, PeriodAnswered, SetAnswered, FreeAnswered}

-- WHAT A FILE HOLDS

abbrev pub factors_in : List RouteRecord → List WrittenFactor
factors_in rs = map file_factor (bodies 4 rs)

abbrev pub polynomials_in : List RouteRecord → List Polynomial
polynomials_in rs = map polynomial_of (factors_in rs)

abbrev pub uppers_in : List RouteRecord → List ℕ
uppers_in rs = map (λ f. f.upper) (factors_in rs)

pub record Holds (file : List ℕ) (rs : List RouteRecord) (m : Mode) : Type 0 where
  pub its_records : records file ≡ answered rs
  pub its_mode : mode_of (byte_of 3 rs) ≡ some m

-- THE RATING OF A FILE: a is what it tells, and `eight` the eight places of powers

-- Mode 1: the promise of the period way, with the one factor of the file. The denominator of the density is
-- the repeat length, and so the least number of terms after which the endless sequence repeats.
pub record PeriodFile (rs : List RouteRecord) (a : FileTold) (eight answer' : List ℕ) : Type 0 where
  pub factor : Polynomial
  pub its_factor : polynomials_in rs ≡ factor ∷ []
  pub figures : PowerFigures
  pub tells : a ≡ with_powers figures.degree figures.repeat 1
  pub places : eight ≡ padded (figures.power ∷ [])
  pub rated : PeriodAnswered (GF (field_in rs)) factor (terms_of rs) figures answer'

-- Mode 2: the promise of the set way, with the factors and upper powers of the file in its order. The
-- denominator is the number of terms, and so it is in mode 3. The repeat length is not told.
pub record SetFile (rs : List RouteRecord) (a : FileTold) (eight answer' : List ℕ) : Type 0 where
  pub figures : SetTold
  pub tells : a ≡ with_powers figures.degree (length (terms_of rs)) figures.count
  pub rated :
      SetAnswered (GF (field_in rs)) (polynomials_in rs) (uppers_in rs) (terms_of rs) figures eight answer'

-- Mode 3: the promise of the free way, with the word `one` or `some`, and no powers.
abbrev pub free_told : FreeFigures → ℕ → FileTold
free_told x m = elim x.unique [ true ↦ with_one x.degree m | false ↦ with_some x.degree m ]

pub record FreeFile (rs : List RouteRecord) (a : FileTold) (eight answer' : List ℕ) : Type 0 where
  pub figures : FreeFigures
  pub tells : a ≡ free_told figures (length (terms_of rs))
  pub places : eight ≡ padded []
  pub rated : FreeAnswered (GF (field_in rs)) (terms_of rs) figures answer'

abbrev pub RatedBy : Mode → List RouteRecord → FileTold → List ℕ → List ℕ → Type 0
RatedBy period_mode = PeriodFile
RatedBy set_mode = SetFile
RatedBy free_mode = FreeFile

-- 17 means what it means in the mode's way; the free way does not give it.
abbrev pub SeventeenBy : Mode → List RouteRecord → Type 0
SeventeenBy period_mode rs =
    (f : Polynomial) × (polynomials_in rs ≡ f ∷ []) × NoPower (GF (field_in rs)) f (terms_of rs)
SeventeenBy set_mode rs =
    NoneBegins (GF (field_in rs)) (product (GF (field_in rs)) (named (polynomials_in rs) (uppers_in rs)))
    (terms_of rs)
SeventeenBy free_mode rs = ⊥

pub record FileRight (file : List ℕ) (told : Result FileTold) (eight answer' : List ℕ) : Type 0 where
  pub rated : (a : FileTold)
      → told ≡ answered a
      → (rs : List RouteRecord) × (m : Mode) × Holds file rs m × RatedBy m rs a eight answer'
  pub seventeen : told ≡ refused 17
      → (rs : List RouteRecord) × (m : Mode) × Holds file rs m × SeventeenBy m rs

abbrev pub FilePromise : Type 0
FilePromise =
    (file answer work : List ℕ) (r : FileRating) (answer' work' : List ℕ)
    → FileCall file answer work r answer' work'
    → FileRight file (told_file r.outcome) (file_places r.outcome) answer'

-- THE READER: what it hands back under the numbers 0, 1, 2, …

abbrev pub HandsBack : List ℕ → ℕ → ℕ → List ℕ → Type 0
HandsBack file n kind body =
    (r : Reply ℕ) × RecordCall file n r body × (told_record r ≡ answered kind)

-- the first n of them, each kind before its body
abbrev pub one_after_another : (ℕ → ℕ) → (ℕ → List ℕ) → ℕ → List ℕ
one_after_another kinds bodies zero = []
one_after_another kinds bodies (suc n) =
    kinds 0 ∷ (bodies 0 ++ one_after_another (λ k. kinds (suc k)) (λ k. bodies (suc k)) n)

-- The file has `count` records, each body as long as its kind says; beyond the last it is the end record.
pub record ReadBack (file : List ℕ) (kinds : ℕ → ℕ) (bodies : ℕ → List ℕ) : Type 0 where
  pub count : ℕ
  pub whole : one_after_another kinds bodies count ≡ file
  pub lengths : (n : ℕ) → n < count → look_up (kinds n) body_lengths ≡ some (length (bodies n))
  pub beyond : (n : ℕ) → count ≤ n → (kinds n ≡ 8) × (bodies n ≡ [])

abbrev pub RecordPromise : Type 0
RecordPromise =
    (file : List ℕ) (kinds : ℕ → ℕ) (bodies : ℕ → List ℕ)
    → ((n : ℕ) → HandsBack file n (kinds n) (bodies n))
    → ReadBack file kinds bodies

-- THE PROGRAM

-- the degree d over the denominator m, the powers or the word, and the coefficients of g
abbrev pub rated_lines : ℕ → ℕ → ℕ → List ℕ → Polynomial → List ℕ
rated_lines box d m word g =
    line (decimal box ∷ text "ok" ∷ (decimal d ++ (text "/" ++ decimal m)) ∷ word ∷ [])
    ++ line (text "poly" ∷ map decimal g)

abbrev pub lines_told : ℕ → Result FileTold → List ℕ → List ℕ → List ℕ
lines_told box (refused n) eight answer' = line (decimal box ∷ text "refused" ∷ decimal n ∷ [])
lines_told box (answered (with_powers d m n)) eight answer' =
    rated_lines box d m (joined (text ",") (map decimal (take n eight))) (list_in answer' d)
lines_told box (answered (with_one d m)) eight answer' = rated_lines box d m (text "one") (list_in answer' d)
lines_told box (answered (with_some d m)) eight answer' =
    rated_lines box d m (text "some") (list_in answer' d)

-- Whatever meets the contract of the rating of the same file, with 4,097 answer and 8,192 work bytes.
abbrev pub ProgramAsCall : Type 0
ProgramAsCall =
    (input output : List ℕ)
    → ProgramCall input output
    → (answer work : List ℕ)
    → length answer ≡ 4097
    → length work ≡ 8192
    → (r : FileRating) (answer' work' : List ℕ)
    → FileCall input answer work r answer' work'
    → output ≡ header ++ lines_told r.sender (told_file r.outcome) (file_places r.outcome) answer'

-- So it prints the line of a refusal by one of the file's numbers, or the lines of figures and a polynomial
-- that have the promise of the file's mode, each exactly if the conditions of the file say so. (`left` are
-- answer bytes with that polynomial.)
pub record PrintedRight (input output : List ℕ) : Type 0 where
  pub told : Result FileTold
  pub eight : List ℕ
  pub left : List ℕ
  pub lines : output ≡ header ++ lines_told (box_of input) told eight left
  pub tells : Tells (file_numbers (records input)) told
  pub decided : Decided (file_conditions input 4097 8192) told
  pub right : FileRight input told eight left

abbrev pub ProgramPromise : Type 0
ProgramPromise =
    (input output : List ℕ) → ProgramCall input output → PrintedRight input output
