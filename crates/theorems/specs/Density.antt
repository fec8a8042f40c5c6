-- The density of a period (request 2026-06), as statements about the contracts of the rating of a file and of
-- the program. The signs are those of Promises; `periodic (terms_of rs)` is the terms of the file read
-- endlessly.
--
--   DensityTold      == in mode 1 the denominator told is the least number of terms, at least 1, after which
--                       the endless sequence repeats
--   DensityPrinted   == so is the number after the stroke that the program prints
--   DensitySame      == two files in mode 1 whose endless sequences are one are told the same denominator
--   ShortestWords    == the definition by which it is computed finds a number wherever there are terms, and
--                       finds n exactly where n is this number, which divides the number of terms
--   DensityPromise   == all of these
use Rattle.std.specs.Prelude.{ℕ, ◌≤◌, ◌≡◌, ◌⊎◌, ◌↔◌, List, [], ◌∷◌, ◌++◌, length}
use Rattle.std.specs.Int.{◌∣◌}
use Rattle.std.proofs.Math.Option.{some}
use Rattle.meaning.specs.declared.FileRating.{FileRating}
use Rattle.meaning.specs.Polynomial.{Polynomial}
use Rattle.meaning.specs.Sequence.{periodic, LeastPeriod}
use Rattle.meaning.specs.Repeat.{shortest_period}
use Rattle.meaning.specs.Result.{answered}
use Rattle.meaning.specs.Route.{RouteRecord, period_mode, box_of}
use Rattle.meaning.specs.File.{terms_of}
use Rattle.meaning.specs.Print.{text, decimal, line, header}
use Rattle.meaning.specs.Answers.{with_powers, told_file}
use Rattle.meaning.specs.Calls.{FileCall, ProgramCall}
use Rattle.theorems.specs.Files.{Holds, rated_lines}

-- The file with the records rs is in mode 1, and what meets the contract on it, with any lent bytes, tells a
-- rating with the denominator n.
pub record PeriodTold (file : List ℕ) (rs : List RouteRecord) (n : ℕ) : Type 0 where
  pub holds : Holds file rs period_mode
  pub answer : List ℕ
  pub work : List ℕ
  pub rating : FileRating
  pub answer' : List ℕ
  pub work' : List ℕ
  pub call : FileCall file answer work rating answer' work'
  pub degree : ℕ
  pub count : ℕ
  pub told : told_file rating.outcome ≡ answered (with_powers degree n count)

abbrev pub DensityTold : Type 0
DensityTold =
    (file : List ℕ) (rs : List RouteRecord) (n : ℕ)
    → PeriodTold file rs n
    → LeastPeriod (periodic (terms_of rs)) n

abbrev pub DensitySame : Type 0
DensitySame =
    (file file' : List ℕ) (rs rs' : List RouteRecord) (n n' : ℕ)
    → PeriodTold file rs n
    → PeriodTold file' rs' n'
    → ((i : ℕ) → periodic (terms_of rs) i ≡ periodic (terms_of rs') i)
    → n ≡ n'

-- Of a file in mode 1 the program prints a refusal, or the lines of a degree over this number. (By which
-- number it is refused, and what else the lines say, is told by `ProgramPromise`.)
abbrev pub RefusalPrinted : List ℕ → List ℕ → Type 0
RefusalPrinted input output =
    (k : ℕ) × (output ≡ header ++ line (decimal (box_of input) ∷ text "refused" ∷ decimal k ∷ []))

pub record PeriodPrinted (input output ts : List ℕ) : Type 0 where
  pub degree : ℕ
  pub denominator : ℕ
  pub word : List ℕ
  pub polynomial : Polynomial
  pub lines : output ≡ header ++ rated_lines (box_of input) degree denominator word polynomial
  pub shortest : LeastPeriod (periodic ts) denominator

abbrev pub DensityPrinted : Type 0
DensityPrinted =
    (input output : List ℕ) (rs : List RouteRecord)
    → ProgramCall input output
    → Holds input rs period_mode
    → RefusalPrinted input output ⊎ PeriodPrinted input output (terms_of rs)

pub record ShortestFound (ts : List ℕ) : Type 0 where
  pub some_number : (n : ℕ) × (shortest_period ts ≡ some n)
  pub words : (n : ℕ) → (shortest_period ts ≡ some n) ↔ LeastPeriod (periodic ts) n
  pub divides : (n : ℕ) → shortest_period ts ≡ some n → n ∣ length ts

abbrev pub ShortestWords : Type 0
ShortestWords = (ts : List ℕ) → 1 ≤ length ts → ShortestFound ts

pub record DensityPromise : Type 0 where
  pub told : DensityTold
  pub same : DensitySame
  pub printed : DensityPrinted
  pub shortest-words : ShortestWords
