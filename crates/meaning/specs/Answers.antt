-- What each answer of the public calls says in the terms of paper 01: the number of a refusal, the values of
-- an answer. The contracts and the theorems speak of the answers through these definitions alone.
--
--   number_of r        == the number of the refusal in the list of paper 01
--   Reply A           == what a call hands back: a value, or a refusal
--   told f r          == the result that a reply tells, f of its value
--   told_irreducible, told_filling, told_power, told_free, told_start, told_entry, told_set, told_file,
-- told_record ==
--                          the result that a reply tells; of a start the meter itself
--   SetTold, FileTold == what the answers of a set and of a file tell beside their eight powers; `count` is
--                        the number of powers, and `denominator` the number after the stroke of the density
--   set_figures_told, file_figures_told == what they should tell of the figures
--   set_places, file_places == the eight powers of a reply; all zeros where there are none
--   padded rs         == the powers as they stand in eight places: in order, then zeros
--   set_padded, file_padded == the eight places after a result; all zeros where refused or where there are no
--                          powers
use Rattle.std.specs.Prelude.{ℕ, ◌-◌, Bool, true, false, List, [], ◌++◌, length, replicate}
use Rattle.meaning.specs.declared.Refusal.{Refusal}
use Rattle.meaning.specs.declared.Refusal.TheVariants.{FileTooLong, UnknownKind, FileCutShort}
use Rattle.meaning.specs.declared.Refusal.TheVariants.{RecordOutOfPlace, ModeUnsuited, NotPrime}
use Rattle.meaning.specs.declared.Refusal.TheVariants.{CountOutOfRange, TermOutOfField, FactorCount}
use Rattle.meaning.specs.declared.Refusal.TheVariants.{DegreeOutOfRange, CoefficientOutOfRange}
use Rattle.meaning.specs.declared.Refusal.TheVariants.{Reducible}
use Rattle.meaning.specs.declared.Refusal.TheVariants.{EqualFactors, UpperPowers, TooFewTerms}
use Rattle.meaning.specs.declared.Refusal.TheVariants.{LentTooShort, NotAnnihilated, MeterFull}
use Rattle.meaning.specs.declared.Refusal.TheVariants.{NoEntry, NotBinaryField}
use Rattle.meaning.specs.declared.PowerRating.{PowerRating}
use Rattle.meaning.specs.declared.SetRating.{SetRating}
use Rattle.meaning.specs.declared.FreeRating.{FreeRating}
use Rattle.meaning.specs.declared.Meter.{Meter}
use Rattle.meaning.specs.declared.EntryRating.{EntryRating}
use Rattle.meaning.specs.declared.FileOutcome.{FileOutcome}
use Rattle.std.specs.Prelude.{Ok, Err}
use Rattle.std.specs.Prelude.{Result as Replied}
use Rattle.meaning.specs.Result.{Result, refused, answered}
use Rattle.meaning.specs.Power.{PowerFigures}
use Rattle.meaning.specs.Portion.{SetFigures}
use Rattle.meaning.specs.Free.{FreeFigures}
use Rattle.meaning.specs.Catalogue.{EntryFigures}
use Rattle.meaning.specs.File.{FileFigures, Label, powers, unique, several}

unfoldable pub number_of : Refusal → ℕ
number_of FileTooLong = 1
number_of UnknownKind = 2
number_of FileCutShort = 3
number_of RecordOutOfPlace = 4
number_of ModeUnsuited = 5
number_of NotPrime = 6
number_of CountOutOfRange = 7
number_of TermOutOfField = 8
number_of FactorCount = 9
number_of DegreeOutOfRange = 10
number_of CoefficientOutOfRange = 11
number_of Reducible = 12
number_of EqualFactors = 13
number_of UpperPowers = 14
number_of TooFewTerms = 15
number_of LentTooShort = 16
number_of NotAnnihilated = 17
number_of MeterFull = 18
number_of NoEntry = 19
number_of NotBinaryField = 20

unfoldable pub padded : List ℕ → List ℕ
padded rs = rs ++ replicate (8 - length rs) 0

abbrev pub Reply : Type 0 → Type 0
Reply A = Replied A Refusal

unfoldable pub told : {A B : Type 0} → (A → B) → Reply A → Result B
told f (Ok a) = answered (f a)
told f (Err r) = refused (number_of r)

unfoldable pub told_irreducible : Reply Bool → Result Bool
told_irreducible r = told (λ a. a) r

unfoldable pub told_filling : Reply (Unit {0}) → Result (Unit {0})
told_filling r = told (λ a. a) r

unfoldable pub told_power : Reply PowerRating → Result PowerFigures
told_power r = told (λ a. record { power = a.power; degree = a.degree; repeat = a.repeat }) r

unfoldable pub free_figures_of : FreeRating → FreeFigures
free_figures_of (FreeRating.Unique d) = record { degree = d; unique = true }
free_figures_of (FreeRating.Several d) = record { degree = d; unique = false }

unfoldable pub told_free : Reply FreeRating → Result FreeFigures
told_free r = told free_figures_of r

unfoldable pub told_start : Reply Meter → Result Meter
told_start r = told (λ m. m) r

unfoldable pub told_entry : Reply EntryRating → Result EntryFigures
told_entry r = told (λ a. record { entry = a.entry; power = a.power }) r

pub record SetTold : Type 0 where
  pub degree : ℕ
  pub repeat : ℕ
  pub count : ℕ

unfoldable pub told_set : Reply SetRating → Result SetTold
told_set r = told (λ a. record { degree = a.degree; repeat = a.repeat; count = a.count }) r

unfoldable pub set_places : Reply SetRating → List ℕ
set_places (Ok a) = a.powers
set_places (Err r) = padded []

unfoldable pub set_figures_told : SetFigures → SetTold
set_figures_told a = record { degree = a.degree; repeat = a.repeat; count = length a.powers }

pub data FileTold : Type 0 where
  with_powers : (degree denominator count : ℕ) → FileTold
  with_one : (degree denominator : ℕ) → FileTold
  with_some : (degree denominator : ℕ) → FileTold

unfoldable pub file_told_of : FileOutcome → FileTold
file_told_of (FileOutcome.Powers d m n rs) = with_powers d m n
file_told_of (FileOutcome.Unique d m) = with_one d m
file_told_of (FileOutcome.Several d m) = with_some d m

unfoldable pub told_file : Reply FileOutcome → Result FileTold
told_file r = told file_told_of r

unfoldable pub file_places : Reply FileOutcome → List ℕ
file_places (Ok (FileOutcome.Powers d m n rs)) = rs
file_places (Ok (FileOutcome.Unique d m)) = padded []
file_places (Ok (FileOutcome.Several d m)) = padded []
file_places (Err r) = padded []

unfoldable pub label_told : Label → ℕ → ℕ → FileTold
label_told (powers rs) d m = with_powers d m (length rs)
label_told unique d m = with_one d m
label_told several d m = with_some d m

unfoldable pub file_figures_told : FileFigures → FileTold
file_figures_told a = label_told a.label a.degree a.denominator

unfoldable pub told_record : Reply ℕ → Result ℕ
told_record r = told (λ kind. kind) r

unfoldable pub set_padded : Result SetFigures → List ℕ
set_padded (refused n) = padded []
set_padded (answered a) = padded a.powers

unfoldable pub label_powers : Label → List ℕ
label_powers (powers rs) = rs
label_powers unique = []
label_powers several = []

unfoldable pub file_padded : Result FileFigures → List ℕ
file_padded (refused n) = padded []
file_padded (answered a) = padded (label_powers a.label)
