-- The wrong raters that paper 01 names, refuted by rows: what each of them answers does not meet the
-- contract, whatever it leaves in the lent bytes of which nothing is said.
--
--   WrongRaters == the period and the free call                   wrong_raters == every row holds
--   WrongSets, WrongFiles, WrongPrograms == the set call, the file call, the program
-- Assumes nothing.
use Prim.Native.Nat.{ℕ}
use mathlib.Core.Path.{◌≡◌, refl, sym, ap, ◌∙◌}
use mathlib.Core.List.{List, [], ◌∷◌, ◌++◌}
use lib.ListN.{replicate, get_or}
use Rattle.meaning.specs.declared.Refusal.{Refusal}
use Rattle.meaning.specs.declared.PowerRating.{PowerRating}
use Rattle.meaning.specs.declared.FreeRating.{FreeRating}
use Rattle.meaning.specs.declared.FileOutcome.{FileOutcome}
use Rattle.meaning.specs.Polynomial.{Polynomial}
use Rattle.meaning.specs.Result.{Result, refused, answered}
use Rattle.meaning.specs.Power.{PowerFigures}
use Rattle.meaning.specs.Free.{FreeFigures}
use Rattle.meaning.specs.Print.{text}
use Rattle.meaning.specs.Answers.{SetTold, FileTold, with_powers, with_one, with_some}
use Rattle.meaning.specs.Calls.{PeriodCall, SetCall, FreeCall, FileCall, ProgramCall}
use Rattle.meaning.proofs.Computed.{GF, computed}
use Rattle.meaning.proofs.Rows.{x+1, x²+1, x²+x+1}
use Rattle.meaning.proofs.CallRows.{answer, work, file_a, file_twice, file_h, file_i, eight_zeros, differ}
use Rattle.meaning.proofs.CallRows.{rated_period, rated_set}
use Rattle.meaning.specs.declared.SetRating.{SetRating}
use Rattle.meaning.specs.Answers.{Reply}
use Rattle.std.specs.Prelude.{Ok, Err}

-- THE PERIOD AND THE FREE CALL, on row B (a period, with x + 1) and row E

abbrev x+2 : Polynomial
x+2 = 2 ∷ 1 ∷ []

-- what a wrong rater answers on row B; the bytes afterwards may be any
abbrev WrongOnB : Reply PowerRating → Type 0
WrongOnB r = (answer' work' : List ℕ) → PeriodCall (GF 2) x+1 (0 ∷ 0 ∷ 0 ∷ 1 ∷ []) answer work r answer' work'
    → ⊥

pub record WrongRaters : Type 0 where
  -- finds the top digit of r − 1 = 11 (base 2) and invents the other
  pub top_digit_only : WrongOnB (rated_period 3 3 4)
  pub invented_power : WrongOnB (rated_period 5 5 8)
  pub invented_repeat : WrongOnB (rated_period 4 4 5)
  -- tells twice the period on row E: a number of terms after which it repeats, not the least
  pub repeat_not_least : (answer' work' : List ℕ)
      → PeriodCall (GF 3) x+2 (0 ∷ 1 ∷ 2 ∷ []) answer work (rated_period 2 2 6) answer' work'
      → ⊥
  pub seventeen_for_all : WrongOnB (Err Refusal.NotAnnihilated)
  pub one_for_all : WrongOnB (rated_period 0 0 1)
  pub refuses_all : WrongOnB (Err Refusal.NotPrime)
  -- tells the right figures and writes nothing, or something else
  pub nothing_written : (work' : List ℕ)
      → PeriodCall (GF 2) x+1 (0 ∷ 0 ∷ 0 ∷ 1 ∷ []) answer work (rated_period 4 4 4) answer work'
      → ⊥
  pub work_not_cleared : (answer' : List ℕ)
      → PeriodCall (GF 2) x+1 (0 ∷ 0 ∷ 0 ∷ 1 ∷ []) answer work (rated_period 4 4 4) answer' work
      → ⊥
  pub refused_and_written : (answer' work' : List ℕ)
      → answer' ≡ 1 ∷ replicate 4098 7
      → PeriodCall (GF 2) x²+1 (0 ∷ []) answer work (Err Refusal.Reducible) answer' work'
      → ⊥
  -- answers row H with x², which fits the two terms, but with a degree that is not the least
  pub degree_not_least : (answer' work' : List ℕ)
      → FreeCall (GF 2) (1 ∷ 0 ∷ []) answer work (Ok (FreeRating.Several 2)) answer' work'
      → ⊥
  -- answers row I with x² + 1, which fits the two terms, but x² comes before it
  pub later_one : (answer' work' : List ℕ)
      → answer' ≡ 1 ∷ 0 ∷ 1 ∷ replicate 4096 7
      → FreeCall (GF 2) (0 ∷ 1 ∷ []) answer work (Ok (FreeRating.Several 2)) answer' work'
      → ⊥

-- a figure of a result, 1000 where it is refused
figure : {A : Type 0} → (A → ℕ) → Result A → ℕ
figure f (refused n) = 1000
figure f (answered a) = f a

power_of : Result PowerFigures → ℕ
power_of r = figure (λ a. a.power) r

repeat_of : Result PowerFigures → ℕ
repeat_of r = figure (λ a. a.repeat) r

free-degree : Result FreeFigures → ℕ
free-degree r = figure (λ a. a.degree) r

-- what stands at a place
at : ℕ → List ℕ → ℕ
at i l = get_or l i 0

pub wrong_raters : WrongRaters
unfolding computed figure power_of repeat_of free-degree at
wrong_raters =
    record {
      top_digit_only = λ a w c. differ 3 4 (ap power_of c.rating) refl;
      invented_power = λ a w c. differ 5 4 (ap power_of c.rating) refl;
      invented_repeat = λ a w c. differ 5 4 (ap repeat_of c.rating) refl;
      repeat_not_least = λ a w c. differ 6 3 (ap repeat_of c.rating) refl;
      seventeen_for_all = λ a w c. differ 1000 4 (ap power_of c.rating) refl;
      one_for_all = λ a w c. differ 0 4 (ap power_of c.rating) refl;
      refuses_all = λ a w c. differ 1000 4 (ap power_of c.rating) refl;
      nothing_written = λ w c. differ 7 1 (ap (at 0) c.lent.answer_bytes) refl;
      work_not_cleared = λ a c. differ 9 0 (ap (at 0) c.lent.work_bytes) refl;
      refused_and_written = λ a w e c. differ 1 7 (ap (at 0) (sym e ∙ c.lent.answer_bytes)) refl;
      degree_not_least = λ a w c. differ 2 1 (ap free-degree c.rating) refl;
      later_one = λ a w e c. differ 1 0 (ap (at 0) (sym e ∙ c.lent.answer_bytes)) refl;
    }

-- THE SET CALL, on row A with its one factor, x³ + x + 1 with the upper power 6, and on row K: x + 1 and
-- x² + x + 1, each 1, terms 0, 1, 1, of which the powers are 0 and 1

abbrev terms_a : List ℕ
terms_a = 0 ∷ 1 ∷ 0 ∷ 1 ∷ 0 ∷ 0 ∷ 0 ∷ 0 ∷ 1 ∷ 0 ∷ 1 ∷ 1 ∷ 0 ∷ 1 ∷ 0 ∷ 1 ∷ 1 ∷ 0 ∷ []

abbrev x³+x+1 : Polynomial
x³+x+1 = 1 ∷ 1 ∷ 0 ∷ 1 ∷ []

-- one power in the first of the eight places
abbrev first : ℕ → List ℕ
first r = r ∷ replicate 7 0

abbrev SetA : Reply SetRating → List ℕ → List ℕ → Type 0
SetA r answer' work' = SetCall (GF 2) (x³+x+1 ∷ []) (6 ∷ []) terms_a answer work r answer' work'

abbrev WrongSetOnA : Reply SetRating → Type 0
WrongSetOnA r = (answer' work' : List ℕ) → SetA r answer' work' → ⊥

abbrev WrongSetOnK : Reply SetRating → Type 0
WrongSetOnK r =
    (answer' work' : List ℕ)
    → SetCall (GF 2) (x+1 ∷ x²+x+1 ∷ []) (1 ∷ 1 ∷ []) (0 ∷ 1 ∷ 1 ∷ []) answer work r answer' work'
    → ⊥

pub record WrongSets : Type 0 where
  pub top_digit_only : WrongSetOnA (rated_set 9 28 1 (first 3))
  -- returns the product of the upper powers
  pub upper_powers : WrongSetOnA (rated_set 18 56 1 (first 6))
  pub both_upper_powers : WrongSetOnK (rated_set 3 3 2 (1 ∷ first 1))
  -- tells another power beside the right degree; the powers in the other order
  pub invented_power : WrongSetOnA (rated_set 12 28 1 (first 5))
  pub powers_exchanged : WrongSetOnK (rated_set 2 3 2 (1 ∷ replicate 7 0))
  -- tells the repeat length of the upper power, none with one factor, none with two, twice it
  pub repeat_of_the_upper_power : WrongSetOnA (rated_set 12 56 1 (first 4))
  pub no_repeat_with_one : WrongSetOnA (rated_set 12 0 1 (first 4))
  pub no_repeat_with_several : WrongSetOnK (rated_set 2 0 2 (0 ∷ first 1))
  pub repeat_not_least : WrongSetOnK (rated_set 2 6 2 (0 ∷ first 1))
  pub seventeen_for_all : WrongSetOnA (Err Refusal.NotAnnihilated)
  pub one_for_all : WrongSetOnA (rated_set 0 1 1 eight_zeros)
  pub refuses_all : WrongSetOnA (Err Refusal.NotPrime)
  pub nothing_written : (work' : List ℕ) → SetA (rated_set 12 28 1 (first 4)) answer work' → ⊥
  pub work_not_cleared : (answer' : List ℕ) → SetA (rated_set 12 28 1 (first 4)) answer' work → ⊥
  pub refused_and_written : (answer' work' : List ℕ)
      → answer' ≡ 1 ∷ replicate 4098 7
      → SetCall (GF 2) [] [] (0 ∷ []) answer work
      (Err Refusal.FactorCount) answer' work'
      → ⊥

set-degree : Result SetTold → ℕ
set-degree r = figure (λ a. a.degree) r

set_repeat : Result SetTold → ℕ
set_repeat r = figure (λ a. a.repeat) r

pub wrong_sets : WrongSets
unfolding computed figure set-degree set_repeat at
wrong_sets =
    record {
      top_digit_only = λ a w c. differ 9 12 (ap set-degree c.rating) refl;
      upper_powers = λ a w c. differ 18 12 (ap set-degree c.rating) refl;
      both_upper_powers = λ a w c. differ 3 2 (ap set-degree c.rating) refl;
      invented_power = λ a w c. differ 5 4 (ap (at 0) c.powers) refl;
      powers_exchanged = λ a w c. differ 1 0 (ap (at 0) c.powers) refl;
      repeat_of_the_upper_power = λ a w c. differ 56 28 (ap set_repeat c.rating) refl;
      no_repeat_with_one = λ a w c. differ 0 28 (ap set_repeat c.rating) refl;
      no_repeat_with_several = λ a w c. differ 0 3 (ap set_repeat c.rating) refl;
      repeat_not_least = λ a w c. differ 6 3 (ap set_repeat c.rating) refl;
      seventeen_for_all = λ a w c. differ 1000 12 (ap set-degree c.rating) refl;
      one_for_all = λ a w c. differ 0 12 (ap set-degree c.rating) refl;
      refuses_all = λ a w c. differ 1000 12 (ap set-degree c.rating) refl;
      nothing_written = λ w c. differ 7 1 (ap (at 0) c.lent.answer_bytes) refl;
      work_not_cleared = λ a c. differ 9 0 (ap (at 0) c.lent.work_bytes) refl;
      refused_and_written = λ a w e c. differ 1 7 (ap (at 0) (sym e ∙ c.lent.answer_bytes)) refl;
    }

-- THE FILE CALL, on row A as a file of box 7 in mode 2, on the rows H and I as files in mode 3, of which H
-- has `one` and I has `some`, and on the period 0101 as a file in mode 1

abbrev FileOf : List ℕ → Reply FileOutcome → List ℕ → List ℕ → Type 0
FileOf file o answer' work' = FileCall file answer work (record { sender = 7; outcome = o }) answer' work'

abbrev WrongOnFile : List ℕ → Reply FileOutcome → Type 0
WrongOnFile file o = (answer' work' : List ℕ) → FileOf file o answer' work' → ⊥

pub record WrongFiles : Type 0 where
  pub top_digit_only : WrongOnFile file_a (Ok (FileOutcome.Powers 9 18 1 (first 3)))
  pub upper_powers : WrongOnFile file_a (Ok (FileOutcome.Powers 18 18 1 (first 6)))
  pub invented_power : WrongOnFile file_a (Ok (FileOutcome.Powers 12 18 1 (first 5)))
  pub seventeen_for_all : WrongOnFile file_a (Err Refusal.NotAnnihilated)
  pub one_for_all : WrongOnFile file_a (Ok (FileOutcome.Powers 0 18 1 eight_zeros))
  pub refuses_all : WrongOnFile file_a (Err Refusal.ModeUnsuited)
  pub nothing_written : (work' : List ℕ)
      → FileOf file_a (Ok (FileOutcome.Powers 12 18 1 (first 4))) answer work'
      → ⊥
  pub work_not_cleared : (answer' : List ℕ)
      → FileOf file_a (Ok (FileOutcome.Powers 12 18 1 (first 4))) answer' work
      → ⊥
  -- the word, the denominator and the box
  pub some_for_one : WrongOnFile file_h (Ok (FileOutcome.Several 1 2))
  pub one_for_some : WrongOnFile file_i (Ok (FileOutcome.Unique 2 2))
  pub terms_miscounted : WrongOnFile file_a (Ok (FileOutcome.Powers 12 17 1 (first 4)))
  pub terms_for_period : WrongOnFile file_twice (Ok (FileOutcome.Powers 2 4 1 (first 2)))
  pub reduced : WrongOnFile file_twice (Ok (FileOutcome.Powers 1 1 1 (first 2)))
  pub box_forgotten : (answer' work' : List ℕ)
      → FileCall file_a answer work
      (record { sender = 0; outcome = Ok (FileOutcome.Powers 12 18 1 (first 4)) }) answer' work'
      → ⊥

-- the degree that is told; the denominator of the density; 1 for the word `one`
degree-told : FileTold → ℕ
degree-told (with_powers d m n) = d
degree-told (with_one d m) = d
degree-told (with_some d m) = d

denominator_told : FileTold → ℕ
denominator_told (with_powers d m n) = m
denominator_told (with_one d m) = m
denominator_told (with_some d m) = m

word-told : FileTold → ℕ
word-told (with_powers d m n) = 0
word-told (with_one d m) = 1
word-told (with_some d m) = 2

pub wrong_files : WrongFiles
unfolding computed figure degree-told denominator_told word-told at
wrong_files =
    record {
      top_digit_only = λ a w c. differ 9 12 (ap (figure degree-told) c.rating) refl;
      upper_powers = λ a w c. differ 18 12 (ap (figure degree-told) c.rating) refl;
      invented_power = λ a w c. differ 5 4 (ap (at 0) c.powers) refl;
      seventeen_for_all = λ a w c. differ 1000 12 (ap (figure degree-told) c.rating) refl;
      one_for_all = λ a w c. differ 0 12 (ap (figure degree-told) c.rating) refl;
      refuses_all = λ a w c. differ 1000 12 (ap (figure degree-told) c.rating) refl;
      nothing_written = λ w c. differ 7 1 (ap (at 0) c.lent.answer_bytes) refl;
      work_not_cleared = λ a c. differ 9 0 (ap (at 0) c.lent.work_bytes) refl;
      some_for_one = λ a w c. differ 2 1 (ap (figure word-told) c.rating) refl;
      one_for_some = λ a w c. differ 1 2 (ap (figure word-told) c.rating) refl;
      terms_miscounted = λ a w c. differ 17 18 (ap (figure denominator_told) c.rating) refl;
      terms_for_period = λ a w c. differ 4 2 (ap (figure denominator_told) c.rating) refl;
      reduced = λ a w c. differ 1 2 (ap (figure denominator_told) c.rating) refl;
      box_forgotten = λ a w c. differ 0 7 c.sender refl;
    }

-- THE PROGRAM, on the file of row A: it prints the line `7 ok 12/18 4`. A wrong program prints another, and
-- then anything

abbrev WrongLinesOnA : List ℕ → Type 0
WrongLinesOnA front = (rest : List ℕ) → ProgramCall file_a (front ++ rest) → ⊥

pub record WrongPrograms : Type 0 where
  pub top_digit_only : WrongLinesOnA (text "box result density powers\n7 ok 9/18 3\n")
  pub upper_powers : WrongLinesOnA (text "box result density powers\n7 ok 18/18 6\n")
  pub invented_power : WrongLinesOnA (text "box result density powers\n7 ok 12/18 5\n")
  pub seventeen_for_all : WrongLinesOnA (text "box result density powers\n7 refused 17\n")
  pub one_for_all : WrongLinesOnA (text "box result density powers\n7 ok 0/18 0\npoly 1\n")
  pub refuses_all : WrongLinesOnA (text "box result density powers\n7 refused 6\n")
  pub nothing_written : ProgramCall file_a [] → ⊥
  -- the coefficients leading first; the density turned
  pub leading_first : WrongLinesOnA
      (text "box result density powers\n7 ok 12/18 4\npoly 1 0 0 0 0 0 0 0 1 0 0 0 1\n")
  pub density_turned : WrongLinesOnA (text "box result density powers\n7 ok 18/12 4\n")
  -- on the file of the period 0101, the number of terms in the place of the shortest period
  pub terms_for_period : (rest : List ℕ)
      → ProgramCall file_twice (text "box result density powers\n7 ok 2/4 2\n" ++ rest)
      → ⊥
  -- on the file of row I, x² + 1 in the place of x²
  pub later_one : (rest : List ℕ)
      → ProgramCall file_i (text "box result density powers\n7 ok 2/2 some\npoly 1 0 1\n" ++ rest)
      → ⊥

pub wrong_programs : WrongPrograms
unfolding computed at
wrong_programs =
    record {
      top_digit_only = λ l c. differ 57 49 (ap (at 31) c.lines) refl;
      upper_powers = λ l c. differ 56 50 (ap (at 32) c.lines) refl;
      invented_power = λ l c. differ 53 52 (ap (at 37) c.lines) refl;
      seventeen_for_all = λ l c. differ 114 111 (ap (at 28) c.lines) refl;
      one_for_all = λ l c. differ 48 49 (ap (at 31) c.lines) refl;
      refuses_all = λ l c. differ 114 111 (ap (at 28) c.lines) refl;
      nothing_written = λ c. differ 0 98 (ap (at 0) c.lines) refl;
      leading_first = λ l c. differ 48 49 (ap (at 52) c.lines) refl;
      density_turned = λ l c. differ 56 50 (ap (at 32) c.lines) refl;
      terms_for_period = λ l c. differ 52 50 (ap (at 33) c.lines) refl;
      later_one = λ l c. differ 49 48 (ap (at 45) c.lines) refl;
    }
