-- Computed rows: the shortest period, and the density by it (request 2026-06).
--
--   RepeatRows == the table: a field for each row      repeat_rows == every row holds
-- Assumes nothing.
use Prim.Native.Nat.{ℕ}
use mathlib.Core.Path.{◌≡◌, refl}
use mathlib.Core.List.{List, [], ◌∷◌, ◌++◌}
use mathlib.Core.Option.{none, some}
use Rattle.meaning.specs.Repeat.{shortest_period}
use Rattle.meaning.specs.Print.{text, printed}
use Rattle.meaning.proofs.Computed.{computed}
use Rattle.meaning.proofs.Rows.{headed, factor, terms, end}

-- what is printed for a period over GF(p), with the factor x + c
abbrev lines : ℕ → ℕ → List ℕ → List ℕ
lines p c ts = printed (headed p 1 (factor 1 0 (c ∷ []) ++ (terms ts ++ end)))

pub record RepeatRows : Type 0 where
  -- a period that is given twice and four times
  pub twice : shortest_period (0 ∷ 1 ∷ 0 ∷ 1 ∷ []) ≡ some 2
  pub four_times : shortest_period (0 ∷ 1 ∷ 0 ∷ 1 ∷ 0 ∷ 1 ∷ 0 ∷ 1 ∷ []) ≡ some 2
  -- periods that are the shortest: 0100 begins as it ends, and yet does not repeat every three terms
  pub three : shortest_period (0 ∷ 1 ∷ 2 ∷ []) ≡ some 3
  pub border : shortest_period (0 ∷ 1 ∷ 0 ∷ 0 ∷ []) ≡ some 4
  -- 2 and 3 both divide 6
  pub half : shortest_period (0 ∷ 0 ∷ 1 ∷ 0 ∷ 0 ∷ 1 ∷ []) ≡ some 3
  pub third : shortest_period (0 ∷ 1 ∷ 0 ∷ 1 ∷ 0 ∷ 1 ∷ []) ≡ some 2
  pub whole : shortest_period (0 ∷ 1 ∷ 1 ∷ 0 ∷ 1 ∷ 0 ∷ []) ≡ some 6
  -- one term, constant terms, no terms
  pub single : shortest_period (7 ∷ []) ≡ some 1
  pub constant : shortest_period (5 ∷ 5 ∷ 5 ∷ 5 ∷ 5 ∷ []) ≡ some 1
  pub empty : shortest_period [] ≡ none
  -- the two files of the request
  pub printed_twice : lines 2 1 (0 ∷ 1 ∷ 0 ∷ 1 ∷ [])
      ≡ text "box result density powers\n7 ok 2/2 2\npoly 1 0 1\n"
  pub printed_four_times : lines 2 1 (0 ∷ 1 ∷ 0 ∷ 1 ∷ 0 ∷ 1 ∷ 0 ∷ 1 ∷ [])
      ≡ text "box result density powers\n7 ok 2/2 2\npoly 1 0 1\n"
  -- the rows C, D and E as files
  pub printed_c : lines 2 1 (1 ∷ 1 ∷ 1 ∷ 1 ∷ []) ≡ text "box result density powers\n7 ok 1/1 1\npoly 1 1\n"
  pub printed_d : lines 2 1 (0 ∷ 0 ∷ 0 ∷ 0 ∷ []) ≡ text "box result density powers\n7 ok 0/1 0\npoly 1\n"
  pub printed_e : lines 3 2 (0 ∷ 1 ∷ 2 ∷ []) ≡ text "box result density powers\n7 ok 2/3 2\npoly 1 1 1\n"

pub repeat_rows : RepeatRows
unfolding computed
repeat_rows =
    record {
      twice = refl;
      four_times = refl;
      three = refl;
      border = refl;
      half = refl;
      third = refl;
      whole = refl;
      single = refl;
      constant = refl;
      empty = refl;
      printed_twice = refl;
      printed_four_times = refl;
      printed_c = refl;
      printed_d = refl;
      printed_e = refl;
    }
