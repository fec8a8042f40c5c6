-- What the computed rows share: the number of a refusal, answers, route files made of records, and some
-- inputs.
--
--   number_in r        == the number of a refusal; none of an answer
--   power_answer, set_answer == the answer with a power, or with powers, its degree and repeat length, and
--                        a polynomial
--   box, field, mode, factor, record5, term, stop, end == the bytes of one record of the route file
--   terms ts          == a record of kind 6 for each term
--   headed p m rest   == a file of box 7 whose header names the field p and the mode m
--   case_a d cs        == case A of paper 01 as the file that box 7 sends in mode 2, with the factor of
--                         degree
--                        d and the coefficients cs, and a stop before the terms
-- Assumes nothing.
use Prim.Native.Nat.{ℕ, ◌-◌}
use mathlib.Core.List.{List, [], ◌∷◌, ◌++◌}
use mathlib.Core.Option.{Option, none, some}
use lib.ListN.{length, replicate}
use Rattle.meaning.specs.Polynomial.{Polynomial}
use Rattle.meaning.specs.Result.{Result, refused, answered, Rated}
use Rattle.meaning.specs.Power.{PowerFigures}
use Rattle.meaning.specs.Portion.{SetFigures}

abbrev pub number_in : {A : Type 0} → Result A → Option ℕ
number_in (refused n) = some n
number_in (answered a) = none

abbrev pub power_answer : (power degree repeat : ℕ) → Polynomial → Result (Rated PowerFigures)
power_answer r d n g =
    answered (record { figures = record { power = r; degree = d; repeat = n }; polynomial = g })

abbrev pub set_answer : (powers : List ℕ) (degree repeat : ℕ) → Polynomial → Result (Rated SetFigures)
set_answer rs d n g =
    answered (record { figures = record { powers = rs; degree = d; repeat = n }; polynomial = g })

abbrev pub box : ℕ → List ℕ
box n = 1 ∷ 0 ∷ 0 ∷ 0 ∷ n ∷ []

abbrev pub field : ℕ → List ℕ
field p = 2 ∷ p ∷ []

abbrev pub mode : ℕ → List ℕ
mode m = 3 ∷ m ∷ []

abbrev pub headed : ℕ → ℕ → List ℕ → List ℕ
headed p m rest = box 7 ++ (field p ++ (mode m ++ rest))

-- a factor by its degree byte, its upper power (below 256) and the coefficients, filled up with zeros
abbrev pub factor : ℕ → ℕ → List ℕ → List ℕ
factor d u cs = 4 ∷ d ∷ 0 ∷ u ∷ (cs ++ replicate (32 - length cs) 0)

-- a record of 64 terms
abbrev pub record5 : List ℕ → List ℕ
record5 ts = 5 ∷ ts

abbrev pub term : ℕ → List ℕ
term t = 6 ∷ t ∷ []

abbrev pub terms : List ℕ → List ℕ
terms [] = []
terms (t ∷ ts) = 6 ∷ t ∷ terms ts

abbrev pub stop : List ℕ
stop = 7 ∷ 1 ∷ 2 ∷ 3 ∷ 4 ∷ 5 ∷ 6 ∷ 7 ∷ 8 ∷ []

abbrev pub end : List ℕ
end = 8 ∷ []

abbrev pub x+1 : Polynomial
x+1 = 1 ∷ 1 ∷ []

-- over GF(2) this is (x + 1)²
abbrev pub x²+1 : Polynomial
x²+1 = 1 ∷ 0 ∷ 1 ∷ []

abbrev pub x²+x+1 : Polynomial
x²+x+1 = 1 ∷ 1 ∷ 1 ∷ []

abbrev pub case_a : ℕ → List ℕ → List ℕ
case_a d cs =
    box 7
    ++ (field 2
    ++ (mode 2
    ++ (factor d 6 cs
    ++ (stop
    ++ (terms (0 ∷ 1 ∷ 0 ∷ 1 ∷ 0 ∷ 0 ∷ 0 ∷ 0 ∷ 1 ∷ 0 ∷ 1 ∷ 1 ∷ 0 ∷ 1 ∷ 0 ∷ 1 ∷ 1 ∷ 0 ∷ []) ++ end)))))
