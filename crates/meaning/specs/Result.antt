-- What a call answers, and how the numbered list of refusals decides it.
--
--   Result A          == a refusal by its number, or an answer
--   map_result f r     == f of the answer; a refusal stays
--   Check             == a number of the list and its condition, which is looked at only when its turn comes
--   first_of table     == the number of the first condition of the table that holds, or none
--   settle table v    == refused by the table's first condition that holds, else the value v. A missing value
--                        would be `refused 0`, a number that no answer of the program has: it never comes to
--                        that (`NeverZero` of crate theorems)
--   Rated A           == what a rating answers: its figures, and its polynomial, which goes into the lent
--                        answer bytes
--   figures_of r       == the same result without the polynomial
--   written, cleared  == the lent bytes afterwards: coefficients first and the rest as it was; 8,192 zeros
--                        and the rest as it was
--   answer_after r b   == the answer bytes b after the result r: unchanged by a refusal
--   clearing          == the numbers of the refusals that leave the work bytes cleared, as an answer does
--   clears n          == n is one of them
--   work_after r b     == the work bytes b after the result r: unchanged by every refusal but those
use Rattle.std.specs.Prelude.{ℕ, Bool, true, false, List, [], ◌∷◌, ◌++◌, length, drop, replicate, eqb}
use Rattle.std.proofs.Math.Option.{Option, none, some}
use Rattle.meaning.specs.Search.{holds_for_some}
use Rattle.meaning.specs.Polynomial.{Polynomial}

pub data Result (A : Type 0) : Type 0 where
  refused : ℕ → Result A
  answered : A → Result A

unfoldable pub map_result : {A B : Type 0} → (A → B) → Result A → Result B
map_result f (refused n) = refused n
map_result f (answered a) = answered (f a)

abbrev pub Check : Type 0
Check = ℕ × (Unit {0} → Bool)

unfoldable pub first_of : List Check → Option ℕ
first_of [] = none
first_of (c ∷ table) = elim (c.1 tt) [ true ↦ some c.0 | false ↦ first_of table ]

unfoldable pub value_of : {A : Type 0} → Option A → Result A
value_of none = refused 0
value_of (some a) = answered a

unfoldable pub settle : {A : Type 0} → List Check → (Unit {0} → Option A) → Result A
settle table v = elim (first_of table) [ none ↦ value_of (v tt) | some n ↦ refused n ]

pub record Rated (A : Type 0) : Type 0 where
  pub figures : A
  pub polynomial : Polynomial

unfoldable pub figures_of : {A : Type 0} → Result (Rated A) → Result A
figures_of r = map_result (λ a. a.figures) r

unfoldable pub written : Polynomial → List ℕ → List ℕ
written g bytes = g ++ drop (length g) bytes

unfoldable pub cleared : List ℕ → List ℕ
cleared bytes = replicate 8192 0 ++ drop 8192 bytes

unfoldable pub answer_after : {A : Type 0} → Result (Rated A) → List ℕ → List ℕ
answer_after (refused n) bytes = bytes
answer_after (answered a) bytes = written a.polynomial bytes

unfoldable pub clearing : List ℕ
clearing = 17 ∷ 19 ∷ []

unfoldable pub clears : ℕ → Bool
clears n = holds_for_some (eqb n) clearing

unfoldable pub work_after : {A : Type 0} → Result A → List ℕ → List ℕ
work_after (refused n) bytes = elim (clears n) [ true ↦ cleared bytes | false ↦ bytes ]
work_after (answered a) bytes = cleared bytes
