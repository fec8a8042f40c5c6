-- What the contracts of crate arith cite: parts of slices, and what the operations on slices leave in them.
--
--   part l x n        == the n numbers of l from place x on
--   combined F a c b  == a + c·b, the sum of a and the c-fold of b; past the end of b it is a
--   Places l x y n    == the n numbers from x on and the n numbers from y on are in l, and whoever writes the
--                        first ones from the front has written none of the second ones that he has yet to
--                        read: the two parts are apart, or the second does not begin before the first
--   combined_within F l x y c z n == l with a + c·b in the n places from x on, where a is the n numbers from
--                                    y
--                        on and b those from z on
--   added_within F l x c y n      == l with a + c·b in the place of a, where a is the n numbers from x on and
--                        b those from y on
--   multiplied_within F l x c y n == l with b + c·a in the place of a
use Rattle.std.specs.Prelude.{ℕ, ◌+◌, ◌≤◌, ◌<◌, List, length, take, drop}
use Rattle.std.proofs.Math.Seq.{paste}
use Rattle.meaning.specs.Field.{Field}
use Rattle.meaning.specs.Polynomial.{plus, scale}

abbrev pub part : List ℕ → ℕ → ℕ → List ℕ
part l x n = take n (drop x l)

abbrev pub combined : Field → List ℕ → ℕ → List ℕ → List ℕ
combined F a c b = plus F a (scale F c b)

pub record Places (l : List ℕ) (x y n : ℕ) : Type 0 where
  pub first : x + n ≤ length l
  pub second : y + n ≤ length l
  pub apart : y < x → y + n ≤ x

abbrev pub combined_within : Field → List ℕ → ℕ → ℕ → ℕ → ℕ → ℕ → List ℕ
combined_within F l x y c z n = paste l x (combined F (part l y n) c (part l z n)) n

abbrev pub added_within : Field → List ℕ → ℕ → ℕ → ℕ → ℕ → List ℕ
added_within F l x c y n = combined_within F l x x c y n

abbrev pub multiplied_within : Field → List ℕ → ℕ → ℕ → ℕ → ℕ → List ℕ
multiplied_within F l x c y n = combined_within F l x y c x n
