-- What the contracts of the blocks of a product cite.
--
--   convolved F f q s k == c0·s(k) + c1·s(k − q) + c2·s(k − 2q) + …, the c being the coefficients of f: the
--                        coefficient at place k of the product of f(x^q) and s. It has a meaning where k is
--                        at least q·deg f
--   convolved_within F f q w at to m == w with these numbers of w itself, for the m places from `at` on, in
--                        the m places from `to` on
--   Below f q w at to m == all numbers that are read for these places stand in w, and none of them after the
--                        place where its number goes
use Rattle.std.specs.Prelude.{ℕ, ◌+◌, ◌*◌, ◌-◌, ◌≤◌, List, [], ◌∷◌, length}
use Rattle.std.proofs.Math.Seq.{paste}
use Rattle.meaning.specs.Field.{Field}
use Rattle.meaning.specs.Sequence.{Sequence, known, cut}

unfoldable pub convolved : Field → List ℕ → ℕ → Sequence → ℕ → ℕ
convolved F [] q s k = 0
convolved F (c ∷ f) q s k = F.add (F.mul c (s k)) (convolved F f q s (k - q))

abbrev pub convolved_within : Field → List ℕ → ℕ → List ℕ → ℕ → ℕ → ℕ → List ℕ
convolved_within F f q w at to m = paste w to (cut (convolved F f q (known w)) at m) m

pub record Below (f : List ℕ) (q : ℕ) (w : List ℕ) (at to m : ℕ) : Type 0 where
  pub reach : q * (length f - 1) ≤ at
  pub order : at ≤ to
  pub within : to + m ≤ length w
