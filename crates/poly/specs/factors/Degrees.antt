-- What the contracts on the total degree cite beside crate meaning.
--
--   capped_degree l     == the total degree of factors with their upper powers, or 4,097 if it is larger
use Rattle.std.specs.Prelude.{ℕ, min, List}
use Rattle.meaning.specs.Polynomial.{Polynomial}
use Rattle.meaning.specs.Conditions.{total_degree}

abbrev pub capped_degree : List (Polynomial × ℕ) → ℕ
capped_degree l = min (total_degree l) 4097
