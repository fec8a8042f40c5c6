-- What the contracts of the modes of a file cite.
--
--   CheckedFactor F file ts == the file has a factor, and 7, 8, 10 and 11 let the first of its factors and
--                         the terms ts pass
--   CheckedFactors F file ts == 7 to 11 let the factors of the file and the terms ts pass
use Rattle.std.specs.Prelude.{ℕ, ◌≤◌, List, [], length, get_or}
use Rattle.meaning.specs.Field.{Field}
use Rattle.rate_period.specs.Ratings as period
use Rattle.rate_set.specs.Ratings as set
use Rattle.rate_file.specs.factors.Written.{factors_in, polynomials_in}

pub record CheckedFactor (F : Field) (file ts : List ℕ) : Type 0 where
  pub some : 1 ≤ length (factors_in file)
  pub checked : period.Checked F (get_or (polynomials_in file) 0 []) ts

pub record CheckedFactors (F : Field) (file ts : List ℕ) : Type 0 where
  pub checked : set.Checked F (polynomials_in file) ts
