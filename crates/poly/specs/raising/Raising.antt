-- What the contract of a product with a power cites. A polynomial of degree n stands in the first n + 1 bytes
-- of `answer`.
--
--   Raising F f r answer n == there is room for the product of the polynomial in `answer` and f^r, whose
--                          degree is at most 4,096; f has a degree from 1 to 32, and both have elements of F
--                          for coefficients
use Rattle.std.specs.Prelude.{ℕ, ◌+◌, ◌*◌, ◌-◌, ◌≤◌, ◌<◌, List, length, take, T}
use Rattle.meaning.specs.Field.{Field, are_elements}
use Rattle.meaning.specs.Polynomial.{Polynomial}

pub record Raising (F : Field) (f : Polynomial) (r : ℕ) (answer : List ℕ) (n : ℕ) : Type 0 where
  pub positive : 1 < length f
  pub short : length f ≤ 33
  pub small : n + r * (length f - 1) ≤ 4096
  pub room : n + r * (length f - 1) < length answer
  pub factor : T (are_elements F f)
  pub coefficients : T (are_elements F (take (n + 1) answer))
