-- What the contracts of the division cite.
--
--   Divisible F f g   == both are polynomials over F, and the leading coefficient of g is not 0
--   Divided F c g f f' == f' has the remainder of f by g in its first places, as many as the degree of g, and
--                        c times what stands after them is the quotient: f is the product of quotient and g,
--                        plus the remainder
use Rattle.std.specs.Prelude.{◌≡◌, ◌≢◌, List, ℕ, length, take, drop, T}
use Rattle.meaning.specs.Field.{Field, are_elements}
use Rattle.meaning.specs.Polynomial.{Polynomial, degree, leading, plus, scale, times}

pub record Divisible (F : Field) (f : List ℕ) (g : Polynomial) : Type 0 where
  pub divisor : T (are_elements F g)
  pub nonzero : leading g ≢ 0
  pub elements : T (are_elements F f)

pub record Divided (F : Field) (c : ℕ) (g : Polynomial) (f f' : List ℕ) : Type 0 where
  pub size : length f' ≡ length f
  pub elements : T (are_elements F f')
  pub equation : f ≡ plus F (take (degree g) f') (times F (scale F c (drop (degree g) f')) g)
