-- What the contract of `leaf_remainder` cites.
--
--   Remaindered b F g f f' == f' is what is left in f: where b holds, f and g are polynomials over F and the
--                        leading coefficient of g is not 0, the remainder of f by g, and after it the
--                        quotient by the monic multiple of g (`Divided` of the division); else f
use Rattle.std.specs.Prelude.{◌≡◌, Bool, List, ℕ, get_or, T}
use Rattle.meaning.specs.Field.{Field}
use Rattle.meaning.specs.Polynomial.{Polynomial, degree}
use Rattle.arith.specs.Inverse.{inverse}
use Rattle.poly.specs.division.Division.{Divisible, Divided}

pub record Remaindered (b : Bool) (F : Field) (g : Polynomial) (f f' : List ℕ) : Type 0 where
  pub divided : T b → Divisible F f g → Divided F (inverse F (get_or g (degree g) 0)) g f f'
  pub kept : (T b → Divisible F f g → ⊥) → f' ≡ f
