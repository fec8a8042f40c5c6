-- The answer of the period way: its power, the degree, the repeat length, and the polynomial.
--
--   is_x f              == f is the polynomial x
--   PowerFigures       == power, degree (the complexity) and repeat length
--   power_rating F f ts r == the answer with the power r and the polynomial f^r; the repeat length is the
--                         shortest period of ts. None only where there are no terms
use Rattle.std.specs.Prelude.{ℕ, Bool, List, [], ◌∷◌}
use Rattle.std.proofs.Math.Option.{Option}
use Rattle.meaning.specs.Search.{map_option}
use Rattle.meaning.specs.Field.{Field}
use Rattle.meaning.specs.Polynomial.{Polynomial, degree, power, same}
use Rattle.meaning.specs.Result.{Rated}
use Rattle.meaning.specs.Repeat.{shortest_period}

unfoldable pub is_x : Polynomial → Bool
is_x f = same f (0 ∷ 1 ∷ [])

pub record PowerFigures : Type 0 where
  pub power : ℕ
  pub degree : ℕ
  pub repeat : ℕ

unfoldable pub power_rating : Field → Polynomial → List ℕ → ℕ → Option (Rated PowerFigures)
power_rating F f ts r =
    map_option
    (λ n. record {
      figures = record { power = r; degree = degree (power F f r); repeat = n };
      polynomial = power F f r;
    })
    (shortest_period ts)
