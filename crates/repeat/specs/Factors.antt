-- What the contracts of the repeat length cite: factors with their powers.
--
--   PoweredFactors F fs rs == the factors fs are monic over F, of degree 1 to 32 and irreducible, with at
--                         most 2^40 residues, and each has a power in rs, at most 4,096
use Rattle.std.specs.Prelude.{ℕ, ◌≤◌, ◌<◌, List, [], length, get_or}
use Rattle.meaning.specs.Field.{Field}
use Rattle.meaning.specs.Polynomial.{Polynomial}
use Rattle.repeat.specs.orders.Orders.{Suited}

pub record PoweredFactors (F : Field) (fs : List Polynomial) (rs : List ℕ) : Type 0 where
  pub suited : (i : ℕ) → i < length fs → Suited F (get_or fs i [])
  pub named : length fs ≤ length rs
  pub small : (i : ℕ) → i < length fs → get_or rs i 0 ≤ 4096
