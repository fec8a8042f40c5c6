-- What the contracts of the conditions on factors cite beside crate meaning.
--
--   AllAccepted F fs   == 10 and 11 let each of the factors pass, and it is monic
use Rattle.std.specs.Prelude.{ℕ, ◌<◌, List, [], length, get_or}
use Rattle.meaning.specs.Polynomial.{Polynomial}
use Rattle.irreducible.specs.Accepted.{Accepted}
use Rattle.meaning.specs.Field.{Field}

abbrev pub AllAccepted : Field → List Polynomial → Type 0
AllAccepted F fs = (i : ℕ) → i < length fs → Accepted F (get_or fs i [])
