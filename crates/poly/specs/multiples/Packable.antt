-- What the contracts of the monic multiples cite.
--
--   Packable F fs w   == at most eight lists, each over F with a leading coefficient other than 0, and enough
--                        bytes to write their monic multiples into
use Rattle.std.specs.Prelude.{ℕ, ◌≤◌, ◌<◌, length, get_or}
use mathlib.Core.List.{List, [], map, flatten}
use Rattle.meaning.specs.Field.{Field}
use Rattle.meaning.specs.Polynomial.{Polynomial, monic_multiple}
use Rattle.bridge.proofs.Lists.Multiples.{Leads}

pub record Packable (F : Field) (fs : List Polynomial) (w : List ℕ) : Type 0 where
  pub few : length fs ≤ 8
  pub leads : (i : ℕ) → i < length fs → Leads F (get_or fs i [])
  pub room : length (flatten (map (monic_multiple F) fs)) ≤ length w
