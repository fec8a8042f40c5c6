-- What the contracts of the search of the catalogue cite.
--
--   Unpacked n w c     == the 11 bytes w begin with the c coefficients of the polynomial of n
--   BinaryPeriod ts    == ts are 1 to 4,096 terms over GF(2)
--   entry_found r      == the entry and the power that a search finds, or none
use Rattle.std.specs.Prelude.{ℕ, ◌≤◌, ◌≡◌, List, length, take, T, Option, Some, None}
use Rattle.std.proofs.Math.Option as maybe
use Rattle.meaning.specs.declared.EntryRating.{EntryRating}
use Rattle.meaning.specs.Field.{prime, are_elements}
use Rattle.meaning.specs.Catalogue.{EntryFigures, entry_polynomial}

pub record Unpacked (n : ℕ) (w : List ℕ) (c : ℕ) : Type 0 where
  pub few : c ≤ 11
  pub size : length w ≡ 11
  pub front : take c w ≡ entry_polynomial n

pub record BinaryPeriod (ts : List ℕ) : Type 0 where
  pub at_least_one : 1 ≤ length ts
  pub not_many : length ts ≤ 4096
  pub binary : T (are_elements (prime 2) ts)

unfoldable pub entry_found : Option EntryRating → maybe.Option EntryFigures
entry_found (Some a) = maybe.some (record { entry = a.entry; power = a.power })
entry_found None = maybe.none
