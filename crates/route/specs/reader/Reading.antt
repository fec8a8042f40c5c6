-- What the contracts of the reader cite: where the body of a record begins.
--
--   BodyStart file n r == r is the place where the body of record n begins, if the file is accepted
use Rattle.std.specs.Prelude.{ℕ, ◌≡◌, List}
use Rattle.meaning.specs.Result.{answered}
use Rattle.meaning.specs.Route.{RouteRecord, records}
use Rattle.meaning.specs.Exports.{body_start}

pub record BodyStart (file : List ℕ) (n r : ℕ) : Type 0 where
  pub place : (rs : List RouteRecord) → records file ≡ answered rs → r ≡ body_start rs n
