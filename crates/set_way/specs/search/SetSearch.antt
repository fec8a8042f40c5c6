-- What the contract of the search for the powers of a set cites. fs are the factors, us their upper powers.
--
--   PowersSearched F fs us ts w w' r == r has the powers of the factors in eight places
use Rattle.std.specs.Prelude.{ℕ, ◌≡◌, List}
use Rattle.std.proofs.Math.Option.{some}
use Rattle.meaning.specs.Search.{map_option}
use Rattle.meaning.specs.Field.{Field}
use Rattle.meaning.specs.Polynomial.{Polynomial}
use Rattle.meaning.specs.Conditions.{named}
use Rattle.meaning.specs.Portion.{set_powers}
use Rattle.meaning.specs.Answers.{padded}
use Rattle.lent.specs.halves.Kept.{Kept}

pub record PowersSearched (F : Field) (fs : List Polynomial) (us ts w w' r : List ℕ) : Type 0 where
  pub powers : map_option padded (set_powers F (named fs us) ts) ≡ some r
  pub kept : Kept w w'
