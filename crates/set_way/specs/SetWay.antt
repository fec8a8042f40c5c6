-- What the contracts of the set way cite.
--
--   powers_found F l ts == the powers of the pairs l where their product annihilates the terms, else none
--   told_powers r      == the eight places that an answer tells, or none
--   SetFound F fs us ts w w' r == r tells the powers that are found, and the work bytes w became w': the
--                        first 8,192 are 0, and the others as they were
use Rattle.std.specs.Prelude.{ℕ, ◌≡◌, true, false, List, Option, Some, None}
use Rattle.std.proofs.Math.Option as maybe
use Rattle.meaning.specs.Search.{map_option}
use Rattle.meaning.specs.Field.{Field}
use Rattle.meaning.specs.Polynomial.{Polynomial, product}
use Rattle.meaning.specs.Sequence.{annihilates_known}
use Rattle.meaning.specs.Result.{cleared}
use Rattle.meaning.specs.Conditions.{named}
use Rattle.meaning.specs.Portion.{set_powers}
use Rattle.meaning.specs.Answers.{padded}

unfoldable pub powers_found : Field → List (Polynomial × ℕ) → List ℕ → maybe.Option (List ℕ)
powers_found F l ts =
    elim (annihilates_known F (product F l) ts) [ true ↦ set_powers F l ts | false ↦ maybe.none ]

unfoldable pub told_powers : Option (List ℕ) → maybe.Option (List ℕ)
told_powers (Some rs) = maybe.some rs
told_powers None = maybe.none

pub record SetFound (F : Field) (fs : List Polynomial) (us ts w w' : List ℕ)
    (r : Option (List ℕ)) : Type 0 where
  pub told : told_powers r ≡ map_option padded (powers_found F (named fs us) ts)
  pub work : w' ≡ cleared w
