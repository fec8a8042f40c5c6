-- What the contracts of the period way cite.
--
--   told r            == the power that an answer tells, or none
--   PeriodInput F f ts == accepted input: f is irreducible and monic over F, of a degree from 1 to 32, and
--                        ts are 1 to 4,096 elements of F
--   PeriodSearched F f ts w w' r == r tells the power of the period way, and the work bytes w have become w':
--                        those beyond the halves are as they were
--   PeriodFound F f ts w w' r == r tells it, and w has become w': the first 8,192 are 0, and the others as
--                        they were
use Rattle.std.specs.Prelude.{ℕ, ◌≤◌, ◌≡◌, List, length, T, Option, Some, None}
use Rattle.std.proofs.Math.Option as maybe
use Rattle.meaning.specs.Field.{Field, are_elements}
use Rattle.meaning.specs.Polynomial.{Polynomial, degree, is_monic_over, irreducible}
use Rattle.meaning.specs.Result.{cleared}
use Rattle.meaning.specs.Period.{period_power}
use Rattle.lent.specs.halves.Kept.{Kept}

unfoldable pub told : Option ℕ → maybe.Option ℕ
told (Some r) = maybe.some r
told None = maybe.none

pub record PeriodInput (F : Field) (f : Polynomial) (ts : List ℕ) : Type 0 where
  pub monic : T (is_monic_over F f)
  pub positive : 1 ≤ degree f
  pub irreducibility : T (irreducible F f)
  pub short : length f ≤ 33
  pub in_field : T (are_elements F ts)
  pub at_least_one : 1 ≤ length ts
  pub not_many : length ts ≤ 4096

pub record PeriodSearched (F : Field) (f : Polynomial) (ts w w' : List ℕ) (r : Option ℕ) : Type 0 where
  pub power : told r ≡ period_power F f ts
  pub kept : Kept w w'

pub record PeriodFound (F : Field) (f : Polynomial) (ts w w' : List ℕ) (r : Option ℕ) : Type 0 where
  pub power : told r ≡ period_power F f ts
  pub work : w' ≡ cleared w
