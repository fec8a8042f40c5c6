-- What the contracts of the actions of a set cite. fs are the factors, us their upper powers.
--
--   SetInput F fs us ts == accepted input: one to eight different irreducible factors of a degree from 1 to
--                        32, upper powers that 14 lets pass, and at least as many terms as their total
--                        degree, at most 4,096 elements of F
--   AllActed F fs us ts w w' r == the upper powers of all factors act on the terms, and the values are the
--                        terms at the place r of w'
--   SetDecided F fs us ts w w' r == r says whether the product of the upper powers annihilates the terms
use Rattle.std.specs.Prelude.{ℕ, ◌-◌, ◌≤◌, ◌<◌, ◌≡◌, Bool, false, List, [], length, get_or, T}
use Rattle.meaning.specs.Field.{Field, are_elements}
use Rattle.meaning.specs.Polynomial.{Polynomial, product}
use Rattle.meaning.specs.Sequence.{act_on_known, annihilates_known}
use Rattle.meaning.specs.Conditions.{named, total_degree, upper_powers_out_of_range}
use Rattle.bridge.proofs.Lists.Irreducibles.{Factors}
use Rattle.lent.specs.halves.Halves.{half}
use Rattle.lent.specs.declared.halves.Place.{Place}
use Rattle.lent.specs.halves.Kept.{Kept}

pub record SetInput (F : Field) (fs : List Polynomial) (us ts : List ℕ) : Type 0 where
  pub factors : Factors F fs
  pub short : (i : ℕ) → i < length fs → length (get_or fs i []) ≤ 33
  pub eight : length fs ≤ 8
  pub uppers : upper_powers_out_of_range (named fs us) ≡ false
  pub enough : total_degree (named fs us) ≤ length ts
  pub in_field : T (are_elements F ts)
  pub not_many : length ts ≤ 4096

pub record AllActed (F : Field) (fs : List Polynomial) (us ts w w' : List ℕ) (r : Place) : Type 0 where
  pub values : half w' r.half r.count ≡ act_on_known F (product F (named fs us)) ts
  pub which : r.half ≤ 1
  pub size : r.count ≡ length ts - total_degree (named fs us)
  pub kept : Kept w w'

pub record SetDecided (F : Field) (fs : List Polynomial) (us ts w w' : List ℕ) (r : Bool) : Type 0 where
  pub annihilated : r ≡ annihilates_known F (product F (named fs us)) ts
  pub kept : Kept w w'
