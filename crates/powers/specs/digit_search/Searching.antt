-- What the contract of the search cites.
--
--   Searchable field f level == f is a polynomial over the field, not empty and of at most 33 coefficients,
--                        the level is a power of the characteristic p, and it is small: level ≤ 4,096·p, so
--                        that every power p^l below the level is at most 4,096
--   Searched field w h n f level w' r == r is what the search in the digits below the level finds for the n
--                        terms of half h of w, and w has become w'
use Rattle.std.specs.Prelude.{ℕ, ◌*◌, ◌≤◌, ◌<◌, ◌≡◌, List, length, T}
use Rattle.meaning.specs.Field.{are_elements}
use Rattle.meaning.specs.Polynomial.{Polynomial, degree}
use Rattle.bridge.proofs.Ways.PowerSearch.{power_found, power_acts}
use Rattle.arith.specs.declared.field.GaloisField.{GaloisField}
use Rattle.arith.specs.Represented.{field_of}
use Rattle.lent.specs.declared.levels.Level.{Level}
use Rattle.powers.specs.levels.Levels.{IsLevel}
use Rattle.lent.specs.halves.Halves.{half}
use Rattle.lent.specs.halves.Kept.{Kept}

pub record Searchable (field : GaloisField) (f : Polynomial) (level : Level) : Type 0 where
  pub elements : T (are_elements (field_of field) f)
  pub nonempty : 0 < length f
  pub short : length f ≤ 33
  pub is_level : IsLevel (field_of field).characteristic level
  pub near : level.power ≤ 4096 * (field_of field).characteristic

pub record Searched (field : GaloisField) (w : List ℕ) (h n : ℕ) (f : Polynomial) (level : Level)
    (w' : List ℕ) (r : ℕ) : Type 0 where
  pub power :
      r
      ≡ power_found (power_acts (field_of field) f) (field_of field).characteristic (degree f) level.exponent
      (half w h n)
  pub kept : Kept w w'
