-- What the contract of a power that acts cites.
--
--   Actable field w h n f u == the n terms of half h of w are elements of the field, f is a polynomial over
--                        it, not empty and of at most 33 coefficients, and f^u has a degree of at most
--                        n, u at most 4,096
--   PowerActed field w h n f u w' r == the action of f^u on these terms is the terms at the place r of w', w
--                        has become w'
use Rattle.std.specs.Prelude.{ℕ, ◌*◌, ◌-◌, ◌≤◌, ◌<◌, ◌≡◌, List, length, T}
use Rattle.meaning.specs.Field.{are_elements}
use Rattle.meaning.specs.Polynomial.{Polynomial, degree, power}
use Rattle.meaning.specs.Sequence.{act_on_known}
use Rattle.arith.specs.declared.field.GaloisField.{GaloisField}
use Rattle.arith.specs.Represented.{field_of}
use Rattle.lent.specs.declared.halves.Place.{Place}
use Rattle.lent.specs.halves.Halves.{half}
use Rattle.lent.specs.halves.Kept.{Kept}

pub record Actable (field : GaloisField) (w : List ℕ) (h n : ℕ) (f : Polynomial) (u : ℕ) : Type 0 where
  pub terms : T (are_elements (field_of field) (half w h n))
  pub elements : T (are_elements (field_of field) f)
  pub nonempty : 0 < length f
  pub short : length f ≤ 33
  pub few : u ≤ 4096
  pub enough : u * degree f ≤ n

pub record PowerActed (field : GaloisField) (w : List ℕ) (h n : ℕ) (f : Polynomial) (u : ℕ) (w' : List ℕ)
    (r : Place) : Type 0 where
  pub values :
      half w' r.half r.count ≡ act_on_known (field_of field) (power (field_of field) f u) (half w h n)
  pub which : r.half ≤ 1
  pub size : r.count ≡ n - u * degree f
  pub kept : Kept w w'
