-- What the contracts of the powers by the characteristic cite.
--
--   Levelled field f level == f is a polynomial over the field, not empty and of at most 33 coefficients, and
--                        the level is a power of the characteristic, at most 4,096
use Rattle.std.specs.Prelude.{◌≤◌, ◌<◌, ◌≡◌, length, T}
use Rattle.meaning.specs.Field.{are_elements}
use Rattle.meaning.specs.Polynomial.{Polynomial}
use Rattle.arith.specs.declared.field.GaloisField.{GaloisField}
use Rattle.arith.specs.Represented.{field_of}
use Rattle.lent.specs.declared.levels.Level.{Level}

pub record Levelled (field : GaloisField) (f : Polynomial) (level : Level) : Type 0 where
  pub elements : T (are_elements (field_of field) f)
  pub nonempty : 0 < length f
  pub short : length f ≤ 33
  pub base : level.base ≡ (field_of field).characteristic
  pub near : level.power ≤ 4096
