-- What the contracts of the fields of 2^n elements cite.
--
--   extension_of f        == the field that f stands for
--   WellFormedExtension f == 20 admits its degree and its reducing polynomial, and its size is right
use Rattle.std.specs.Prelude.{◌^◌, ◌≡◌}
use Rattle.meaning.specs.Field.{Field}
use Rattle.meaning.specs.Extension.{binary}
use Rattle.bridge.proofs.Binary.BinaryNumbers.{BinaryName}
use Rattle.arith.specs.declared.extension.ExtensionField.{ExtensionField}

unfoldable pub extension_of : ExtensionField → Field
extension_of f = binary f.degree f.low

pub record WellFormedExtension (f : ExtensionField) : Type 0 where
  pub name : BinaryName f.degree f.low
  pub size_is_right : f.size ≡ 2 ^ f.degree
