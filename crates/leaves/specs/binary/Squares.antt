-- What the contract of `leaf_binary_squares` cites.
--
--   squares F l       == the numbers of l, each raised to the characteristic of F, if all are elements of F;
--                        else l
use Rattle.std.specs.Prelude.{ℕ, List, map}
use Rattle.meaning.specs.Field.{Field, are_elements}
use Rattle.bridge.proofs.Lists.Spread.{raise}
use Rattle.leaves.specs.Suited.{where_suited}

abbrev pub squares : Field → List ℕ → List ℕ
squares F l = where_suited (are_elements F l) (map (raise F F.characteristic) l) l
