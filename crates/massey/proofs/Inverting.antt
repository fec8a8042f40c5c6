-- The inverse of `arith` inverts in every field. Assumes nothing.
use Rattle.meaning.specs.Field.{Field}
use Rattle.bridge.proofs.Basics.Interpretation.{IsField}
use Rattle.bridge.proofs.Massey.Answer.{Inverts}
use Rattle.arith.specs.Inverse.{inverse}
use Rattle.arith.proofs.Inverse.{inverse-product}

pub inverts : {F : Field} → IsField F → Inverts F (inverse F)
inverts I a l h = inverse-product I l h
