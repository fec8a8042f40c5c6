-- The law of sums that are plain numbers.
--
--   residues_bounded  == the elements that they stand for are elements of the field
use Rattle.std.specs.Prelude.{ℕ, List}
use mathlib.Core.Path.{refl, subst}
use Rattle.arith.specs.declared.prime_field.PrimeField.{PrimeField}
use Rattle.arith.specs.declared.field.GaloisField.{GaloisField}
use Rattle.arith.specs.Represented.{field_of}
use Rattle.arith.specs.sums.Sums.{elements_of}
use Rattle.arith.proofs.Sorts.{prime-field}
use Rattle.arith.proofs.sums.Elements.{elements-below}
use Rattle.lent.specs.sums.Bounded.{Bounded}

pub residues_bounded :
    (f : PrimeField) (l : List ℕ) → Bounded (field_of (GaloisField.Prime f)) (elements_of f l)
residues_bounded f l = subst (λ F. Bounded F (elements_of f l)) (prime-field f refl) (elements-below f l)
