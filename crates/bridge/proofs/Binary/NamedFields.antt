-- The field that a name stands for, of either sort, and the factors that are accepted over it.
--
--   named-is_field     == a name that 6 or 20 lets pass is that of a field
--   accepted-is_field, accepted-different == so is that of accepted factors, and they are different
--                        irreducible polynomials
--
-- Assumes nothing.
use Prim.Native.Nat.{ℕ}
use mathlib.Core.Path.{◌≡◌}
use mathlib.Core.Bool.{false}
use mathlib.Core.List.{List, map}
use lib.Dec.{T}
use Rattle.meaning.specs.declared.FieldName.{FieldName}
use Rattle.meaning.specs.Field.{prime_in_range}
use Rattle.meaning.specs.Polynomial.{Polynomial, monic_multiple}
use Rattle.meaning.specs.Conditions.{not_prime}
use Rattle.meaning.specs.FieldNames.{named_field, not_field}
use Rattle.meaning.specs.Portion.{accepted_factors, factor_table}
use Rattle.meaning.proofs.Passes.{accepted-field, accepted-passes}
use Rattle.bridge.proofs.Basics.Searches.{not-false}
use Rattle.bridge.proofs.Basics.Interpretation.{IsField, in_range_is_field}
use Rattle.bridge.proofs.Lists.Irreducibles.{Factors, multiples-factors}
use Rattle.bridge.proofs.Binary.BinaryNumbers.{admitted-is_field}

pub named-is_field : (name : FieldName) → not_field name ≡ false → IsField (named_field name)
unfolding named_field not_field not_prime
named-is_field (FieldName.Prime p) h = in_range_is_field p (not-false (prime_in_range p) h)
named-is_field (FieldName.Binary n low) h = admitted-is_field n low h

-- the factors that `accepted_factors` accepts
module _ (name : FieldName) (fs : List Polynomial) (us : List ℕ) (accepted : T (accepted_factors name fs us))
  where
    pub accepted-is_field : IsField (named_field name)
    accepted-is_field = named-is_field name (accepted-field name fs us accepted)

    pub accepted-different : Factors (named_field name) (map (monic_multiple (named_field name)) fs)
    unfolding factor_table
    accepted-different =
        let x = accepted-passes name fs us accepted in
        multiples-factors accepted-is_field fs x.degrees_in_range x.coefficients_in_range x.irreducible
        x.different
