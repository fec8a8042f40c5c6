-- Where a polynomial is suited.
--
--   suited_over       == what a suited polynomial gives to the order of x
--
-- Assumes nothing.
use mathlib.Core.Path.{◌≡◌}
use mathlib.Core.Bool.{false, not, ◌&&◌}
use lib.Dec.{T}
use Rattle.meaning.specs.Field.{Field}
use Rattle.meaning.specs.Polynomial.{Polynomial}
use Rattle.meaning.specs.Conditions.{factor_degree_out_of_range, not_monic, is_reducible}
use Rattle.bridge.proofs.Lists.Irreducibles.{accepted-irreducible}
use Rattle.bridge.proofs.Basics.Searches.{T_and, T_true, not-true}
use Rattle.arith.specs.Represented.{field_of}
use Rattle.arith.specs.declared.field.GaloisField.{GaloisField}
use Rattle.repeat.specs.orders.Orders.{Suited}
use Rattle.repeat.proofs.orders.Accepted.{accepted-suited}
use Rattle.leaves.specs.Orderly.{is_suited}

-- The test, from its parts
module _ (F : Field) (f : Polynomial) where
  module _ (h : T (is_suited F f)) where
    first : T (not (factor_degree_out_of_range F f)) × T (not (not_monic F f) && not (is_reducible F f))
    unfolding is_suited
    first = T_and (not (factor_degree_out_of_range F f)) _ h

    second : T (not (not_monic F f)) × T (not (is_reducible F f))
    second = T_and (not (not_monic F f)) (not (is_reducible F f)) first.1

    ten-passes : factor_degree_out_of_range F f ≡ false
    ten-passes = not-true _ (T_true first.0)

    eleven-passes : not_monic F f ≡ false
    eleven-passes = not-true _ (T_true second.0)

    twelve_passes : is_reducible F f ≡ false
    twelve_passes = not-true _ (T_true second.1)

pub suited_over :
    (field : GaloisField) (f : Polynomial) → T (is_suited (field_of field) f)
    → Suited (field_of field) f
suited_over field f h =
    let F = field_of field in
    let ten = ten-passes F f h in
    let eleven = eleven-passes F f h in
    accepted-suited field (record { degree_in_range = ten; monic_over = eleven })
    (accepted-irreducible F f ten eleven (twelve_passes F f h))
