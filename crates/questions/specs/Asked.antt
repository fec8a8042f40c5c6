-- What the contract of the inner function of the irreducibility question cites.
--
--   Asked F f == 10 and 11 let f pass over the field F
use Rattle.std.specs.Prelude.{◌≡◌, false}
use Rattle.meaning.specs.Field.{Field}
use Rattle.meaning.specs.Polynomial.{Polynomial}
use Rattle.meaning.specs.Conditions.{factor_degree_out_of_range, coefficient_out_of_range}

pub record Asked (F : Field) (f : Polynomial) : Type 0 where
  pub degree_in_range : factor_degree_out_of_range F f ≡ false
  pub coefficients_in_range : coefficient_out_of_range F f ≡ false
