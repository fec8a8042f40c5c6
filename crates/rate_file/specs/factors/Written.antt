-- What the contracts of a file's factors cite.
--
--   bodies_in file      == the bodies of the records of its factors, in order
--   factors_in file     == the factors of the file, as it writes them, in order
--   polynomials_in file == their polynomials
--   no_factor           == what a place beyond the last factor reads as
--   written_table F fs  == the refusals 10 and 11 of factors as a file writes them
use Rattle.std.specs.Prelude.{ℕ, List, [], ◌∷◌, map}
use Rattle.meaning.specs.Search.{holds_for_some}
use Rattle.meaning.specs.Field.{Field}
use Rattle.meaning.specs.Polynomial.{Polynomial}
use Rattle.meaning.specs.Result.{Check}
use Rattle.meaning.specs.Route.{bodies}
use Rattle.meaning.specs.File.{WrittenFactor, file_factor, polynomial_of, file_degree_out_of_range}
use Rattle.meaning.specs.File.{file_coefficient_out_of_range}
use Rattle.route.specs.framing.Framing.{records_from}

abbrev pub bodies_in : List ℕ → List (List ℕ)
bodies_in file = bodies 4 (records_from file 0)

unfoldable pub factors_in : List ℕ → List WrittenFactor
factors_in file = map file_factor (bodies_in file)

abbrev pub polynomials_in : List ℕ → List Polynomial
polynomials_in file = map polynomial_of (factors_in file)

unfoldable pub no_factor : WrittenFactor
no_factor = file_factor []

unfoldable pub written_table : Field → List WrittenFactor → List Check
written_table F fs =
    (10, λ _. holds_for_some (file_degree_out_of_range F) fs)
    ∷ (11, λ _. holds_for_some (file_coefficient_out_of_range F) fs)
    ∷ []
