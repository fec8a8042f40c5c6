-- What the contracts of `leaf_order` and `leaf_common` cite.
--
--   is_suited F f       == 10, 11 and 12 let f pass over F, and it is monic
--   order F f limit    == the order of x modulo such an f, for a limit of at most 65,536; 0 where it exceeds
--                         the limit or f is x, and for any other f or limit
--   small m n b        == the three numbers are at most 65,536
use Rattle.std.specs.Prelude.{ℕ, Bool, not, ◌&&◌, leb}
use Rattle.meaning.specs.Field.{Field}
use Rattle.meaning.specs.Polynomial.{Polynomial}
use Rattle.meaning.specs.Conditions.{factor_degree_out_of_range, not_monic, is_reducible}
use Rattle.bridge.proofs.Sequences.Orders.{order_within}
use Rattle.leaves.specs.Suited.{where_suited}

unfoldable pub is_suited : Field → Polynomial → Bool
is_suited F f = not (factor_degree_out_of_range F f) && (not (not_monic F f) && not (is_reducible F f))

abbrev pub order : Field → Polynomial → ℕ → ℕ
order F f limit = where_suited (leb limit 65536 && is_suited F f) (order_within F f limit) 0

unfoldable pub small : ℕ → ℕ → ℕ → Bool
small m n b = leb m 65536 && (leb n 65536 && leb b 65536)
