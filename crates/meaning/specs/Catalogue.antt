-- The catalogue of the irreducible binary polynomials of degree 1 to 10, and the search in it for a period.
--
--   entry_polynomial n  == the polynomial of the number n: its coefficient of x^i is bit i of n, up to the
--                         highest bit that is 1, for n below 2^11; the empty list for 0
--   bits_up_to most n    == the same by the lowest bits of n, as many as `most` at most
--   catalogue          == the numbers of the irreducible polynomials over GF(2) of degree 1 to 10, rising:
--                         these polynomials have the numbers from 2 to 2,047
--   entry_power ts n    == the least power of the polynomial of n that annihilates the period ts, or none
--   EntryFigures       == an entry of the catalogue, and a power; entry_figures ts n == n with its power
--   first_entry ts      == the first entry that has such a power, with it, or none where no entry has one.
--                          For
--                         the zero sequence that is x, with the power 0
--   entry_table         == the refusals that the search meets, in order; 16 looks at the work bytes alone, as
--                         for answer bytes that are enough
--   find_entry ts work  == the answer of the search for work bytes of this length
use Rattle.std.specs.Prelude.{ℕ, zero, suc, ◌/◌, ◌%◌, true, false, not, List, [], ◌∷◌, length, eqb}
use Rattle.std.proofs.Math.Option.{Option}
use Rattle.meaning.specs.Search.{range, first_that, selected, map_option, bind, is_none}
use Rattle.meaning.specs.Field.{prime}
use Rattle.meaning.specs.Polynomial.{Polynomial, irreducible}
use Rattle.meaning.specs.Result.{Result, Check, settle}
use Rattle.meaning.specs.Conditions.{count_out_of_range, term_out_of_field, lent_too_short}
use Rattle.meaning.specs.Period.{period_power}

unfoldable pub bits_up_to : ℕ → ℕ → Polynomial
bits_up_to zero n = []
bits_up_to (suc most) n = elim (eqb n 0) [ true ↦ [] | false ↦ n % 2 ∷ bits_up_to most (n / 2) ]

unfoldable pub entry_polynomial : ℕ → Polynomial
entry_polynomial n = bits_up_to 11 n

unfoldable pub catalogue : List ℕ
catalogue = selected (λ n. irreducible (prime 2) (entry_polynomial n)) (range 2 2046)

unfoldable pub entry_power : List ℕ → ℕ → Option ℕ
entry_power ts n = period_power (prime 2) (entry_polynomial n) ts

pub record EntryFigures : Type 0 where
  pub entry : ℕ
  pub power : ℕ

unfoldable pub entry_figures : List ℕ → ℕ → Option EntryFigures
entry_figures ts n = map_option (λ r. record { entry = n; power = r }) (entry_power ts n)

unfoldable pub first_entry : List ℕ → Option EntryFigures
first_entry ts = bind (first_that (λ n. not (is_none (entry_power ts n))) catalogue) (entry_figures ts)

unfoldable pub entry_table : List ℕ → ℕ → List Check
entry_table ts work =
    (7, λ _. count_out_of_range (length ts))
    ∷ (8, λ _. term_out_of_field (prime 2) ts)
    ∷ (16, λ _. lent_too_short 4097 work)
    ∷ (19, λ _. is_none (first_entry ts))
    ∷ []

unfoldable pub find_entry : List ℕ → ℕ → Result EntryFigures
find_entry ts work = settle (entry_table ts work) (λ _. first_entry ts)
