-- The free way: the shortest recurrence of a portion alone, with no factor named.
--
--   fits_degree F ts e  == some monic polynomial of degree e annihilates the known terms, by trying all of
--                         them
--   least_degree F ts   == the least such degree, at most the number of terms (a polynomial of that degree
--                          has
--                         no places and fits). In words: IsLeastDegree F ts e
--   Fits F ts e g      == g is monic over F, of degree e, and annihilates the known terms
--   IsLeastDegree F ts e == some polynomial fits with degree e, and none with a smaller one
--   is_unique ts e      == the word `one`: twice the degree is at most the number of terms, and only one
--                         polynomial fits; else `some`
--   FreeFigures        == the degree, and whether the word is `one`
--   Precedes f g       == f comes before g: the coefficients are compared from the highest degree downwards,
--                         and at the first difference f has the smaller number; one that is missing counts
--                         as 0
--   free_polynomial F ts e == the first polynomial of degree e that annihilates the known terms, by trying
--                             all
--                         of them in that order, in which `monics` lists them; under `one` the only one
--   free_table F ts …   == the refusals that the free way meets in the field F, in order; free_in F ts … ==
--                         the answer in F
--   rate_free name ts answer work == the answer of the free way
use Rattle.std.specs.Prelude.{ℕ, ◌*◌, ◌≤◌, ◌<◌, ◌≡◌, Bool, List, [], ◌∷◌, length, get_or, leb, T}
use Rattle.std.proofs.Math.Option.{Option}
use Rattle.meaning.specs.declared.FieldName.{FieldName}
use Rattle.meaning.specs.Search.{least, first_that, map_option, bind, holds_for_some}
use Rattle.meaning.specs.Field.{Field}
use Rattle.meaning.specs.Polynomial.{Polynomial, degree, is_monic_over, monics}
use Rattle.meaning.specs.Sequence.{annihilates_known}
use Rattle.meaning.specs.Result.{Result, Check, settle, Rated}
use Rattle.meaning.specs.Conditions.{count_out_of_range, term_out_of_field, lent_too_short}
use Rattle.meaning.specs.FieldNames.{in_field}

unfoldable pub fits_degree : Field → List ℕ → ℕ → Bool
fits_degree F ts e = holds_for_some (λ g. annihilates_known F g ts) (monics F e)

unfoldable pub least_degree : Field → List ℕ → Option ℕ
least_degree F ts = least (length ts) (fits_degree F ts)

pub record Fits (F : Field) (ts : List ℕ) (e : ℕ) (g : Polynomial) : Type 0 where
  pub monic : T (is_monic_over F g)
  pub of_degree : degree g ≡ e
  pub annihilates : T (annihilates_known F g ts)

pub record IsLeastDegree (F : Field) (ts : List ℕ) (e : ℕ) : Type 0 where
  pub fitting : Polynomial
  pub fits : Fits F ts e fitting
  pub smallest : (d : ℕ) (g : Polynomial) → d ≤ length ts → Fits F ts d g → e ≤ d

-- `one` where twice the degree is at most the number of terms
unfoldable pub is_unique : List ℕ → ℕ → Bool
is_unique ts e = leb (2 * e) (length ts)

pub record FreeFigures : Type 0 where
  pub degree : ℕ
  pub unique : Bool

pub record Precedes (f g : Polynomial) : Type 0 where
  pub place : ℕ
  pub smaller : get_or f place 0 < get_or g place 0
  pub above : (i : ℕ) → place < i → get_or f i 0 ≡ get_or g i 0

unfoldable pub free_polynomial : Field → List ℕ → ℕ → Option Polynomial
free_polynomial F ts e = first_that (λ g. annihilates_known F g ts) (monics F e)

unfoldable pub free_rating : Field → List ℕ → ℕ → Option (Rated FreeFigures)
free_rating F ts e =
    map_option (λ g. record { figures = record { degree = e; unique = is_unique ts e }; polynomial = g })
    (free_polynomial F ts e)

unfoldable pub free_table : Field → List ℕ → ℕ → ℕ → List Check
free_table F ts answer work =
    (7, λ _. count_out_of_range (length ts))
    ∷ (8, λ _. term_out_of_field F ts)
    ∷ (16, λ _. lent_too_short answer work)
    ∷ []

unfoldable pub free_in : Field → List ℕ → ℕ → ℕ → Result (Rated FreeFigures)
free_in F ts answer work =
    settle (free_table F ts answer work) (λ _. bind (least_degree F ts) (free_rating F ts))

unfoldable pub rate_free : FieldName → List ℕ → ℕ → ℕ → Result (Rated FreeFigures)
rate_free name ts answer work = in_field name (λ F. free_in F ts answer work)
