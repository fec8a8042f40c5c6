-- The rating of a route file: what the file holds, handed to the way that its mode names.
--
--   WrittenFactor          == a factor as a file writes it: degree, upper power and 32 coefficients
--   file_factor body     == the factor of a body of 35 bytes
--   polynomial_of f      == its polynomial: the coefficients below its degree, and then the leading 1, which
--                          is implied
--   file_coefficient_out_of_range F f == refusal 11 of a file's factor: a coefficient below the degree is no
--                          element of the field, or one from the degree on is not 0
--   terms_of rs          == the terms of the records of kinds 5 and 6, in order
--   Label               == what is printed after the density: the powers in factor order, or whether one
--                          polynomial fits
--   FileFigures         == the degree (complexity), the denominator of the density, which is the repeat
--                          length in the period mode and else the number of terms given, and the label
--   rate_mode m F fs ts answer work == the answer of the mode's way in the field F
--   field_in rs          == the name of the field that the records hold: by kind 9, or else by kind 2
--   rate_records rs answer work == the answer of the mode's way on what the records hold
--   rate_file file answer work  == the answer for a file: the refusals 1 to 5, then those of its mode
use Rattle.std.specs.Prelude.{ℕ, Bool, true, false, not, ◌||◌, List, [], ◌∷◌, ◌++◌, map, length, get_or, take}
use Rattle.std.specs.Prelude.{drop, eqb}
use Rattle.std.proofs.Math.Option.{none, some}
use Rattle.meaning.specs.declared.FieldName.{FieldName}
use Rattle.meaning.specs.Search.{holds_for_all, holds_for_some}
use Rattle.meaning.specs.Field.{Field, are_elements}
use Rattle.meaning.specs.Polynomial.{Polynomial}
use Rattle.meaning.specs.Result.{Result, refused, answered, Rated}
use Rattle.meaning.specs.Conditions.{degree_out_of_range}
use Rattle.meaning.specs.FieldNames.{in_field}
use Rattle.meaning.specs.Power.{PowerFigures}
use Rattle.meaning.specs.Period.{period_answer}
use Rattle.meaning.specs.Portion.{SetFigures, set_answer}
use Rattle.meaning.specs.Free.{FreeFigures, free_in}
use Rattle.meaning.specs.Route.{RouteRecord, Mode, period_mode, set_mode, free_mode, mode_of, bodies}
use Rattle.meaning.specs.Route.{byte_of, factor_upper, records}

pub record WrittenFactor : Type 0 where
  pub degree : ℕ
  pub upper : ℕ
  pub coefficients : List ℕ

unfoldable pub file_factor : List ℕ → WrittenFactor
file_factor body = record { degree = get_or body 0 0; upper = factor_upper body; coefficients = drop 3 body }

unfoldable pub polynomial_of : WrittenFactor → Polynomial
polynomial_of f = take f.degree f.coefficients ++ (1 ∷ [])

unfoldable pub file_degree_out_of_range : Field → WrittenFactor → Bool
file_degree_out_of_range F f = degree_out_of_range F f.degree

unfoldable pub file_coefficient_out_of_range : Field → WrittenFactor → Bool
file_coefficient_out_of_range F f =
    not (are_elements F (take f.degree f.coefficients))
    || not (holds_for_all (λ c. eqb c 0) (drop f.degree f.coefficients))

unfoldable pub terms_of : List RouteRecord → List ℕ
terms_of [] = []
terms_of (r ∷ rs) =
    elim (eqb r.kind 5 || eqb r.kind 6) [ true ↦ r.body ++ terms_of rs | false ↦ terms_of rs ]

pub data Label : Type 0 where
  powers : List ℕ → Label
  unique : Label
  several : Label

pub record FileFigures : Type 0 where
  pub degree : ℕ
  pub denominator : ℕ
  pub label : Label

unfoldable pub file_answer : ℕ → ℕ → Label → Polynomial → Rated FileFigures
file_answer d m l g =
    record { figures = record { degree = d; denominator = m; label = l }; polynomial = g }

unfoldable pub of_period : Result (Rated PowerFigures) → Result (Rated FileFigures)
of_period (refused n) = refused n
of_period (answered a) =
    answered
    (file_answer a.figures.degree a.figures.repeat (powers (a.figures.power ∷ [])) a.polynomial)

unfoldable pub of_set : ℕ → Result (Rated SetFigures) → Result (Rated FileFigures)
of_set m (refused n) = refused n
of_set m (answered a) =
    answered (file_answer a.figures.degree m (powers a.figures.powers) a.polynomial)

unfoldable pub free_label : Bool → Label
free_label true = unique
free_label false = several

unfoldable pub of_free : ℕ → Result (Rated FreeFigures) → Result (Rated FileFigures)
of_free m (refused n) = refused n
of_free m (answered a) =
    answered (file_answer a.figures.degree m (free_label a.figures.unique) a.polynomial)

unfoldable pub rate_mode : Mode → Field → List WrittenFactor → List ℕ → ℕ → ℕ → Result (Rated FileFigures)
rate_mode period_mode F fs ts answer work =
    of_period
    (period_answer F
    (holds_for_some (file_degree_out_of_range F) fs)
    (holds_for_some (file_coefficient_out_of_range F) fs)
    (get_or (map polynomial_of fs) 0 [])
    ts
    answer
    work)
rate_mode set_mode F fs ts answer work =
    of_set (length ts)
    (set_answer F
    (holds_for_some (file_degree_out_of_range F) fs)
    (holds_for_some (file_coefficient_out_of_range F) fs)
    (map (λ f. (polynomial_of f, f.upper)) fs)
    ts
    answer
    work)
rate_mode free_mode F fs ts answer work = of_free (length ts) (free_in F ts answer work)

unfoldable pub field_in : List RouteRecord → FieldName
field_in rs =
    elim (bodies 9 rs) [
      | [] ↦ FieldName.Prime (byte_of 2 rs)
      | body ∷ _ ↦ FieldName.Binary (get_or body 0 0) (get_or body 1 0)
    ]

unfoldable pub rate_records : List RouteRecord → ℕ → ℕ → Result (Rated FileFigures)
rate_records rs answer work =
    elim (mode_of (byte_of 3 rs)) [
      | none ↦ refused 5
      | some m ↦
          in_field (field_in rs)
          (λ F. rate_mode m F (map file_factor (bodies 4 rs)) (terms_of rs) answer work)
    ]

unfoldable pub rate_file : List ℕ → ℕ → ℕ → Result (Rated FileFigures)
rate_file file answer work =
    elim (records file) [ refused n ↦ refused n | answered rs ↦ rate_records rs answer work ]
