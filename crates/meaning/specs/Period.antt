-- The period way: the least power of one factor that annihilates the endless repetition of a period.
--
--   period_power F f ts == the least r with f^r annihilating the period ts, tried up to its length; none
--                          where
--                         no power does. In words: LeastPower F f (periodic ts) r, and NoPower F f ts
--   NoPower F f ts     == no power of f, however large, annihilates the endless repetition
--   period_table        == the refusals that the period way meets in the field F, in order; `ten` and
--                          `eleven`
--                         say whether these two hold of the factor, which a list and a file write differently
--   period_answer       == the answer in the field F, with a monic factor and lent bytes of these lengths
--   period_in F f ts answer work == the answer with any factor: 10 and 11 look at it as it is given, and all
--                         that follows at its monic multiple
--   rate_period name f ts answer work == the answer of the period way, in the field with this name
use Rattle.std.specs.Prelude.{ℕ, Bool, List, [], ◌∷◌, length}
use Rattle.std.proofs.Math.Option.{Option}
use Rattle.meaning.specs.declared.FieldName.{FieldName}
use Rattle.meaning.specs.Search.{least, bind, is_none}
use Rattle.meaning.specs.Field.{Field}
use Rattle.meaning.specs.Polynomial.{Polynomial, power, monic_multiple}
use Rattle.meaning.specs.Sequence.{annihilates_period, AnnihilatesEndless, periodic}
use Rattle.meaning.specs.Result.{Result, Check, settle, Rated}
use Rattle.meaning.specs.Conditions.{count_out_of_range, term_out_of_field, factor_degree_out_of_range}
use Rattle.meaning.specs.Conditions.{coefficient_out_of_range, is_reducible, lent_too_short}
use Rattle.meaning.specs.FieldNames.{in_field}
use Rattle.meaning.specs.Power.{PowerFigures, power_rating}

unfoldable pub period_power : Field → Polynomial → List ℕ → Option ℕ
period_power F f ts = least (length ts) (λ r. annihilates_period F (power F f r) ts)

abbrev pub NoPower : Field → Polynomial → List ℕ → Type 0
NoPower F f ts = (e : ℕ) → AnnihilatesEndless F (power F f e) (periodic ts) → ⊥

unfoldable pub period_table : Field → Bool → Bool → Polynomial → List ℕ → ℕ → ℕ → List Check
period_table F ten eleven f ts answer work =
    (7, λ _. count_out_of_range (length ts))
    ∷ (8, λ _. term_out_of_field F ts)
    ∷ (10, λ _. ten)
    ∷ (11, λ _. eleven)
    ∷ (12, λ _. is_reducible F f)
    ∷ (16, λ _. lent_too_short answer work)
    ∷ (17, λ _. is_none (period_power F f ts))
    ∷ []

unfoldable pub period_answer :
    Field → Bool → Bool → Polynomial → List ℕ → ℕ → ℕ → Result (Rated PowerFigures)
period_answer F ten eleven f ts answer work =
    settle (period_table F ten eleven f ts answer work)
    (λ _. bind (period_power F f ts) (power_rating F f ts))

unfoldable pub period_in : Field → Polynomial → List ℕ → ℕ → ℕ → Result (Rated PowerFigures)
period_in F f ts =
    period_answer F (factor_degree_out_of_range F f) (coefficient_out_of_range F f) (monic_multiple F f) ts

unfoldable pub rate_period : FieldName → Polynomial → List ℕ → ℕ → ℕ → Result (Rated PowerFigures)
rate_period name f ts answer work = in_field name (λ F. period_in F f ts answer work)
