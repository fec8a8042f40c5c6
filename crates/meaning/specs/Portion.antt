-- The set way, the way for portions with one to eight named factors: their powers in the minimal polynomial
-- of the continued portion. A pair is a factor with a power; D is the total degree of the pairs with their
-- upper powers.
--
--   with_power i r l    == the pairs l with the power r in place i
--   least_at F l ts i   == for factor i the least r, at most its upper power, for which its r-th power times
--                         the others' upper powers annihilates the first D terms
--   set_powers F l ts   == these powers in the order of the factors. In words: SetMeaning F l ts powers
--   onward F l ts      == the endless continuation of the first D terms by the product of the upper powers
--   SetMeaning F l ts rs == there is one power for each factor, and the product of the factors to these
--                         powers is the minimal polynomial of that continuation
--   PortionMeaning F f v ts r == r is the least power of f that annihilates that continuation, with one
--                          factor
--   Agrees F l ts      == all the terms agree with the continuation of the first D of them
--   SetFigures         == the powers, the degree (the complexity) and the repeat length
--   set_rating F l ts rs == the answer with the powers rs: their product, and the repeat length of that
--                         continuation, whatever the number of factors
--   set_table           == the refusals that the way meets in the field F, in order; `ten` and `eleven` as in
--                         Period
--   set_answer          == the answer in the field F, with monic factors
--   factor_table F factors uppers == the refusals that factors and their upper powers meet, 9 to 14
--   accepted_factors name factors uppers == they are accepted: the name is that of a field, and 9 to 14 do
-- not
--                          turn them down
--   set_in F factors uppers ts answer work == the answer with any factors: 9 to 11 look at them as they are
--                          given, and all that follows at their monic multiples
--   rate_set name factors uppers ts answer work == the answer of the way, in the field with this name
use Rattle.std.specs.Prelude.{ℕ, ◌≡◌, Bool, not, ◌&&◌, List, [], ◌∷◌, map, length, get_or, take, set}
use Rattle.std.proofs.Math.Option.{Option}
use Rattle.meaning.specs.declared.FieldName.{FieldName}
use Rattle.meaning.specs.Search.{range, least, map_option, is_none, together, holds_for_some}
use Rattle.meaning.specs.Field.{Field}
use Rattle.meaning.specs.Polynomial.{Polynomial, degree, product, monic_multiple}
use Rattle.meaning.specs.Sequence.{Sequence, annihilates_known, continuation, cut, MinimalPolynomial}
use Rattle.meaning.specs.Sequence.{LeastPower}
use Rattle.meaning.specs.Result.{Result, Check, first_of, settle, Rated}
use Rattle.meaning.specs.Conditions.{named, total_degree, count_out_of_range, term_out_of_field}
use Rattle.meaning.specs.Conditions.{factor_count_out_of_range, factor_degree_out_of_range}
use Rattle.meaning.specs.Conditions.{coefficient_out_of_range}
use Rattle.meaning.specs.Conditions.{is_reducible, two_equal, upper_powers_out_of_range, fewer_terms_than}
use Rattle.meaning.specs.Conditions.{lent_too_short}
use Rattle.meaning.specs.FieldNames.{named_field, not_field, in_field}
use Rattle.meaning.specs.RepeatLength.{repeat_length}

unfoldable pub factors_of : List (Polynomial × ℕ) → List Polynomial
factors_of l = map (λ f. f.0) l

unfoldable pub with_power : ℕ → ℕ → List (Polynomial × ℕ) → List (Polynomial × ℕ)
with_power i r l = set l i ((get_or l i ([], 0)).0, r)

unfoldable pub least_at : Field → List (Polynomial × ℕ) → List ℕ → ℕ → Option ℕ
least_at F l ts i =
    least (get_or l i ([], 0)).1
    (λ r. annihilates_known F (product F (with_power i r l)) (take (total_degree l) ts))

unfoldable pub set_powers : Field → List (Polynomial × ℕ) → List ℕ → Option (List ℕ)
set_powers F l ts = together (map (least_at F l ts) (range 0 (length l)))

unfoldable pub onward : Field → List (Polynomial × ℕ) → List ℕ → Sequence
onward F l ts = continuation F (product F l) (take (total_degree l) ts)

pub record SetMeaning (F : Field) (l : List (Polynomial × ℕ)) (ts rs : List ℕ) : Type 0 where
  pub one_per_factor : length rs ≡ length l
  pub minimal : MinimalPolynomial F (product F (named (factors_of l) rs)) (onward F l ts)

abbrev pub PortionMeaning : Field → Polynomial → ℕ → List ℕ → ℕ → Type 0
PortionMeaning F f v ts r = LeastPower F f (onward F ((f, v) ∷ []) ts) r

abbrev pub Agrees : Field → List (Polynomial × ℕ) → List ℕ → Type 0
Agrees F l ts = cut (onward F l ts) 0 (length ts) ≡ ts

pub record SetFigures : Type 0 where
  pub powers : List ℕ
  pub degree : ℕ
  pub repeat : ℕ

unfoldable pub set_rating : Field → List (Polynomial × ℕ) → List ℕ → List ℕ → Rated SetFigures
set_rating F l ts rs =
    record {
      figures =
          record {
            powers = rs;
            degree = degree (product F (named (factors_of l) rs));
            repeat = repeat_length (product F (named (factors_of l) rs)) (onward F l ts);
          };
      polynomial = product F (named (factors_of l) rs);
    }

unfoldable pub set_table : Field → Bool → Bool → List (Polynomial × ℕ) → List ℕ → ℕ → ℕ → List Check
set_table F ten eleven l ts answer work =
    (7, λ _. count_out_of_range (length ts))
    ∷ (8, λ _. term_out_of_field F ts)
    ∷ (9, λ _. factor_count_out_of_range (length l))
    ∷ (10, λ _. ten)
    ∷ (11, λ _. eleven)
    ∷ (12, λ _. holds_for_some (is_reducible F) (factors_of l))
    ∷ (13, λ _. two_equal (factors_of l))
    ∷ (14, λ _. upper_powers_out_of_range l)
    ∷ (15, λ _. fewer_terms_than (total_degree l) ts)
    ∷ (16, λ _. lent_too_short answer work)
    ∷ (17, λ _. not (annihilates_known F (product F l) ts))
    ∷ []

unfoldable pub set_answer :
    Field → Bool → Bool → List (Polynomial × ℕ) → List ℕ → ℕ → ℕ → Result (Rated SetFigures)
set_answer F ten eleven l ts answer work =
    settle (set_table F ten eleven l ts answer work)
    (λ _. map_option (set_rating F l ts) (set_powers F l ts))

unfoldable pub set_in : Field → List Polynomial → List ℕ → List ℕ → ℕ → ℕ → Result (Rated SetFigures)
set_in F factors uppers ts =
    set_answer F
    (holds_for_some (factor_degree_out_of_range F) factors)
    (holds_for_some (coefficient_out_of_range F) factors)
    (named (map (monic_multiple F) factors) uppers)
    ts

unfoldable pub rate_set : FieldName → List Polynomial → List ℕ → List ℕ → ℕ → ℕ → Result (Rated SetFigures)
rate_set name factors uppers ts answer work = in_field name (λ F. set_in F factors uppers ts answer work)

unfoldable pub factor_table : Field → List Polynomial → List ℕ → List Check
factor_table F factors uppers =
    (9, λ _. factor_count_out_of_range (length factors))
    ∷ (10, λ _. holds_for_some (factor_degree_out_of_range F) factors)
    ∷ (11, λ _. holds_for_some (coefficient_out_of_range F) factors)
    ∷ (12, λ _. holds_for_some (is_reducible F) (map (monic_multiple F) factors))
    ∷ (13, λ _. two_equal (map (monic_multiple F) factors))
    ∷ (14, λ _. upper_powers_out_of_range (named factors uppers))
    ∷ []

unfoldable pub accepted_factors : FieldName → List Polynomial → List ℕ → Bool
accepted_factors name factors uppers =
    not (not_field name) && is_none (first_of (factor_table (named_field name) factors uppers))
