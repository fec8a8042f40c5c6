-- On accepted input no refusal holds, and the ways answer.
--
--   AcceptedTerms     == terms that 7 and 8 do not turn down
--   count-accepted, terms-accepted, … == what it says that a condition does not hold
--   rated-power       == the power and the repeat length of an answer with a power
--   accepts_free      == the table of the free way passes accepted terms and lent bytes
--   set-answer, period-answer == the answer of the way on accepted factors, terms and lent bytes, from the
--                        powers that are found
-- Assumes nothing.
use Prim.Native.Nat.{ℕ, ◌≤◌, ◌<◌}
use native.Mathlib.Omega.{arith}
use mathlib.Core.Path.{◌≡◌, refl, sym, ap, subst, ◌∙◌}
use mathlib.Core.Bool.{Bool, true, false, not, ◌||◌}
use mathlib.Core.List.{List, [], ◌∷◌, map}
use mathlib.Core.Option.{Option, some}
use lib.ListN.{length, length-map}
use lib.Dec.{T, T_not, eqb, ltb, ltb→lt, lt→ltb, eqb→eq}
use Rattle.meaning.specs.declared.FieldName.{FieldName}
use Rattle.meaning.specs.Search.{bind, is_none, holds_for_some}
use Rattle.meaning.specs.Field.{Field, are_elements}
use Rattle.meaning.specs.Polynomial.{Polynomial, degree, power, product, monic_multiple}
use Rattle.meaning.specs.Sequence.{annihilates_known}
use Rattle.meaning.specs.Result.{answered, Rated}
use Rattle.meaning.specs.Conditions.{named, total_degree, count_out_of_range, term_out_of_field}
use Rattle.meaning.specs.Conditions.{is_reducible}
use Rattle.meaning.specs.Conditions.{factor_count_out_of_range, factor_degree_out_of_range, two_equal}
use Rattle.meaning.specs.Conditions.{coefficient_out_of_range}
use Rattle.meaning.specs.Conditions.{upper_powers_out_of_range, fewer_terms_than, lent_too_short}
use Rattle.meaning.specs.Conditions.{accepted_lent}
use Rattle.meaning.specs.FieldNames.{named_field}
use Rattle.meaning.specs.Power.{PowerFigures, power_rating}
use Rattle.meaning.specs.Repeat.{shortest_period}
use Rattle.meaning.specs.Period.{period_power, period_table, period_answer, period_in, rate_period}
use Rattle.meaning.specs.Portion.{set_powers, set_rating, set_table, set_answer}
use Rattle.meaning.specs.Portion.{set_in, rate_set, factor_table, accepted_factors}
use Rattle.meaning.specs.Free.{free_table}
use Rattle.meaning.proofs.Tables.{in_field_lem, of_one}
use Rattle.meaning.proofs.Passes.{Passes, ◌&◌, nothing, accepted-field, accepted-passes}
use Rattle.bridge.proofs.Basics.Searches.{T_false, T-not-false, answered_settle, bind-some}
use Rattle.bridge.proofs.Basics.Searches.{map_option-some}
use Rattle.bridge.proofs.Basics.Searches.{false-T, not-false, or-false, some-bind, some-map_option}
use Rattle.bridge.proofs.Lists.Products.{factors_of-named, length-named}
use Rattle.bridge.proofs.Lists.Multiples.{multiples_uppers}
use Rattle.bridge.proofs.Binary.NamedFields.{named-is_field}

-- terms that 7 and 8 do not turn down
pub record AcceptedTerms (F : Field) (ts : List ℕ) : Type 0 where
  pub at_least_one : 1 ≤ length ts
  pub not_many : length ts ≤ 4096
  pub in_field : T (are_elements F ts)

-- 7 and 8 pass accepted terms
pub count-passes : (F : Field) (ts : List ℕ) → AcceptedTerms F ts → count_out_of_range (length ts) ≡ false
unfolding count_out_of_range
count-passes F ts t =
    neither (eqb (length ts) 0) (ltb 4096 (length ts))
    (λ z. omega (arith, eqb→eq (length ts) 0 z, t.at_least_one))
    (λ z. omega (arith, ltb→lt 4096 (length ts) z, t.not_many))
  where
    neither : (b c : Bool) → ¬ T b → ¬ T c → (b || c) ≡ false
    neither true c h k = absurd (h tt)
    neither false true h k = absurd (k tt)
    neither false false h k = refl

pub terms_pass : (F : Field) (ts : List ℕ) → AcceptedTerms F ts → term_out_of_field F ts ≡ false
unfolding term_out_of_field
terms_pass F ts t = T-not-false (are_elements F ts) t.in_field

-- 15 passes enough terms, 16 accepted lent bytes, 17 annihilated terms
pub enough_pass : (d : ℕ) (ts : List ℕ) → d ≤ length ts → fewer_terms_than d ts ≡ false
unfolding fewer_terms_than
enough_pass d ts l = T_false (λ z. omega (arith, ltb→lt (length ts) d z))

pub lent_pass : (answer work : ℕ) → T (accepted_lent answer work) → lent_too_short answer work ≡ false
unfolding accepted_lent
lent_pass answer work h = T_false (T_not (lent_too_short answer work) h)

pub annihilated_pass :
    (F : Field) (g : Polynomial) (ts : List ℕ)
    → T (annihilates_known F g ts)
    → not (annihilates_known F g ts) ≡ false
annihilated_pass F g ts h = T-not-false (annihilates_known F g ts) h

-- What it says that a condition does not hold
pub count-accepted : (n : ℕ) → count_out_of_range n ≡ false → (1 ≤ n) × (n ≤ 4096)
unfolding count_out_of_range
count-accepted n h =
    let z = or-false (eqb n 0) (ltb 4096 n) h in
    let a : ¬ (n ≡ 0) = λ e. false-T z.0 (subst (λ m. T (eqb m 0)) (sym e) tt) in
    let b : ¬ (4096 < n) = λ l. false-T z.1 (lt→ltb 4096 n l) in
    (omega arith, omega arith)

pub terms-accepted :
    (F : Field) (ts : List ℕ) → term_out_of_field F ts ≡ false → T (are_elements F ts)
unfolding term_out_of_field
terms-accepted F ts h = not-false (are_elements F ts) h

pub enough-accepted : (d : ℕ) (ts : List ℕ) → fewer_terms_than d ts ≡ false → d ≤ length ts
unfolding fewer_terms_than
enough-accepted d ts h =
    let b : ¬ (length ts < d) = λ l. false-T h (lt→ltb (length ts) d l) in
    omega arith

pub lent-enough : (answer work : ℕ) → lent_too_short answer work ≡ false → (4097 ≤ answer) × (8192 ≤ work)
unfolding lent_too_short
lent-enough answer work h =
    let z = or-false (ltb answer 4097) (ltb work 8192) h in
    let a : ¬ (answer < 4097) = λ l. false-T z.0 (lt→ltb answer 4097 l) in
    let b : ¬ (work < 8192) = λ l. false-T z.1 (lt→ltb work 8192 l) in
    (omega arith, omega arith)

pub total-accepted : (l : List (Polynomial × ℕ)) → upper_powers_out_of_range l ≡ false → total_degree l ≤ 4096
unfolding upper_powers_out_of_range
total-accepted l h =
    let z = or-false (holds_for_some (λ (f : Polynomial × ℕ). eqb f.1 0) l) (ltb 4096 (total_degree l)) h in
    let b : ¬ (4096 < total_degree l) = λ k. false-T z.1 (lt→ltb 4096 (total_degree l) k) in
    omega arith

-- THE FREE WAY
pub accepts_free :
    (F : Field) (ts : List ℕ) (answer work : ℕ)
    → AcceptedTerms F ts
    → T (accepted_lent answer work)
    → Passes (free_table F ts answer work)
unfolding free_table
accepts_free F ts answer work t lent =
    count-passes F ts t
    & terms_pass F ts t
    & lent_pass answer work lent
    & nothing

-- the monic multiples of the factors, with their upper powers
abbrev pub multiples_named : Field → List Polynomial → List ℕ → List (Polynomial × ℕ)
multiples_named F fs vs = named (map (monic_multiple F) fs) vs

-- THE SET WAY
module _
    (name : FieldName) (fs : List Polynomial) (vs ts : List ℕ) (answer work : ℕ)
    (factors : T (accepted_factors name fs vs)) (t : AcceptedTerms (named_field name) ts)
    (lent : T (accepted_lent answer work))
    (enough : total_degree (multiples_named (named_field name) fs vs) ≤ length ts)
    (annihilated :
    T
    (annihilates_known (named_field name) (product (named_field name) (multiples_named (named_field name) fs
    vs))
    ts))
  where
    abbrev F : Field
    F = named_field name

    abbrev gs : List Polynomial
    gs = map (monic_multiple F) fs

    set-passes :
        Passes
        (set_table F
        (holds_for_some (factor_degree_out_of_range F) fs)
        (holds_for_some (coefficient_out_of_range F) fs)
        (named gs vs)
        ts
        answer
        work)
    unfolding set_table factor_table
    set-passes =
        let x = accepted-passes name fs vs factors in
        count-passes F ts t
        & terms_pass F ts t
        & ap factor_count_out_of_range (length-named gs vs ∙ length-map fs (monic_multiple F))
        ∙ x.factor_count
        & x.degrees_in_range
        & x.coefficients_in_range
        & ap (holds_for_some (is_reducible F)) (factors_of-named gs vs) ∙ x.irreducible
        & ap two_equal (factors_of-named gs vs) ∙ x.different
        & multiples_uppers (named-is_field name (accepted-field name fs vs factors)) fs vs
        x.coefficients_in_range
        ∙ x.uppers_in_range
        & enough_pass (total_degree (named gs vs)) ts enough
        & lent_pass answer work lent
        & annihilated_pass F (product F (named gs vs)) ts annihilated
        & nothing

    pub set-answer :
        {rs : List ℕ}
        → set_powers F (named gs vs) ts ≡ some rs
        → rate_set name fs vs ts answer work ≡ answered (set_rating F (named gs vs) ts rs)
    unfolding rate_set set_in set_answer
    set-answer e =
        in_field_lem name _ (accepted-field name fs vs factors)
        ∙ answered_settle _ _ set-passes (map_option-some (set_rating F (named gs vs) ts) e)

-- THE PERIOD WAY
-- the answer with a power, where the repeat length is known
unfoldable pub rating_of : (F : Field) (f : Polynomial) (r n : ℕ) → Rated PowerFigures
rating_of F f r n =
    record {
      figures = record { power = r; degree = degree (power F f r); repeat = n };
      polynomial = power F f r;
    }

pub rating-degree :
    (F : Field) (f : Polynomial) (r n : ℕ) → degree (power F f r) ≡ (rating_of F f r n).figures.degree
unfolding rating_of
rating-degree F f r n = refl

pub rating-polynomial :
    (F : Field) (f : Polynomial) (r n : ℕ) → (rating_of F f r n).polynomial ≡ power F f r
unfolding rating_of
rating-polynomial F f r n = refl

pub power-rated :
    (F : Field) (f : Polynomial) (ts : List ℕ) (r n : ℕ)
    → shortest_period ts ≡ some n
    → power_rating F f ts r ≡ some (rating_of F f r n)
unfolding power_rating rating_of
power-rated F f ts r n e = map_option-some _ e

-- the power and the repeat length of an answer with a power
pub rated-power :
    (F : Field) (f : Polynomial) (ts : List ℕ) (o : Option ℕ) {a : Rated PowerFigures}
    → bind o (power_rating F f ts) ≡ some a
    → (r n : ℕ) × (o ≡ some r) × (shortest_period ts ≡ some n) × (rating_of F f r n ≡ a)
unfolding power_rating rating_of
rated-power F f ts o e =
    let (r, y, z) = some-bind o (power_rating F f ts) e in
    let (n, s, t) = some-map_option _ (shortest_period ts) z in
    (r, n, y, s, t)

pub period-answer :
    (name : FieldName) (f : Polynomial) (ts : List ℕ) (answer work r n : ℕ) (vs : List ℕ)
    → T (accepted_factors name (f ∷ []) vs)
    → AcceptedTerms (named_field name) ts
    → T (accepted_lent answer work)
    → let g = monic_multiple (named_field name) f in
    period_power (named_field name) g ts ≡ some r
    → shortest_period ts ≡ some n
    → rate_period name f ts answer work ≡ answered (rating_of (named_field name) g r n)
unfolding rate_period period_in period_answer period_table factor_table is_none
period-answer name f ts answer work r n vs h t lent found repeat =
    let F = named_field name in
    let x = accepted-passes name (f ∷ []) vs h in
    let g = monic_multiple F f in
    in_field_lem name _ (accepted-field name (f ∷ []) vs h)
    ∙ answered_settle _ _
    (count-passes F ts t
    & terms_pass F ts t
    & of_one _ f x.degrees_in_range
    & of_one _ f x.coefficients_in_range
    & of_one _ g x.irreducible
    & lent_pass answer work lent
    & ap is_none found
    & nothing)
    (bind-some (power_rating F g ts) found ∙ power-rated F g ts r n repeat)
