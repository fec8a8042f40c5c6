-- Demand 3: the same polynomial wherever the stretch is cut, however long it is, and whichever way rates it.
-- Assumes nothing.
use Prim.Native.Nat.{ℕ, ◌+◌, ◌*◌, ◌≤◌}
use native.Mathlib.Nat.{zero-add, le_trans, mul-pos}
use native.Mathlib.Omega.{arith}
use mathlib.Core.Path.{◌≡◌, refl, sym, ap, subst, fun_ext, ◌∙◌}
use mathlib.Core.Logic.{◌≢◌}
use mathlib.Core.Bool.{true, false, true≢false}
use mathlib.Core.List.{List, [], ◌∷◌, map}
use mathlib.Core.Option.{some}
use lib.ListN.{length, get_or}
use lib.Dec.{T, eqb, ltb}
use Rattle.meaning.specs.Answers.{Reply, told}
use Rattle.meaning.specs.declared.FieldName.{FieldName}
use Rattle.meaning.specs.declared.PowerRating.{PowerRating}
use Rattle.meaning.specs.Search.{holds_for_some}
use Rattle.meaning.specs.Field.{Field}
use Rattle.meaning.specs.Polynomial.{Polynomial, degree, power, product, monic_multiple}
use Rattle.meaning.specs.Sequence.{Sequence, InField, AnnihilatesEndless, cut, periodic, Period}
use Rattle.meaning.specs.Sequence.{MinimalPolynomial, annihilates_known}
use Rattle.meaning.specs.Result.{Result, answered, Rated, map_result, figures_of, written, answer_after}
use Rattle.meaning.specs.Conditions.{named, total_degree, upper_powers_out_of_range}
use Rattle.meaning.specs.Conditions.{factor_count_out_of_range}
use Rattle.meaning.specs.Conditions.{coefficient_out_of_range}
use Rattle.meaning.specs.Power.{PowerFigures, is_x}
use Rattle.meaning.specs.Period.{rate_period}
use Rattle.meaning.specs.Portion.{accepted_factors, factor_table, factors_of, set_powers, set_rating, onward}
use Rattle.meaning.specs.Free.{free_in, rate_free}
use Rattle.meaning.specs.Answers.{told_power, set_figures_told}
use Rattle.meaning.specs.Calls.{LentAfter}
use Rattle.meaning.proofs.Tables.{in_field_lem}
use Rattle.meaning.proofs.Passes.{accepted-field, accepted-passes}
use Rattle.theorems.specs.Ratings.{GF, Returns}
use Rattle.theorems.specs.CutAnywhere.{SetReturns, PeriodReturns, FreeReturns, CutAnywherePromise}
use Rattle.bridge.proofs.Basics.Interpretation.{IsField}
use Rattle.bridge.proofs.Lists.Polynomials.{monic-nonempty}
use Rattle.bridge.proofs.Lists.Products.{MonicFactors, monics-nonempty, factors_of-named, length-factors_of}
use Rattle.bridge.proofs.Lists.Products.{product-elements, product-single, named-one}
use Rattle.bridge.proofs.Lists.Irreducibles.{Factors, factors-monics}
use Rattle.bridge.proofs.Lists.Multiples.{associates_annihilate, associates_product, multiples-total}
use Rattle.bridge.proofs.Basics.Searches.{or-false, false-T, some-head}
use Rattle.bridge.proofs.Binary.NamedFields.{accepted-is_field, accepted-different}
use Rattle.bridge.proofs.Sequences.Actions.{length_cut, cut-elements, endless-known, periodic-cut}
use Rattle.bridge.proofs.Sequences.Actions.{act_at-shift}
use Rattle.bridge.proofs.Sequences.Minimal.{minimal-unique, least_power_exists}
use Rattle.bridge.proofs.Ways.Periods.{least-period_power, period_power-minimal}
use Rattle.bridge.proofs.Ways.Fitting.{stretch-answer}
use Rattle.bridge.proofs.Ways.Portions.{set_powers_exists, set_powers-minimal, onward-cut}
use Rattle.bridge.proofs.Sequences.Repeats.{shortest_exists}
use Rattle.theorems.proofs.Ways.{written-returns, one-factor}
use Rattle.bridge.proofs.Ways.Accepted.{AcceptedTerms, accepts_free, set-answer, period-answer}
use Rattle.bridge.proofs.Ways.Accepted.{rating_of, rating-degree, rating-polynomial}
use Rattle.bridge.proofs.Sequences.Cutting.{shifted, shifted-minimal, product-constant}

-- The total degree of accepted factors is positive: there is one, with an upper power and a degree above 0.
nonzero-upper :
    (f : Polynomial) (v : ℕ) (l : List (Polynomial × ℕ)) → upper_powers_out_of_range ((f, v) ∷ l) ≡ false →
    v ≢ 0
unfolding upper_powers_out_of_range
nonzero-upper f v l h e =
    let z =
    or-false (holds_for_some (λ (g : Polynomial × ℕ). eqb g.1 0) ((f, v) ∷ l))
    (ltb 4096 (total_degree ((f, v) ∷ l))) h in
    false-T z.0
    (some-head (λ (g : Polynomial × ℕ). eqb g.1 0) (f, v) l (subst (λ n. T (eqb n 0)) (sym e) tt))

pub total-positive :
    (name : FieldName) (fs : List Polynomial) (vs : List ℕ)
    → T (accepted_factors name fs vs)
    → 1 ≤ total_degree (named (map (monic_multiple (GF name)) fs) vs)
unfolding named total_degree factor_count_out_of_range factor_table
total-positive name [] vs h = absurd (true≢false (accepted-passes name [] vs h).factor_count)
total-positive name (f ∷ fs) [] h =
    absurd (nonzero-upper f 0 (named fs []) (accepted-passes name (f ∷ fs) [] h).uppers_in_range refl)
total-positive name (f ∷ fs) (v ∷ vs) h =
    let u = nonzero-upper f v (named fs vs) (accepted-passes name (f ∷ fs) (v ∷ vs) h).uppers_in_range in
    let d = (accepted-different name (f ∷ fs) (v ∷ vs) h).positive 0 (omega arith) in
    omega (arith, mul-pos {m = v} {n = degree (monic_multiple (GF name) f)} (omega arith) d)

module _
    (name : FieldName) (fs : List Polynomial) (vs : List ℕ) (s : Sequence)
    (accepted : T (accepted_factors name fs vs))
    (noneX : holds_for_some is_x (map (monic_multiple (GF name)) fs) ≡ false)
    (in_field : InField (GF name) s)
    (given : AnnihilatesEndless (GF name) (product (GF name) (named fs vs)) s)
  where
    abbrev F : Field
    F = GF name

    -- the monic multiples, for which the factors stand
    abbrev gs : List Polynomial
    gs = map (monic_multiple F) fs

    abbrev l : List (Polynomial × ℕ)
    l = named gs vs

    I : IsField F
    I = accepted-is_field name fs vs accepted

    eleven : holds_for_some (coefficient_out_of_range F) fs ≡ false
    unfolding factor_table
    eleven = (accepted-passes name fs vs accepted).coefficients_in_range

    -- their product annihilates the sequence too, and has the same total degree
    annihilated : AnnihilatesEndless F (product F l) s
    annihilated = (associates_annihilate I (associates_product I fs vs eleven) s).0 given

    total : (m : ℕ) → total_degree (named fs vs) ≤ m → total_degree l ≤ m
    total m e = subst (λ d. d ≤ m) (sym (multiples-total I fs vs eleven)) e

    factors : Factors F (factors_of l)
    factors = subst (Factors F) (sym (factors_of-named gs vs)) (accepted-different name fs vs accepted)

    monics : MonicFactors F l
    monics = factors-monics I l factors

    constant : get_or (product F l) 0 0 ≢ 0
    constant =
        product-constant I l factors monics (length-factors_of l)
        (ap (holds_for_some is_x) (factors_of-named gs vs) ∙ noneX)

    -- the continuation of a stretch is the sequence from its place on
    continued : (k m : ℕ) → total_degree l ≤ m → onward F l (cut s k m) ≡ shifted s k
    continued k m e = fun_ext (onward-cut I l monics s k m in_field annihilated e)

    -- the powers of a stretch and their product
    powers : (k m : ℕ) → (rs : List ℕ) × (set_powers F l (cut s k m) ≡ some rs)
    powers k m = set_powers_exists I l (monics-nonempty F l monics) (cut s k m)

    rated : (k m : ℕ) → Polynomial
    rated k m = product F (named (factors_of l) (powers k m).0)

    enough : (k m : ℕ) → total_degree l ≤ m → total_degree l ≤ length (cut s k m)
    enough k m e = subst (λ n. total_degree l ≤ n) (sym (length_cut s k m)) e

    rated-minimal : (k m : ℕ) → total_degree l ≤ m → MinimalPolynomial F (rated k m) (shifted s k)
    unfolding rated
    rated-minimal k m e =
        subst (MinimalPolynomial F (rated k m)) (continued k m e)
        (set_powers-minimal I l factors (cut s k m) (cut-elements F s k m in_field) (enough k m e)
        (powers k m).1).minimal

    -- g is the polynomial of the first D terms
    g : Polynomial
    g = rated 0 (total_degree l)

    shifted-zero : shifted s 0 ≡ s
    shifted-zero = fun_ext (λ i. ap s (zero-add i))

    minimal : MinimalPolynomial F g s
    unfolding g
    minimal =
        subst (MinimalPolynomial F g) shifted-zero (rated-minimal 0 (total_degree l) (omega arith))

    minimal_from : (k : ℕ) → MinimalPolynomial F g (shifted s k)
    minimal_from k =
        shifted-minimal I (product F l) s annihilated (product-elements I l) constant g minimal k

    -- whatever is minimal from some place on is g
    same_as_g : (h : Polynomial) (k : ℕ) → MinimalPolynomial F h (shifted s k) → h ≡ g
    same_as_g h k x = minimal-unique I h g (shifted s k) x (minimal_from k)

    -- THE SET WAY
    terms : (k m : ℕ) → 1 ≤ m → m ≤ 4096 → AcceptedTerms F (cut s k m)
    terms k m few many =
        record {
          at_least_one = omega (arith, length_cut s k m);
          not_many = omega (arith, length_cut s k m);
          in_field = cut-elements F s k m in_field;
        }

    known-annihilated : (k m : ℕ) → T (annihilates_known F (product F l) (cut s k m))
    known-annihilated k m = endless-known F (product F l) s k m annihilated

    set-way : (k m : ℕ) → total_degree l ≤ m → m ≤ 4096 → SetReturns name fs vs (cut s k m) g
    unfolding figures_of map_result answer_after set_rating set_figures_told rated
    set-way k m e few answer work lent r answer' work' c =
        let result =
        set-answer name fs vs (cut s k m) (length answer) (length work) accepted
        (terms k m (le_trans (total-positive name fs vs accepted) e) few)
        lent (enough k m e) (known-annihilated k m) (powers k m).1 in (
          _,
          c.rating ∙ ap (λ x. map_result set_figures_told (figures_of x)) result,
          written-returns g (rated k m) answer answer'
              (monic-nonempty F (rated k m) (rated-minimal k m e).monic)
              (same_as_g (rated k m) k (rated-minimal k m e))
              (c.lent.answer_bytes ∙ ap (λ x. answer_after x answer) result),
        )

    -- what an answer with a power of f returns, where that power is minimal from some place on
    power-returns :
        (f : Polynomial) (r n k : ℕ)
        → MinimalPolynomial F (power F f r) (shifted s k)
        → (result : Result (Rated PowerFigures))
        → result ≡ answered (rating_of F f r n)
        → (told : Reply PowerRating) (answer work answer' work' : List ℕ)
        → told_power told ≡ figures_of result
        → LentAfter result answer work answer' work'
        → (a : PowerFigures) × (told_power told ≡ answered a) × Returns g a.degree answer'
    unfolding figures_of map_result answer_after
    power-returns f r n k x result e told answer work answer' work' c lent = (
      (rating_of F f r n).figures,
      c ∙ ap figures_of e,
      subst (λ d. Returns g d answer') (rating-degree F f r n)
          (written-returns g (power F f r) answer answer'
          (monic-nonempty F (power F f r) x.monic)
          (same_as_g (power F f r) k x)
          (lent.answer_bytes
          ∙ ap (λ y. answer_after y answer) e
          ∙ ap (λ h. written h answer) (rating-polynomial F f r n))),
    )

    -- THE PERIOD WAY
    period-way :
        (f : Polynomial)
        → fs ≡ f ∷ []
        → (k n : ℕ)
        → Period s n
        → n ≤ 4096
        → PeriodReturns name f (cut s k n) g
    period-way f e k n period few answer work lent told answer' work' c =
        let q = monic_multiple F f in
        let one : T (accepted_factors name (f ∷ []) vs) =
        subst (λ (gs : List Polynomial). T (accepted_factors name gs vs)) e accepted in
        let x = one-factor name f vs one in
        let t = terms k n period.positive few in
        let same : periodic (cut s k n) ≡ shifted s k =
        fun_ext (periodic-cut s k n period.positive period.repeats) in
        let v = get_or vs 0 0 in
        let whole : AnnihilatesEndless F (power F q v) s =
        subst (λ (h : Polynomial). AnnihilatesEndless F h s)
        (ap (λ (hs : List Polynomial). product F (named (map (monic_multiple F) hs) vs)) e
        ∙ ap (product F) (named-one (q ∷ []) vs refl)
        ∙ product-single I q v (monic-nonempty F q x.monic))
        annihilated in
        let least =
        least_power_exists I q (periodic (cut s k n)) v x.monic
        (subst (AnnihilatesEndless F (power F q v)) (sym same)
        (λ j. act_at-shift F (power F q v) s k j ∙ whole (k + j))) in
        let found =
        least-period_power I q x.monic x.positive x.irreducibility (cut s k n) t.at_least_one
        least.2 in
        let repeat = shortest_exists (cut s k n) t.at_least_one in
        power-returns q least.0 repeat.0 k
        (subst (MinimalPolynomial F (power F q least.0)) same
        (period_power-minimal I q x.monic x.positive x.irreducibility (cut s k n) t.at_least_one
        found))
        (rate_period name f (cut s k n) (length answer) (length work))
        (period-answer name f (cut s k n) (length answer) (length work) least.0 repeat.0 vs one t lent
        found repeat.1)
        told answer work answer' work' c.rating c.lent

    -- THE FREE WAY
    free-way : (k m : ℕ) → 2 * degree g ≤ m → 1 ≤ m → m ≤ 4096 → FreeReturns name (cut s k m) g
    unfolding rate_free figures_of map_result answer_after
    free-way k m twice least few answer work lent told answer' work' c =
        let result =
        in_field_lem name (λ F. free_in F (cut s k m) (length answer) (length work))
        (accepted-field name fs vs accepted)
        ∙ stretch-answer I (product F l) g s annihilated (product-elements I l) constant minimal k m twice
        (length answer) (length work)
        (accepts_free F (cut s k m) (length answer) (length work) (terms k m least few) lent) in (
          record { degree = degree g; unique = true },
          c.rating ∙ ap figures_of result,
          written-returns g g answer answer' (monic-nonempty F g minimal.monic) refl
              (c.lent.answer_bytes ∙ ap (λ y. answer_after y answer) result),
        )

pub cut_anywhere : CutAnywherePromise
cut_anywhere name fs vs s accepted noneX in_field annihilated =
    record {
      g = g name fs vs s accepted noneX in_field annihilated;
      minimal = minimal name fs vs s accepted noneX in_field annihilated;
      set-way =
          λ k m enough few.
          set-way name fs vs s accepted noneX in_field annihilated k m
          (total name fs vs s accepted noneX in_field annihilated m enough) few;
      period-way =
          λ f one k n repeats few.
          period-way name fs vs s accepted noneX in_field annihilated f one k n repeats few;
      free-way =
          λ k m twice terms few. free-way name fs vs s accepted noneX in_field annihilated k m twice terms
          few;
    }
