-- Demand 2: what the calls of the three ways return is right, from their contracts alone.
--
--   OneFactor        == what is known of a factor that 10, 11 and 12 let pass
--   …-answered       == an answer in a field, with its polynomial in the answer bytes, is right
--   …-none           == what 17 means in a field
--   …-promise        == the promise, of the field with the name that the call is given
-- Assumes nothing.
use Prim.Native.Nat.{ℕ, suc, ◌*◌, ◌≤◌, ◌<◌}
use native.Mathlib.Nat.{le_trans}
use native.Mathlib.Omega.{arith}
use mathlib.Core.Path.{◌≡◌, refl, sym, ap, subst, ◌∙◌}
use mathlib.Core.Bool.{true, false, not}
use mathlib.Core.List.{List, [], ◌∷◌, map}
use mathlib.Core.Option.{some, some-injective}
use lib.ListN.{length, get_or, take}
use lib.Seq.{take_at}
use lib.Dec.{T, T_not}
use Rattle.meaning.specs.Answers.{set_places}
use Rattle.meaning.specs.declared.FieldName.{FieldName}
use Rattle.meaning.specs.Search.{holds_for_some}
use Rattle.meaning.specs.Field.{Field, are_elements}
use Rattle.meaning.specs.Polynomial.{Polynomial, degree, is_monic_over, power, product, irreducible}
use Rattle.meaning.specs.Polynomial.{monic_multiple}
use Rattle.meaning.specs.Sequence.{periodic, annihilates_known, MinimalPolynomial}
use Rattle.meaning.specs.Result.{Check, Result, Rated, answered, refused, figures_of, map_result}
use Rattle.meaning.specs.Result.{answer_after}
use Rattle.meaning.specs.Result.{written}
use Rattle.meaning.specs.Conditions.{named, total_degree, factor_degree_out_of_range, not_monic}
use Rattle.meaning.specs.Conditions.{coefficient_out_of_range, is_reducible, two_equal}
use Rattle.meaning.specs.Repeat.{shortest_period}
use Rattle.meaning.specs.RepeatLength.{RepeatMeaning, repeat_length}
use Rattle.meaning.specs.Power.{PowerFigures}
use Rattle.meaning.specs.Period.{NoPower, period_power, period_table, period_answer, period_in, rate_period}
use Rattle.meaning.specs.Portion.{accepted_factors, factor_table, factors_of, least_at, onward, SetFigures}
use Rattle.meaning.specs.Portion.{set_powers, set_rating, set_table, set_answer, set_in, rate_set}
use Rattle.meaning.specs.Free.{FreeFigures, free_table, free_in, rate_free}
use Rattle.meaning.specs.Answers.{SetTold, told_set, set_figures_told, set_padded, padded}
use Rattle.meaning.proofs.Tables.{of_one, is_none_none}
use Rattle.meaning.proofs.Passes.{Passes, accepted-passes}
use Rattle.theorems.specs.Ratings.{GF, list_in, Returns, PeriodPromise, PeriodAnswered}
use Rattle.theorems.specs.Ratings.{SetPromise, SetAnswered, SingleAnswered}
use Rattle.theorems.specs.Ratings.{FreePromise, FreeAnswered, NoneBegins}
use Rattle.bridge.proofs.Basics.Searches.{settle_answered, settle_refused, map_answered, map_refused}
use Rattle.bridge.proofs.Basics.Searches.{in_answered, true-T, not-false, some-map_option}
use Rattle.bridge.proofs.Basics.Interpretation.{IsField}
use Rattle.bridge.proofs.Lists.Polynomials.{monic-nonempty}
use Rattle.bridge.proofs.Sequences.Minimal.{minimal-degree}
use Rattle.bridge.proofs.Lists.Products.{Nonempties, MonicFactors, length-named, power_at-named}
use Rattle.bridge.proofs.Lists.Products.{degree-power, degree-product, product-monic}
use Rattle.bridge.proofs.Lists.Products.{accepted-monic, factors_of-named, monics-nonempty, product-single}
use Rattle.bridge.proofs.Lists.Products.{total-one}
use Rattle.bridge.proofs.Lists.Irreducibles.{Factors, accepted-degree, accepted-irreducible, factors-monics}
use Rattle.bridge.proofs.Lists.Irreducibles.{multiples-factors, single-factor}
use Rattle.bridge.proofs.Lists.Multiples.{coefficients_lead, multiple-ten, multiple-eleven, multiples-ten}
use Rattle.bridge.proofs.Lists.Multiples.{multiples-eleven}
use Rattle.bridge.proofs.Binary.NamedFields.{named-is_field, accepted-is_field}
use Rattle.bridge.proofs.Ways.Portions.{set_powers-minimal, annihilated_agrees, nothing_continues}
use Rattle.bridge.proofs.Ways.Portions.{portion-least}
use Rattle.bridge.proofs.Ways.Portions.{onward_continues, onward-unique, least_at-upper}
use Rattle.bridge.proofs.Ways.Portions.{set_powers-places}
use Rattle.bridge.proofs.Ways.Periods.{period_power-least, period_power-minimal, period_power-none}
use Rattle.bridge.proofs.Ways.Periods.{period_power-size}
use Rattle.bridge.proofs.Ways.Fitting.{least_degree-least, least-bound, fits-only, is_unique-le, le-is_unique}
use Rattle.bridge.proofs.Ways.Fitting.{FirstFit, free-rated}
use Rattle.bridge.proofs.Sequences.Repeats.{shortest-least, shortest_exists}
use Rattle.bridge.proofs.Sequences.RepeatLengths.{minimal-constant, set-RepeatMeaning}
use Rattle.bridge.proofs.Ways.Accepted.{count-accepted, terms-accepted, enough-accepted, total-accepted}
use Rattle.bridge.proofs.Ways.Accepted.{rating_of, rated-power}
use Rattle.theorems.proofs.Names.{name-seventeen}

-- What a call returns, from the bytes that it leaves.
whole : (h : Polynomial) → 0 < length h → length h ≡ suc (degree h)
unfolding degree
whole h l = omega arith

pub written-returns :
    (g h : Polynomial) (answer answer' : List ℕ)
    → 0 < length h
    → h ≡ g
    → answer' ≡ written h answer
    → Returns g (degree h) answer'
unfolding written
written-returns g h answer answer' l e b =
    record {
      degree-told = ap degree e;
      coefficients = ap (take (suc (degree h))) b ∙ take_at h _ (suc (degree h)) (whole h l) ∙ e;
    }

-- ONE FACTOR of a field that 10, 11 and 12 let pass
pub record OneFactor (F : Field) (f : Polynomial) : Type 1 where
  pub is_field : IsField F
  pub monic : T (is_monic_over F f)
  pub positive : 1 ≤ degree f
  pub irreducibility : T (irreducible F f)

pub one-factor_of :
    {F : Field} (I : IsField F) (f : Polynomial)
    → factor_degree_out_of_range F f ≡ false
    → not_monic F f ≡ false
    → is_reducible F f ≡ false
    → OneFactor F f
one-factor_of {F} I f ten eleven twelve =
    let m = accepted-monic F f eleven in
    record {
      is_field = I;
      monic = m;
      positive = accepted-degree F f (monic-nonempty F f m) ten;
      irreducibility = accepted-irreducible F f ten eleven twelve;
    }

-- the monic multiple of a factor that 10 and 11 let pass, where 12 lets the multiple pass
pub multiple_of :
    {F : Field} (I : IsField F) (f : Polynomial)
    → factor_degree_out_of_range F f ≡ false
    → coefficient_out_of_range F f ≡ false
    → is_reducible F (monic_multiple F f) ≡ false
    → OneFactor F (monic_multiple F f)
multiple_of {F} I f ten eleven twelve =
    let leads = coefficients_lead F f eleven in
    one-factor_of I (monic_multiple F f) (multiple-ten I leads ∙ ten) (multiple-eleven I leads) twelve

pub one-factor :
    (name : FieldName) (f : Polynomial) (vs : List ℕ)
    → T (accepted_factors name (f ∷ []) vs)
    → OneFactor (GF name) (monic_multiple (GF name) f)
unfolding factor_table
one-factor name f vs h =
    let x = accepted-passes name (f ∷ []) vs h in
    multiple_of (accepted-is_field name (f ∷ []) vs h) f (of_one _ f x.degrees_in_range)
    (of_one _ f x.coefficients_in_range)
    (of_one _ (monic_multiple (GF name) f) x.irreducible)

-- the degree of a power
power_small :
    {F : Field} {f : Polynomial} (x : OneFactor F f) (r : ℕ)
    → r * degree f ≤ 4096
    → degree (power F f r) ≤ 4096
power_small {F} {f} x r few =
    subst (λ d. d ≤ 4096) (sym (degree-power x.is_field f r (monic-nonempty F f x.monic))) few

not-continued :
    (F : Field) (g : Polynomial) (ts : List ℕ) → not (annihilates_known F g ts) ≡ true → NoneBegins F g ts
not-continued F g ts h = nothing_continues F g ts (T_not (annihilates_known F g ts) (true-T h))

-- THE PERIOD WAY

-- the shortest period is what the repeat length of a portion says, and never 0
period_repeat :
    {F : Field} (I : IsField F) (g : Polynomial) (ts : List ℕ)
    → MinimalPolynomial F g (periodic ts)
    → 0 < length ts
    → length ts ≤ 4096
    → {n : ℕ}
    → shortest_period ts ≡ some n
    → RepeatMeaning g (periodic ts) n
period_repeat I g ts min l few {n} z =
    let y = shortest-least ts l z in
    let (m, q, u) = shortest_exists ts l in
    let same : m ≡ n = some-injective _ _ (sym q ∙ z) in
    record {
      exact = λ _. (y, omega arith);
      beyond = λ e. let k = y.period in absurd (omega (arith, k.positive));
      never = λ c. absurd (minimal-constant I g (periodic ts) min n y.period c);
    }

module _ {F : Field} (I : IsField F) (f : Polynomial) (ts : List ℕ) (size work : ℕ) where
  abbrev period_checks : List Check
  period_checks =
      period_table F (factor_degree_out_of_range F f) (coefficient_out_of_range F f) (monic_multiple F f) ts
      size work

  -- an answer with its polynomial in the answer bytes
  pub period_answered :
      (a : Rated PowerFigures) (answer answer' : List ℕ)
      → period_in F f ts size work ≡ answered a
      → answer' ≡ written a.polynomial answer
      → PeriodAnswered F (monic_multiple F f) ts a.figures answer'
  unfolding period_in period_answer period_table rating_of
  period_answered a answer answer' e lent =
      let g = monic_multiple F f in
      let (h, w) = settle_answered _ period_checks e in
      let x = multiple_of I f h.degrees_in_range h.coefficients_in_range h.irreducible in
      let (n, repeat, y, z, t) = rated-power F g ts (period_power F g ts) w in
      let count = count-accepted (length ts) h.count_in_range in
      let els = terms-accepted F ts h.terms_in_field in
      let min = period_power-minimal I g x.monic x.positive x.irreducibility ts count.0 y in
      let few = period_power-size I g x.monic x.positive x.irreducibility ts count.0 els y in
      let power = power F g n in
      let returns =
      written-returns power power answer answer' (monic-nonempty F power min.monic) refl
      (lent ∙ ap (λ (b : Rated PowerFigures). written b.polynomial answer) (sym t)) in
      subst (λ (b : Rated PowerFigures). PeriodAnswered F g ts b.figures answer') t
      (record {
        small = power_small x n (le_trans few count.1);
        least = period_power-least F g ts count.0 y;
        minimal = subst (λ h. MinimalPolynomial F h (periodic ts)) (sym returns.coefficients) min;
        returns = returns;
        repeat = shortest-least ts count.0 z;
        repeat_meaning =
            subst (λ h. RepeatMeaning h (periodic ts) repeat) (sym returns.coefficients)
            (period_repeat I power ts min count.0 count.1 z);
        repeat_positive = (shortest-least ts count.0 z).period.positive;
      })

  pub period-none : period_in F f ts size work ≡ refused 17 → NoPower F (monic_multiple F f) ts
  unfolding period_in period_answer period_table
  period-none e =
      let (h, z) = settle_refused _ period_checks (omega arith) e in
      let x = multiple_of I f h.degrees_in_range h.coefficients_in_range h.irreducible in
      let count = count-accepted (length ts) h.count_in_range in
      period_power-none I (monic_multiple F f) x.monic x.positive x.irreducibility ts count.0
      (is_none_none (true-T z))

pub period_promise : PeriodPromise
unfolding rate_period figures_of answer_after
period_promise name f ts answer work r answer' work' c =
    record {
      rated =
          λ a e.
          let (b, q, v) = map_answered (λ x. x.figures) result (sym c.rating ∙ e) in
          let (exists, w) = in_answered name way q in
          subst (λ a. PeriodAnswered (GF name) (monic_multiple (GF name) f) ts a answer') v
          (period_answered (named-is_field name exists) f ts (length answer) (length work) b answer answer' w
          (c.lent.answer_bytes ∙ ap (λ y. answer_after y answer) q));
      seventeen =
          λ e.
          let (exists, w) =
          name-seventeen name way (map_refused (λ x. x.figures) result (sym c.rating ∙ e)) in
          period-none (named-is_field name exists) f ts (length answer) (length work) w;
    }
  where
    way : Field → Result (Rated PowerFigures)
    way F = period_in F f ts (length answer) (length work)

    result : Result (Rated PowerFigures)
    result = rate_period name f ts (length answer) (length work)

-- THE SET WAY
-- a single factor, the monic multiple of one that 10 and 11 let pass
only : (gs : List Polynomial) (vs : List ℕ) {f : Polynomial} {v : ℕ} → named gs vs ≡ (f, v) ∷ [] → gs ≡ f ∷ []
unfolding factors_of
only gs vs e = sym (factors_of-named gs vs) ∙ ap factors_of e

single_of :
    {F : Field} (I : IsField F) (fs : List Polynomial) (vs : List ℕ) {f : Polynomial} {v : ℕ}
    → let l = named (map (monic_multiple F) fs) vs in
    l ≡ (f, v) ∷ []
    → holds_for_some (factor_degree_out_of_range F) fs ≡ false
    → holds_for_some (coefficient_out_of_range F) fs ≡ false
    → holds_for_some (is_reducible F) (factors_of l) ≡ false
    → OneFactor F f
unfolding factors_of
single_of {F} I fs vs {f} e ten eleven twelve =
    let same = only (map (monic_multiple F) fs) vs e in
    one-factor_of I f
    (of_one _ f (ap (holds_for_some (factor_degree_out_of_range F)) (sym same) ∙ multiples-ten I fs eleven
    ten))
    (of_one _ f (ap (holds_for_some (not_monic F)) (sym same) ∙ multiples-eleven I fs eleven))
    (of_one _ f (ap (λ l. holds_for_some (is_reducible F) (factors_of l)) (sym e) ∙ twelve))

-- one power is found for it
module _ (F : Field) (f : Polynomial) (v : ℕ) (ts : List ℕ) (x : OneFactor F f) where
  abbrev one : List (Polynomial × ℕ)
  one = (f, v) ∷ []

  one-monics : MonicFactors F one
  unfolding factors_of
  one-monics =
      factors-monics x.is_field one (single-factor F f x.monic x.positive x.irreducibility)

  one-nonempties : Nonempties one
  one-nonempties = monics-nonempty F one one-monics

  single_answered :
      (rs : List ℕ) (a : SetTold) (answer' : List ℕ)
      → T (are_elements F ts)
      → total_degree ((f, v) ∷ []) ≤ length ts
      → set_powers F ((f, v) ∷ []) ts ≡ some rs
      → Returns (product F (named (f ∷ []) rs)) a.degree answer'
      → (r : ℕ) × (rs ≡ r ∷ []) × SingleAnswered F f v ts r a answer'
  unfolding named
  single_answered [] a answer' els enough e back =
      absurd (omega (arith, (set_powers-places x.is_field one one-nonempties ts e).0))
  single_answered (r ∷ q ∷ rs) a answer' els enough e back =
      absurd (omega (arith, (set_powers-places x.is_field one one-nonempties ts e).0))
  single_answered (r ∷ []) a answer' els enough e back =
      let y : least_at F one ts 0 ≡ some r =
      (set_powers-places x.is_field one one-nonempties ts e).1 0 (omega arith) in
      let size : v * degree f ≤ length ts = subst (λ d. d ≤ length ts) (total-one f v) enough in
      let upper : r ≤ v = least_at-upper x.is_field one one-nonempties ts 0 y in (
        r,
        refl,
        record {
          at_most = upper;
          least = portion-least x.is_field f x.monic v ts els size y;
          returns =
              subst (λ g. Returns g a.degree answer')
              (product-single x.is_field f r (monic-nonempty F f x.monic)) back;
        },
      )

module _ {F : Field} (I : IsField F) (fs : List Polynomial) (vs ts : List ℕ) (size work : ℕ) where
  abbrev gs : List Polynomial
  gs = map (monic_multiple F) fs

  abbrev l : List (Polynomial × ℕ)
  l = named gs vs

  abbrev set_checks : List Check
  set_checks =
      set_table F (holds_for_some (factor_degree_out_of_range F) fs)
      (holds_for_some (coefficient_out_of_range F) fs) l ts
      size work

  set-factors : Passes set_checks → Factors F (factors_of l)
  unfolding set_table
  set-factors h =
      let same = factors_of-named gs vs in
      subst (Factors F) (sym same)
      (multiples-factors I fs h.degrees_in_range h.coefficients_in_range
      (ap (holds_for_some (is_reducible F)) (sym same) ∙ h.irreducible)
      (ap two_equal (sym same) ∙ h.different))

  pub set-nonempties : Passes set_checks → Nonempties l
  set-nonempties h = monics-nonempty F l (factors-monics I l (set-factors h))

  -- the answer with the powers rs, its polynomial in the answer bytes
  set-powers :
      (rs eight answer answer' : List ℕ)
      → Passes set_checks
      → set_powers F l ts ≡ some rs
      → answer' ≡ written (set_rating F l ts rs).polynomial answer
      → eight ≡ padded (set_rating F l ts rs).figures.powers
      → SetAnswered F gs vs ts (set_figures_told (set_rating F l ts rs).figures) eight answer'
  unfolding set_table set_rating set_figures_told
  set-powers rs eight answer answer' h y lent places =
      let factors = set-factors h in
      let els = terms-accepted F ts h.terms_in_field in
      let enough = enough-accepted (total_degree l) ts h.enough_terms in
      let meaning = set_powers-minimal I l factors ts els enough y in
      let monics = factors-monics I l factors in
      let nonempties = monics-nonempty F l monics in
      let one = onward_continues I l monics ts els enough in
      let g = product F (named (factors_of l) rs) in
      let same = ap (λ (hs : List Polynomial). product F (named hs rs)) (factors_of-named gs vs) in
      let returns =
      written-returns (product F (named gs rs)) g answer answer'
      (monic-nonempty F g meaning.minimal.monic) same lent in
      let list : g ≡ list_in answer' (degree g) = same ∙ sym returns.coefficients in
      record {
        powers = rs;
        count_told = refl;
        places = places;
        small =
            le_trans
            (minimal-degree I g (onward F l ts) meaning.minimal (product F l) (product-monic I l monics)
            one.annihilated)
            (subst (λ d. d ≤ 4096) (sym (degree-product I l nonempties))
            (total-accepted l h.uppers_in_range));
        continuation = record { continues = one; only = onward-unique I l monics ts els enough };
        at_most =
            λ i k.
            let found = (set_powers-places I l nonempties ts y).1 i (omega (arith, length-named gs vs)) in
            subst (λ v. get_or rs i 0 ≤ v) (power_at-named gs vs i k)
            (least_at-upper I l nonempties ts i found);
        agrees =
            annihilated_agrees I l monics ts els enough
            (not-false (annihilates_known F (product F l) ts) h.annihilated);
        meaning = meaning;
        minimal = subst (λ h. MinimalPolynomial F h (onward F l ts)) list meaning.minimal;
        returns = returns;
        repeat =
            subst (λ h. RepeatMeaning h (onward F l ts) (repeat_length g (onward F l ts))) list
            (set-RepeatMeaning I l factors ts els enough y);
        single =
            λ f v one.
            single_answered F f v ts
            (single_of I fs vs one h.degrees_in_range h.coefficients_in_range h.irreducible)
            rs (set_figures_told (set_rating F l ts rs).figures) answer' els
            (subst (λ (m : List (Polynomial × ℕ)). total_degree m ≤ length ts) one enough)
            (ap (λ (m : List (Polynomial × ℕ)). set_powers F m ts) (sym one) ∙ y)
            (subst (λ (hs : List Polynomial). Returns (product F (named hs rs)) (degree g) answer')
            (only gs vs one) returns);
      }

  pub set_answered :
      (a : Rated SetFigures) (eight answer answer' : List ℕ)
      → set_in F fs vs ts size work ≡ answered a
      → answer' ≡ written a.polynomial answer
      → eight ≡ padded a.figures.powers
      → SetAnswered F gs vs ts (set_figures_told a.figures) eight answer'
  unfolding set_in set_answer
  set_answered a eight answer answer' e lent places =
      let (h, w) = settle_answered _ set_checks e in
      let (rs, y, t) = some-map_option (set_rating F l ts) (set_powers F l ts) w in
      subst (λ b. SetAnswered F gs vs ts (set_figures_told b.figures) eight answer') t
      (set-powers rs eight answer answer' h y
      (lent ∙ ap (λ (b : Rated SetFigures). written b.polynomial answer) (sym t))
      (places ∙ ap (λ (b : Rated SetFigures). padded b.figures.powers) (sym t)))

  pub set-none : set_in F fs vs ts size work ≡ refused 17 → NoneBegins F (product F l) ts
  unfolding set_in set_answer set_table
  set-none e =
      let (_, z) = settle_refused _ set_checks (omega arith) e in
      not-continued F (product F l) ts z

  single-none :
      (f : Polynomial) (v : ℕ)
      → l ≡ (f, v) ∷ []
      → set_in F fs vs ts size work ≡ refused 17
      → NoneBegins F (power F f v) ts
  unfolding set_in set_answer set_table
  single-none f v one e =
      let (h, _) = settle_refused _ set_checks (omega arith) e in
      let x = single_of I fs vs one h.degrees_in_range h.coefficients_in_range h.irreducible in
      subst (λ g. NoneBegins F g ts)
      (ap (product F) one ∙ product-single I f v (monic-nonempty F f x.monic))
      (set-none e)

pub set_promise : SetPromise
unfolding rate_set figures_of map_result answer_after set_padded
set_promise name fs vs ts answer work r answer' work' c =
    record {
      rated =
          λ a e.
          let (b', q', u') = map_answered set_figures_told (figures_of result) (sym c.rating ∙ e) in
          let (b, q, u) = map_answered (λ x. x.figures) result q' in
          let (exists, w) = in_answered name way q in
          subst (λ a. SetAnswered (GF name) (map (monic_multiple (GF name)) fs) vs ts a
          (set_places r) answer')
          (ap set_figures_told u ∙ u')
          (set_answered (named-is_field name exists) fs vs ts (length answer) (length work) b (set_places r)
          answer answer' w (c.lent.answer_bytes ∙ ap (λ x. answer_after x answer) q)
          (c.powers ∙ ap (λ x. set_padded (figures_of x)) q));
      seventeen =
          λ e.
          let (exists, w) = name-seventeen name way (refused_by-17 e) in
          set-none (named-is_field name exists) fs vs ts (length answer) (length work) w;
      single_seventeen =
          λ f v one e.
          let (exists, w) = name-seventeen name way (refused_by-17 e) in
          single-none (named-is_field name exists) fs vs ts (length answer) (length work) f v one w;
    }
  where
    way : Field → Result (Rated SetFigures)
    way F = set_in F fs vs ts (length answer) (length work)

    result : Result (Rated SetFigures)
    result = rate_set name fs vs ts (length answer) (length work)

    refused_by-17 : told_set r ≡ refused 17 → result ≡ refused 17
    refused_by-17 e =
        map_refused (λ x. x.figures) result
        (map_refused set_figures_told (figures_of result) (sym c.rating ∙ e))

-- THE FREE WAY
pub free_answered :
    {F : Field} (I : IsField F) (ts : List ℕ) (size work : ℕ) (a : Rated FreeFigures)
    (answer answer' : List ℕ)
    → free_in F ts size work ≡ answered a
    → answer' ≡ written a.polynomial answer
    → FreeAnswered F ts a.figures answer'
unfolding free_table
free_answered {F} I ts size work a answer answer' e lent =
    let (h, y, s, x) = free-rated I ts size work e in
    let L = a.figures.degree in
    let g = a.polynomial in
    let least = least_degree-least I y in
    let back : list_in answer' L ≡ g =
    subst (λ d. list_in answer' d ≡ g) x.fits.of_degree
    (written-returns g g answer answer' (monic-nonempty F g x.fits.monic) refl lent).coefficients in
    let first : FirstFit F ts L (list_in answer' L) = subst (FirstFit F ts L) (sym back) x in
    record {
      small = le_trans (least-bound I least) (count-accepted (length ts) h.count_in_range).1;
      least = least;
      fits = first.fits;
      word = (λ o. is_unique-le ts L (sym s ∙ o), λ l. s ∙ le-is_unique ts L l);
      only = λ o k z. fits-only I least (is_unique-le ts L (sym s ∙ o)) z first.fits;
      first = first.first;
    }

pub free_promise : FreePromise
unfolding rate_free figures_of answer_after
free_promise name ts answer work r answer' work' c a e =
    let (b, q, u) =
    map_answered (λ x. x.figures) (rate_free name ts (length answer) (length work)) (sym c.rating ∙ e) in
    let (exists, w) = in_answered name (λ F. free_in F ts (length answer) (length work)) q in
    subst (λ a. FreeAnswered (GF name) ts a answer') u
    (free_answered (named-is_field name exists) ts (length answer) (length work) b answer answer' w
    (c.lent.answer_bytes ∙ ap (λ x. answer_after x answer) q))
