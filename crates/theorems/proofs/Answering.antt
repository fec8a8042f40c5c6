-- Demand 1 for the calls on numbers and slices, from their contracts alone.
--
--   …-tells, …-decides, …-sized == in a field: the definition answers, or refuses by a number of its table;
--                       its conditions decide; its polynomial and its lent bytes have their sizes
--   …-told, …-decided, …-room == the same of the call, which is given the name of a field
--   …-listed, …-keeping == the numbers of the call are those of refusals; none is 0, and each but 17 leaves
--                       the work bytes as they were
--   …-answers        == the promise
-- Assumes nothing.
use Prim.Native.Nat.{ℕ, ◌-◌, ◌≤◌, ◌<◌}
use native.Mathlib.Omega.{arith}
use mathlib.Core.Path.{◌≡◌, refl, sym, ap, subst, ◌∙◌}
use mathlib.Core.Logic.{◌⊎◌, ◌↔◌, inl, inr}
use mathlib.Core.Bool.{Bool, true, false, true≢false}
use mathlib.Core.List.{List, [], map}
use mathlib.Core.Option.{Option, none, some, some-injective}
use lib.ListN.{length, take, length-append}
use lib.Seq.{length-take-le}
use lib.Dec.{ltb, T_not, not_T}
use borrow.Author.Tests.{ltb-false}
use Rattle.meaning.specs.Answers.{Reply, told, set_places, free_figures_of}
use Rattle.std.specs.Prelude.{Ok, Err}
use Rattle.meaning.specs.declared.FieldName.{FieldName}
use Rattle.meaning.specs.declared.PowerRating.{PowerRating}
use Rattle.meaning.specs.declared.SetRating.{SetRating}
use Rattle.meaning.specs.declared.FreeRating.{FreeRating}
use Rattle.meaning.specs.Search.{holds_for_all, holds_for_some, is_none, bind, map_option}
use Rattle.meaning.specs.Field.{Field, prime_in_range}
use Rattle.meaning.specs.Polynomial.{Polynomial, monic_multiple, product}
use Rattle.meaning.specs.Sequence.{cut, continuation, annihilates_known}
use Rattle.meaning.specs.Result.{Check, Result, Rated, answered, refused, figures_of, map_result}
use Rattle.meaning.specs.Result.{answer_after}
use Rattle.meaning.specs.Result.{work_after, written}
use Rattle.meaning.specs.Conditions.{named, factor_degree_out_of_range, coefficient_out_of_range}
use Rattle.meaning.specs.Conditions.{is_reducible}
use Rattle.meaning.specs.Conditions.{place_out_of_range, count_out_of_range}
use Rattle.meaning.specs.Power.{PowerFigures, power_rating}
use Rattle.meaning.specs.Period.{NoPower, period_power, period_table, period_answer, period_in, rate_period}
use Rattle.meaning.specs.Portion.{SetFigures, set_powers, set_rating, set_table, set_answer, set_in, rate_set}
use Rattle.meaning.specs.Free.{FreeFigures, least_degree, free_rating, free_table, free_in, rate_free}
use Rattle.meaning.specs.Continuation.{continue_table, filled, continue_in, continue_sequence}
use Rattle.meaning.specs.Irreducibility.{irreducible_table, irreducible_in, ask_irreducible}
use Rattle.meaning.specs.Answers.{set_figures_told, set_padded, padded, told_power, told_set, told_free}
use Rattle.meaning.specs.Answers.{told_filling, told_irreducible}
use Rattle.meaning.specs.Calls.{PeriodCall, SetCall, FreeCall, buffer_after}
use Rattle.meaning.proofs.Determined.{refusals, refusal_of}
use Rattle.meaning.proofs.Determined.{period_call_determined, set_call_determined}
use Rattle.meaning.proofs.Determined.{free_call_determined, continue_call_determined}
use Rattle.meaning.proofs.Determined.{irreducible_call_determined}
use Rattle.meaning.proofs.Tables.{is_none_none}
use Rattle.meaning.proofs.Passes.{Passes}
use Rattle.meaning.specs.Route.{look_up}
use Rattle.bridge.proofs.Basics.Searches.{settle_refused, settle_answered, bind-some, map_option-some}
use Rattle.bridge.proofs.Basics.Searches.{in_answered, map_refused, or-false, true-T, T_true}
use Rattle.bridge.proofs.Ways.Accepted.{lent-enough}
use Rattle.bridge.proofs.Basics.Interpretation.{IsField}
use Rattle.bridge.proofs.Lists.Polynomials.{monic-nonempty}
use Rattle.bridge.proofs.Lists.Products.{Nonempties}
use Rattle.bridge.proofs.Sequences.Actions.{length_cut}
use Rattle.bridge.proofs.Lists.Multiples.{coefficients_lead, multiple-monic}
use Rattle.bridge.proofs.Ways.Periods.{period_power-none, none-period_power}
use Rattle.bridge.proofs.Ways.Portions.{set_powers_exists}
use Rattle.bridge.proofs.Ways.Fitting.{least_degree-some, least_degree-least, polynomial-some}
use Rattle.bridge.proofs.Sequences.Repeats.{shortest_exists}
use Rattle.bridge.proofs.Ways.Accepted.{count-accepted, rating_of, power-rated}
use Rattle.bridge.proofs.Files.FileRatings.{period-size, set-size, free-size}
use Rattle.theorems.specs.Ratings.{GF}
use Rattle.theorems.specs.Answering.{period_numbers, set_numbers, free_numbers}
use Rattle.theorems.specs.Answering.{continue_numbers, irreducible_numbers, Answered, Tells}
use Rattle.theorems.specs.Answering.{PeriodAnswers, SetAnswers, FreeAnswers}
use Rattle.theorems.specs.Answering.{ContinueAnswers, IrreducibleAnswers, PrimeAnswers}
use Rattle.theorems.specs.Answering.{Decided, period_conditions, set_conditions, free_conditions}
use Rattle.theorems.specs.Answering.{continue_conditions, irreducible_conditions, under_name}
use Rattle.theorems.specs.Answering.{list_conditions, lists_conditions, terms_conditions}
use Rattle.theorems.proofs.Deciding.{map-decided, settle-decided, tested, then, meant, done}
use Rattle.theorems.proofs.Telling.{numbers_of, settle_tells, map_tells, Keeping, keeping, is_listed}
use Rattle.theorems.proofs.Telling.{Listed, listed, meets, Sized, lent-after, rating_answers}
use Rattle.theorems.proofs.Names.{name-listed, name-keeping, name-decided, name_tells, name_sized}
use Rattle.theorems.proofs.Ways.{OneFactor, multiple_of, set-nonempties}
use Rattle.theorems.proofs.Ways.{period_answered, set_answered, free_answered}

-- where the answer tells the figures themselves
pub figures_themselves : {A : Type 0} (x : Result A) → x ≡ map_result (λ a. a) x
unfolding map_result
figures_themselves (refused n) = refl
figures_themselves (answered a) = refl

pub present : {A : Type 0} (o : Option A) → is_none o ≡ false → (a : A) × (o ≡ some a)
unfolding is_none
present none e = absurd (true≢false e)
present (some a) e = (a, refl)

-- there is a repeat length wherever there are terms
power-value :
    (F : Field) (f : Polynomial) (ts : List ℕ) (o : Option ℕ)
    → 0 < length ts
    → (r : ℕ) × (o ≡ some r)
    → (a : Rated PowerFigures) × (bind o (power_rating F f ts) ≡ some a)
power-value F f ts o l (r, e) =
    let (n, q, _) = shortest_exists ts l in
    (rating_of F f r n, bind-some (power_rating F f ts) e ∙ power-rated F f ts r n q)

power-meets :
    (numbers : List ℕ)
    → Listed numbers
    → (x : Result (Rated PowerFigures))
    → Tells numbers x
    → (r : Reply PowerRating) × (told_power r ≡ figures_of x)
unfolding told_power told figures_of
power-meets numbers numbered x t =
    meets told_power (λ a. Ok (record { power = a.power; degree = a.degree; repeat = a.repeat })) Err
    (λ a. refl) (λ z. refl) numbers numbered (figures_of x) (map_tells numbers (λ a. a.figures) x refl t)

-- THE PERIOD WAY
pub period-listed : (name : FieldName) → Listed (period_numbers name)
unfolding is_listed refusal_of refusals look_up holds_for_all is_none
period-listed name = name-listed name _ (listed _ tt)

pub period-keeping : (name : FieldName) → Keeping (period_numbers name)
unfolding holds_for_all
period-keeping name = name-keeping name _ (keeping _ tt)

module _ (F : Field) (ten eleven : Bool) (f : Polynomial) (ts : List ℕ) (answer work : ℕ) where
  abbrev period_checks : List Check
  period_checks = period_table F ten eleven f ts answer work

  abbrev period_settled : Result (Rated PowerFigures)
  period_settled = period_answer F ten eleven f ts answer work

  -- the value where nothing turns it down
  period-value :
      Passes period_checks
      → (a : Rated PowerFigures) × (bind (period_power F f ts) (power_rating F f ts) ≡ some a)
  unfolding period_table
  period-value h =
      power-value F f ts (period_power F f ts) (count-accepted (length ts) h.count_in_range).0
      (present (period_power F f ts) h.annihilated)

  pub period_tells : Tells (numbers_of period_checks) period_settled
  unfolding period_answer
  period_tells = settle_tells _ period_checks period-value

  -- 17: no power is found exactly if none annihilates the period
  period-seventeen :
      OneFactor F f → 0 < length ts → (is_none (period_power F f ts) ≡ true) ↔ NoPower F f ts
  unfolding is_none
  period-seventeen x l = (
    λ e.
        period_power-none x.is_field f x.monic x.positive x.irreducibility ts l
        (is_none_none (true-T e)),
    λ h. ap is_none (none-period_power F f ts l h),
  )

  pub period_decides :
      (ten ≡ false → eleven ≡ false → is_reducible F f ≡ false → OneFactor F f)
      → Decided (period_conditions F ten eleven f ts answer work) period_settled
  unfolding period_answer period_table
  period_decides factor =
      settle-decided _ period_checks (period_conditions F ten eleven f ts answer work)
      (tested
      (λ seven.
      then
      (tested
      (λ none-ten.
      tested
      (λ none-eleven.
      tested
      (λ twelve.
      let l = (count-accepted (length ts) seven).0 in
      let (says, holds) = period-seventeen (factor none-ten none-eleven twelve) l in
      then (meant says holds (λ _. done))))))))
      period-value

  pub period-lent :
      Answered period_settled ⊎ (period_settled ≡ refused 17) → (4097 ≤ answer) × (8192 ≤ work)
  unfolding period_answer period_table
  period-lent (inl (a, e)) = lent-enough answer work (settle_answered _ period_checks e).0.lent_enough
  period-lent (inr e) =
      lent-enough answer work (settle_refused _ period_checks (omega arith) e).0.lent_enough

-- the monic multiple of a polynomial that 11 lets pass is not empty
multiple-nonempty :
    {F : Field} (I : IsField F) (f : Polynomial)
    → coefficient_out_of_range F f ≡ false
    → 0 < length (monic_multiple F f)
multiple-nonempty {F} I f eleven =
    monic-nonempty F (monic_multiple F f) (multiple-monic I (coefficients_lead F f eleven))

period_sized :
    {F : Field} (I : IsField F) (f : Polynomial) (ts : List ℕ) (answer work : ℕ)
    → Sized (λ a. a.degree) (period_in F f ts answer work) answer work
unfolding period_in period_answer period_table
period_sized {F} I f ts answer work =
    let ten = factor_degree_out_of_range F f in
    let eleven = coefficient_out_of_range F f in
    let g = monic_multiple F f in
    record {
      polynomial =
          λ a e.
          let (h, _) = settle_answered _ (period_table F ten eleven g ts answer work) e in
          period-size I ten eleven g ts answer work (multiple-nonempty I f h.coefficients_in_range) e;
      small = λ a e. (period_answered I f ts answer work a [] (written a.polynomial []) e refl).small;
      lent = period-lent F ten eleven g ts answer work;
    }

module _ (name : FieldName) (f : Polynomial) (ts : List ℕ) (answer work : ℕ) where
  pub period-told : Tells (period_numbers name) (rate_period name f ts answer work)
  unfolding rate_period period_in period_table
  period-told =
      name_tells name (λ F. period_in F f ts answer work) _ (λ _. period_tells _ _ _ _ ts answer work)

  period-decided : Decided (list_conditions name f ts answer work) (rate_period name f ts answer work)
  unfolding rate_period period_in
  period-decided =
      name-decided name (λ F. period_in F f ts answer work) _
      (λ I. period_decides _ _ _ _ ts answer work (multiple_of I f))

module _ (name : FieldName) (f : Polynomial) (ts answer work : List ℕ) where
  abbrev period_result : Result (Rated PowerFigures)
  period_result = rate_period name f ts (length answer) (length work)

  period-some :
      (r : Reply PowerRating)
      × (answer' : List ℕ)
      × (work' : List ℕ)
      × PeriodCall name f ts answer work r answer' work'
  period-some =
      let (r, e) =
      power-meets (period_numbers name) (period-listed name) period_result
      (period-told name f ts (length answer) (length work)) in (
        r,
        answer_after period_result answer,
        work_after period_result work,
        record { rating = e; lent = lent-after period_result answer work },
      )

  period-room : Sized (λ a. a.degree) period_result (length answer) (length work)
  unfolding rate_period
  period-room =
      name_sized name (λ F. period_in F f ts (length answer) (length work)) (λ a. a.degree) (length answer)
      (length work) (λ I. period_sized I f ts (length answer) (length work))

pub period_answers : PeriodAnswers
period_answers name f ts answer work =
    record {
      each =
          λ r answer' work' c.
          rating_answers (period_numbers name) (list_conditions name f ts (length answer) (length work))
          (λ a. a.degree) (λ a. a) (period_result name f ts answer work) (told_power r) answer work answer'
          work' (c.rating ∙ figures_themselves _) (period-keeping name)
          (period-told name f ts (length answer) (length work))
          (period-decided name f ts (length answer) (length work)) (period-room name f ts answer work)
          c.lent;
      some = period-some name f ts answer work;
      one = λ r s _ _ _ _ c d. period_call_determined c d;
    }

-- THE SET WAY
pub set-listed : (name : FieldName) → Listed (set_numbers name)
unfolding is_listed refusal_of refusals look_up holds_for_all is_none
set-listed name = name-listed name _ (listed _ tt)

pub set-keeping : (name : FieldName) → Keeping (set_numbers name)
unfolding holds_for_all
set-keeping name = name-keeping name _ (keeping _ tt)

module _ {F : Field} (I : IsField F) (ten eleven : Bool) (l : List (Polynomial × ℕ)) (ts : List ℕ)
    (answer work : ℕ)
  where
    abbrev set_checks : List Check
    set_checks = set_table F ten eleven l ts answer work

    abbrev set_settled : Result (Rated SetFigures)
    set_settled = set_answer F ten eleven l ts answer work

    set_value :
        (Passes set_checks → Nonempties l)
        → Passes set_checks
        → (a : Rated SetFigures) × (map_option (set_rating F l ts) (set_powers F l ts) ≡ some a)
    set_value nonempties h =
        let (rs, e) = set_powers_exists I l (nonempties h) ts in
        (set_rating F l ts rs, map_option-some (set_rating F l ts) e)

    pub set_tells : (Passes set_checks → Nonempties l) → Tells (numbers_of set_checks) set_settled
    unfolding set_answer
    set_tells nonempties = settle_tells _ set_checks (set_value nonempties)

    pub set_decides :
        (Passes set_checks → Nonempties l)
        → Decided (set_conditions F ten eleven l ts answer work) set_settled
    unfolding set_answer set_table
    set_decides nonempties =
        let kills = annihilates_known F (product F l) ts in
        let seventeen = meant (λ e. T_not kills (true-T e)) (λ h. T_true (not_T kills h)) (λ _. done) in
        settle-decided _ set_checks (set_conditions F ten eleven l ts answer work)
        (then (then (then (then (then (then (then (then (then (then seventeen))))))))))
        (set_value nonempties)

    pub set-lent : Answered set_settled ⊎ (set_settled ≡ refused 17) → (4097 ≤ answer) × (8192 ≤ work)
    unfolding set_answer set_table
    set-lent (inl (a, e)) = lent-enough answer work (settle_answered _ set_checks e).0.lent_enough
    set-lent (inr e) = lent-enough answer work (settle_refused _ set_checks (omega arith) e).0.lent_enough

set_sized :
    {F : Field} (I : IsField F) (fs : List Polynomial) (vs ts : List ℕ) (answer work : ℕ)
    → Sized (λ a. (set_figures_told a).degree) (set_in F fs vs ts answer work) answer work
unfolding set_in set_answer set_figures_told
set_sized {F} I fs vs ts answer work =
    let ten = holds_for_some (factor_degree_out_of_range F) fs in
    let eleven = holds_for_some (coefficient_out_of_range F) fs in
    let l = named (map (monic_multiple F) fs) vs in
    record {
      polynomial =
          λ a e.
          let (h, _) = settle_answered _ (set_table F ten eleven l ts answer work) e in
          set-size I ten eleven l ts answer work (set-nonempties I fs vs ts answer work h) e;
      small =
          λ a e.
          (set_answered I fs vs ts answer work a (padded a.figures.powers) [] (written a.polynomial [])
          e refl refl).small;
      lent = set-lent I ten eleven l ts answer work;
    }

module _ (name : FieldName) (fs : List Polynomial) (vs ts : List ℕ) (answer work : ℕ) where
  pub set_told : Tells (set_numbers name) (rate_set name fs vs ts answer work)
  unfolding rate_set set_in set_table
  set_told =
      name_tells name (λ F. set_in F fs vs ts answer work) _
      (λ I. set_tells I _ _ _ ts answer work (set-nonempties I fs vs ts answer work))

  set_decided : Decided (lists_conditions name fs vs ts answer work) (rate_set name fs vs ts answer work)
  unfolding rate_set set_in
  set_decided =
      name-decided name (λ F. set_in F fs vs ts answer work) _
      (λ I. set_decides I _ _ _ ts answer work (set-nonempties I fs vs ts answer work))

module _ (name : FieldName) (fs : List Polynomial) (vs ts answer work : List ℕ) where
  abbrev set_result : Result (Rated SetFigures)
  set_result = rate_set name fs vs ts (length answer) (length work)

  -- what a set tells is told by some answer
  set-meets :
      (x : Result SetFigures)
      → Tells (set_numbers name) x
      → (r : Reply SetRating) × (told_set r ≡ map_result set_figures_told x) × (set_places r ≡ set_padded x)
  unfolding told_set told map_result set_figures_told set_places set_padded
  set-meets x (inl (a, e)) = (
    Ok
        (record {
          degree = a.degree;
          repeat = a.repeat;
          count = length a.powers;
          powers = padded a.powers;
        }),
    sym (ap (map_result set_figures_told) e),
    sym (ap set_padded e),
  )
  set-meets x (inr (n, e, h)) =
      let (z, q) = set-listed name n h in (
        Err z,
        ap refused q ∙ sym (ap (map_result set_figures_told) e),
        sym (ap set_padded e),
      )

  set-some :
      (r : Reply SetRating)
      × (answer' : List ℕ)
      × (work' : List ℕ)
      × SetCall name fs vs ts answer work r answer' work'
  unfolding figures_of
  set-some =
      let (r, e, f) =
      set-meets (figures_of set_result)
      (map_tells (set_numbers name) (λ a. a.figures) set_result refl
      (set_told name fs vs ts (length answer) (length work))) in (
        r,
        answer_after set_result answer,
        work_after set_result work,
        record { rating = e; powers = f; lent = lent-after set_result answer work },
      )

  set_room : Sized (λ a. (set_figures_told a).degree) set_result (length answer) (length work)
  unfolding rate_set
  set_room =
      name_sized name (λ F. set_in F fs vs ts (length answer) (length work))
      (λ a. (set_figures_told a).degree)
      (length answer) (length work) (λ I. set_sized I fs vs ts (length answer) (length work))

pub set_answers : SetAnswers
set_answers name fs vs ts answer work =
    record {
      each =
          λ r answer' work' c.
          rating_answers (set_numbers name) (lists_conditions name fs vs ts (length answer) (length work))
          (λ a. a.degree) set_figures_told (set_result name fs vs ts answer work) (told_set r) answer
          work answer' work' c.rating (set-keeping name)
          (set_told name fs vs ts (length answer) (length work))
          (set_decided name fs vs ts (length answer) (length work)) (set_room name fs vs ts answer work)
          c.lent;
      some = set-some name fs vs ts answer work;
      one = λ r s _ _ _ _ c d. set_call_determined c d;
    }

-- THE FREE WAY
pub free-listed : (name : FieldName) → Listed (free_numbers name)
unfolding is_listed refusal_of refusals look_up holds_for_all is_none
free-listed name = name-listed name _ (listed _ tt)

pub free-keeping : (name : FieldName) → Keeping (free_numbers name)
unfolding holds_for_all
free-keeping name = name-keeping name _ (keeping _ tt)

module _ {F : Field} (I : IsField F) (ts : List ℕ) (answer work : ℕ) where
  abbrev free_checks : List Check
  free_checks = free_table F ts answer work

  abbrev free_settled : Result (Rated FreeFigures)
  free_settled = free_in F ts answer work

  free-value : (a : Rated FreeFigures) × (bind (least_degree F ts) (free_rating F ts) ≡ some a)
  unfolding free_rating
  free-value =
      let (L, e) = least_degree-some I ts in
      let (g, q) = polynomial-some I (least_degree-least I e).fits in
      (_, bind-some (free_rating F ts) e ∙ map_option-some _ q)

  pub free_tells : Tells (numbers_of free_checks) free_settled
  unfolding free_in
  free_tells = settle_tells _ free_checks (λ _. free-value)

  pub free_decides : Decided (free_conditions F ts answer work) free_settled
  unfolding free_in free_table
  free_decides =
      settle-decided _ free_checks (free_conditions F ts answer work) (then (then (then done)))
      (λ _. free-value)

  pub free-lent : Answered free_settled ⊎ (free_settled ≡ refused 17) → (4097 ≤ answer) × (8192 ≤ work)
  unfolding free_in free_table
  free-lent (inl (a, e)) = lent-enough answer work (settle_answered _ free_checks e).0.lent_enough
  free-lent (inr e) = absurd (true≢false (sym (settle_refused _ free_checks (omega arith) e).1))

  free_sized : Sized (λ a. a.degree) free_settled answer work
  free_sized =
      record {
        polynomial = λ a e. free-size I ts answer work e;
        small = λ a e. (free_answered I ts answer work a [] (written a.polynomial []) e refl).small;
        lent = free-lent;
      }

module _ (name : FieldName) (ts : List ℕ) (answer work : ℕ) where
  pub free-told : Tells (free_numbers name) (rate_free name ts answer work)
  unfolding rate_free free_table
  free-told = name_tells name (λ F. free_in F ts answer work) _ (λ I. free_tells I ts answer work)

  free-decided : Decided (terms_conditions name ts answer work) (rate_free name ts answer work)
  unfolding rate_free
  free-decided = name-decided name (λ F. free_in F ts answer work) _ (λ I. free_decides I ts answer work)

-- the answer of the free way with these figures
pub rating_free : FreeFigures → FreeRating
rating_free x =
    elim x.unique [ true ↦ FreeRating.Unique x.degree | false ↦ FreeRating.Several x.degree ]

pub rating_free-told : (x : FreeFigures) → told_free (Ok (rating_free x)) ≡ answered x
unfolding rating_free told_free told free_figures_of
rating_free-told x = go x.unique refl
  where
    go : (u : Bool) → x.unique ≡ u → told_free (Ok (rating_free x)) ≡ answered x
    go true e = rw (e, rating_free, told_free, told, free_figures_of)
    go false e = rw (e, rating_free, told_free, told, free_figures_of)

module _ (name : FieldName) (ts answer work : List ℕ) where
  abbrev free_result : Result (Rated FreeFigures)
  free_result = rate_free name ts (length answer) (length work)

  free-some :
      (r : Reply FreeRating)
      × (answer' : List ℕ)
      × (work' : List ℕ)
      × FreeCall name ts answer work r answer' work'
  unfolding told_free figures_of told
  free-some =
      let numbers = free_numbers name in
      let (r, e) =
      meets told_free (λ a. Ok (rating_free a)) Err rating_free-told (λ z. refl) numbers (free-listed name)
      (figures_of free_result)
      (map_tells numbers (λ a. a.figures) free_result refl
      (free-told name ts (length answer) (length work))) in (
        r,
        answer_after free_result answer,
        work_after free_result work,
        record { rating = e; lent = lent-after free_result answer work },
      )

  free-room : Sized (λ a. a.degree) free_result (length answer) (length work)
  unfolding rate_free
  free-room =
      name_sized name (λ F. free_in F ts (length answer) (length work)) (λ a. a.degree) (length answer)
      (length work) (λ I. free_sized I ts (length answer) (length work))

pub free_answers : FreeAnswers
free_answers name ts answer work =
    record {
      each =
          λ r answer' work' c.
          rating_answers (free_numbers name) (terms_conditions name ts (length answer) (length work))
          (λ a. a.degree) (λ a. a) (free_result name ts answer work) (told_free r) answer work answer' work'
          (c.rating ∙ figures_themselves _) (free-keeping name)
          (free-told name ts (length answer) (length work))
          (free-decided name ts (length answer) (length work)) (free-room name ts answer work) c.lent;
      some = free-some name ts answer work;
      one = λ r s _ _ _ _ c d. free_call_determined c d;
    }

-- THE CONTINUATION
continue_listed : (name : FieldName) → Listed (continue_numbers name)
unfolding is_listed refusal_of refusals look_up holds_for_all is_none
continue_listed name = name-listed name _ (listed _ tt)

pub continue_keeping : (name : FieldName) → Keeping (continue_numbers name)
unfolding holds_for_all
continue_keeping name = name-keeping name _ (keeping _ tt)

-- 7 of a continuation
place_inside : (size place : ℕ) → place_out_of_range size place ≡ false → place ≤ size
unfolding place_out_of_range
place_inside size place h =
    ltb-false size place (or-false (ltb size place) (count_out_of_range (size - place)) h).0

module _ (F : Field) (g : Polynomial) (start buffer : List ℕ) (place : ℕ) where
  abbrev continue_checks : List Check
  continue_checks = continue_table F g start place (length buffer)

  continue_tells : Tells (numbers_of continue_checks) (continue_in F g start place buffer)
  unfolding continue_in
  continue_tells = settle_tells _ continue_checks (λ _. (_, refl))

  continue_decides :
      Decided (continue_conditions F g start place (length buffer)) (continue_in F g start place buffer)
  unfolding continue_in continue_table
  continue_decides =
      settle-decided _ continue_checks (continue_conditions F g start place (length buffer))
      (then (then (then (then (then done)))))
      (λ _. (_, refl))

  continue_length :
      (after : List ℕ) → continue_in F g start place buffer ≡ answered after → length after ≡ length buffer
  unfolding continue_in continue_table filled
  continue_length after e =
      let (h, w) = settle_answered _ continue_checks e in
      let inside = place_inside (length buffer) place h.count_in_range in
      let s = continuation F (monic_multiple F g) start in
      let n = length_cut s 0 (length buffer - place) in
      ap length (sym (some-injective _ _ w))
      ∙ length-append (take place buffer) (cut s 0 (length buffer - place))
      ∙ omega (arith, length-take-le place buffer inside, n)

module _ (name : FieldName) (g : Polynomial) (start buffer : List ℕ) (place : ℕ) where
  abbrev continued : Result (List ℕ)
  continued = continue_sequence name g start place buffer

  pub continue_told : Tells (continue_numbers name) continued
  unfolding continue_sequence continue_table
  continue_told =
      name_tells name (λ F. continue_in F g start place buffer) _
      (λ _. continue_tells (GF name) g start buffer place)

  continue_decided :
      Decided (under_name name (λ F. continue_conditions F g start place (length buffer))) continued
  unfolding continue_sequence
  continue_decided =
      name-decided name (λ F. continue_in F g start place buffer) _
      (λ _. continue_decides (GF name) g start buffer place)

  continue_kept : (x : Result (List ℕ)) → continued ≡ x → length (buffer_after x buffer) ≡ length buffer
  unfolding buffer_after continue_sequence
  continue_kept (refused n) e = refl
  continue_kept (answered after) e =
      continue_length (GF name) g start buffer place after
      (in_answered name (λ F. continue_in F g start place buffer) e).1

pub continue_answers : ContinueAnswers
unfolding told_filling buffer_after told
continue_answers name g start buffer place =
    let numbers = continue_numbers name in
    let result = continued name g start buffer place in
    let told = continue_told name g start buffer place in
    record {
      tells = λ r buffer' c. map_tells numbers (λ _. tt) result c.filling told;
      decided =
          λ r buffer' c.
          map-decided _ (λ _. tt) result c.filling (continue_decided name g start buffer place);
      buffer_kept =
          λ r buffer' c n e.
          let q = map_refused (λ _. tt) result (sym c.filling ∙ e) in
          c.buffer_bytes ∙ ap (λ x. buffer_after x buffer) q;
      buffer_length =
          λ r buffer' c. ap length c.buffer_bytes ∙ continue_kept name g start buffer place _ refl;
      some =
          let (r, e) =
          meets told_filling Ok Err (λ a. refl) (λ z. refl) numbers
          (continue_listed name) (map_result (λ _. tt) result)
          (map_tells numbers (λ _. tt) result refl told) in
          (r, buffer_after result buffer, record { filling = e; buffer_bytes = refl });
      one = λ r s _ _ c d. continue_call_determined c d;
    }

-- THE TWO QUESTIONS
irreducible-listed : (name : FieldName) → Listed (irreducible_numbers name)
unfolding is_listed refusal_of refusals look_up holds_for_all is_none
irreducible-listed name = name-listed name _ (listed _ tt)

pub irreducible-keeping : (name : FieldName) → Keeping (irreducible_numbers name)
unfolding holds_for_all
irreducible-keeping name = name-keeping name _ (keeping _ tt)

module _ (F : Field) (f : Polynomial) where
  irreducible_tells : Tells (numbers_of (irreducible_table F f)) (irreducible_in F f)
  unfolding irreducible_in
  irreducible_tells = settle_tells _ (irreducible_table F f) (λ _. (_, refl))

  irreducible_decides : Decided (irreducible_conditions F f) (irreducible_in F f)
  unfolding irreducible_in irreducible_table
  irreducible_decides =
      settle-decided _ (irreducible_table F f) (irreducible_conditions F f) (then (then done))
      (λ _. (_, refl))

pub irreducible-told : (name : FieldName) (f : Polynomial)
    → Tells (irreducible_numbers name) (ask_irreducible name f)
unfolding ask_irreducible irreducible_table
irreducible-told name f = name_tells name (λ F. irreducible_in F f) _ (λ _. irreducible_tells (GF name) f)

irreducible-decided : (name : FieldName) (f : Polynomial)
    → Decided (under_name name (λ F. irreducible_conditions F f)) (ask_irreducible name f)
unfolding ask_irreducible
irreducible-decided name f =
    name-decided name (λ F. irreducible_in F f) _ (λ _. irreducible_decides (GF name) f)

pub irreducible_answers : IrreducibleAnswers
unfolding told_irreducible told
irreducible_answers name f =
    record {
      tells = λ r c. subst (Tells (irreducible_numbers name)) (sym c.answer) (irreducible-told name f);
      decided = λ r c. subst (Decided _) (sym c.answer) (irreducible-decided name f);
      some =
          let (r, e) =
          meets told_irreducible Ok Err (λ b. refl) (λ z. refl) (irreducible_numbers name)
          (irreducible-listed name) (ask_irreducible name f) (irreducible-told name f) in
          (r, record { answer = e });
      one = λ r s c d. irreducible_call_determined c d;
    }

pub prime_answers : PrimeAnswers
prime_answers n =
    record {
      some = (prime_in_range n, record { answer = refl });
      one = λ r s c d. c.answer ∙ sym d.answer;
    }
