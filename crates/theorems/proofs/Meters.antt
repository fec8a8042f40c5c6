-- The meter shows what the free way gives, from the contracts alone.
--
--   free_gives       == the figures of accepted terms are those of the free way
--   run_holds        == a meter after a run holds the terms taken
--   start_answers, meter_promise, profile_export == the promises
-- Assumes nothing.
use Prim.Native.Nat.{ℕ, zero, suc, ◌+◌, ◌*◌, ◌/◌, ◌≤◌, ◌<◌}
use mathlib.Core.Path.{◌≡◌, refl, sym, ap, subst, subst₂, subst₃, ◌∙◌}
use mathlib.Core.Logic.{inl, inr}
use mathlib.Core.Bool.{true, false}
use mathlib.Core.List.{List, [], ◌∷◌, ◌++◌, append_assoc}
use mathlib.Core.Option.{Option, none, some, some-injective}
use native.Mathlib.Omega.{arith}
use lib.ListN.{length, take, drop, set, length-set, length-append, length-take, length-drop}
use lib.Seq.{drop-drop, take-take, drop-append-le, take-append-le}
use lib.Dec.{T, leb, leb→le}
use borrow.Author.Tests.{leb-true, le-leb}
use Rattle.meaning.specs.Answers.{Reply, told}
use Rattle.std.specs.Prelude.{Ok, Err}
use Rattle.meaning.specs.declared.FieldName.{FieldName}
use Rattle.meaning.specs.declared.FreeRating.{FreeRating}
use Rattle.meaning.specs.declared.Meter.{Meter}
use Rattle.meaning.specs.declared.MeterStep.{MeterStep}
use Rattle.meaning.specs.Search.{holds_for_all, holds_for_some, is_none, map_option}
use Rattle.meaning.specs.Conditions.{term_out_of_field, accepted_lent}
use Rattle.meaning.specs.FieldNames.{not_field}
use Rattle.meaning.specs.Route.{look_up}
use Rattle.meaning.specs.Result.{Check, Result, refused, answered, figures_of, map_result, settle, first_of}
use Rattle.meaning.specs.Result.{value_of, written}
use Rattle.meaning.specs.Free.{FreeFigures, least_degree, is_unique, free_table, free_in, rate_free}
use Rattle.meaning.specs.Meter.{MeterModel, Remembers, Holding, free_figures, start_meter, term_table}
use Rattle.meaning.specs.Meter.{take_term}
use Rattle.meaning.specs.Meter.{meter_reading}
use Rattle.meaning.specs.Meter.{unless_refused, meter_full, profile_entry, profile_of}
use Rattle.meaning.specs.Answers.{told_free, told_start}
use Rattle.meaning.specs.Exports.{named_by}
use Rattle.meaning.specs.Calls.{TermTaken, TermCall, ReadingCall}
use Rattle.meaning.proofs.Determined.{refusals, refusal_of, start_call_determined, term_call_determined}
use Rattle.meaning.proofs.Determined.{reading_call_determined}
use Rattle.meaning.proofs.Tables.{in_field_lem, settle-none}
use Rattle.meaning.proofs.Passes.{Passes, ◌&◌, nothing}
use Rattle.meaning.proofs.MeterRows.{reading_first}
use Rattle.bridge.proofs.Basics.Searches.{settle_answered, in_answered, never_answered, answered_same}
use Rattle.bridge.proofs.Basics.Searches.{refused_same, some-map_option, map_option-some, map_refused}
use Rattle.bridge.proofs.Basics.Searches.{answered_settle, T-not-false, T_false}
use Rattle.bridge.proofs.Lists.Polynomials.{elements-nil, elements-cons, elements_uncons}
use Rattle.bridge.proofs.Sequences.Continuations.{take-elements}
use Rattle.bridge.proofs.Basics.Interpretation.{IsField}
use Rattle.bridge.proofs.Binary.NamedFields.{named-is_field}
use Rattle.bridge.proofs.Ways.Accepted.{AcceptedTerms, accepts_free, terms-accepted}
use Rattle.bridge.proofs.Ways.Fitting.{free-rated, least_degree-some}
use Rattle.bridge.proofs.Massey.Meters.{holding-none, holding-more}
use Rattle.meaning.specs.Field.{Field, are_elements}
use Rattle.theorems.specs.Answering.{OneOf, Tells, Decided}
use Rattle.theorems.specs.Ratings.{GF}
use Rattle.theorems.specs.Meters.{start_numbers, term_numbers, start_conditions, term_conditions}
use Rattle.theorems.specs.Meters.{StartAnswers, Run, begun, taken, passed}
use Rattle.theorems.specs.Meters.{FreeGives, MeterPromise, ProfileExport, ProfileAnswers}
use Rattle.theorems.proofs.Deciding.{answered_decided, map-decided, settle-decided, then, meant, done}
use Rattle.theorems.proofs.Telling.{numbers_of, settle_tells, map_tells, no_zero, Keeping, keeping}
use Rattle.theorems.proofs.Telling.{keeping-zero, is_listed, Listed, listed, meets}
use Rattle.theorems.proofs.Names.{name-listed, name-keeping, name-decided, name_tells}
use Rattle.theorems.proofs.Answering.{free_tells, rating_free, rating_free-told}
use Rattle.theorems.proofs.OtherLanguages.{status_told}

-- THE FREE WAY ON ACCEPTED TERMS
passing_refused : {A : Type 0} (v : Unit {0} → Option A) (table : List Check) {n : ℕ}
    → Passes table
    → settle table v ≡ refused n
    → n ≡ 0
unfolding value_of
passing_refused {A} v table {n} h e = value (v tt) (sym (settle-none table v h.none_holds) ∙ e)
  where
    value : (o : Option A) → value_of o ≡ refused n → n ≡ 0
    value none f = sym (refused_same f)
    value (some b) f = never_answered (sym f)

-- the figures that the definition gives
figures-least : (F : Field) (ts : List ℕ) (a : FreeFigures) → free_figures F ts ≡ some a
    → (least_degree F ts ≡ some a.degree) × (a.unique ≡ is_unique ts a.degree)
unfolding free_figures
figures-least F ts a e =
    let (L, l, q) = some-map_option _ (least_degree F ts) e in (
      subst (λ b. least_degree F ts ≡ some b.degree) q l,
      subst (λ b. b.unique ≡ is_unique ts b.degree) q refl,
    )

figures_exist : {F : Field} (I : IsField F) (ts : List ℕ) → (a : FreeFigures) × (free_figures F ts ≡ some a)
unfolding free_figures
figures_exist I ts = let (L, e) = least_degree-some I ts in (_, map_option-some _ e)

module _ {F : Field} (I : IsField F) (ts : List ℕ) (a : FreeFigures) (t : AcceptedTerms F ts)
    (e : free_figures F ts ≡ some a) (size work : ℕ) (l : T (accepted_lent size work))
  where
    abbrev free_checks : List Check
    free_checks = free_table F ts size work

    free-figures : figures_of (free_in F ts size work) ≡ answered a
    unfolding figures_of map_result free_in free_table holds_for_some
    free-figures = go (free_tells I ts size work)
      where
        go : Tells (numbers_of free_checks) (free_in F ts size work)
            → figures_of (free_in F ts size work) ≡ answered a
        go (inl (b, f)) =
            let (_, d, u, _) = free-rated I ts size work f in
            let (d', u') = figures-least F ts a e in
            let same = some-injective _ _ (sym d ∙ d') in
            let words = u ∙ ap (is_unique ts) same ∙ sym u' in
            ap figures_of f ∙ (λ i. answered (record { degree = same i; unique = words i }))
        go (inr (n, f, m)) =
            absurd
            (no_zero (numbers_of free_checks) tt
            (subst (λ k. OneOf k (numbers_of free_checks))
            (passing_refused _ free_checks (accepts_free F ts size work t l) f)
            m))

free_gives : (name : FieldName) (ts : List ℕ) (a : FreeFigures)
    → not_field name ≡ false
    → AcceptedTerms (GF name) ts
    → free_figures (GF name) ts ≡ some a
    → FreeGives name ts a
unfolding rate_free
free_gives name ts a exists t e answer work r answer' work' l c =
    c.rating
    ∙ ap figures_of (in_field_lem name (λ F. free_in F ts (length answer) (length work)) exists)
    ∙ free-figures (named-is_field name exists) ts a t e (length answer) (length work) l

-- what was lent, after an answer and after a refusal
answered_new : {A B : Type 0} {r : Result A} {a : A} (old new : B) → r ≡ answered a
    → unless_refused r old new ≡ new
unfolding unless_refused
answered_new old new e = ap (λ r. unless_refused r old new) e

refused_old : {A B : Type 0} {r : Result A} {n : ℕ} (old new : B) → r ≡ refused n
    → unless_refused r old new ≡ old
unfolding unless_refused
refused_old old new e = ap (λ r. unless_refused r old new) e

-- A RUN
module _ (model : MeterModel) (name : FieldName) where
  abbrev F : Field
  F = GF name

  pub record Held (ts : List ℕ) (m : Meter) (terms work : List ℕ) : Type 0 where
    pub size : length terms ≡ 4096
    pub holding : Holding model name ts m terms work

  -- the table of a term passes where it is answered
  term-passes : (ts : List ℕ) (t : ℕ) {a : FreeFigures} → take_term F ts t ≡ answered a
      → Passes (term_table F (length ts) t) × (free_figures F (ts ++ (t ∷ [])) ≡ some a)
  unfolding take_term
  term-passes ts t e = settle_answered _ (term_table F (length ts) t) e

  started : {m : Meter} → answered m ≡ map_result (λ _. model.meter name []) (start_meter name)
      → (start_meter name ≡ answered tt) × (m ≡ model.meter name [])
  unfolding map_result
  started {m} e = go (start_meter name) refl e
    where
      go : (r : Result (Unit {0}))
          → start_meter name ≡ r
          → answered m ≡ map_result (λ _. model.meter name []) r
          → (start_meter name ≡ answered tt) × (m ≡ model.meter name [])
      go (refused n) f e = never_answered (sym e)
      go (answered u) f e = (f, answered_same e)

  same-holding : {ts : List ℕ} {m m' : Meter} {terms terms' work work' : List ℕ}
      → Held ts m terms work
      → m' ≡ m
      → terms' ≡ terms
      → work' ≡ work
      → Held ts m' terms' work'
  same-holding {ts} x e f g =
      subst₃ (Held ts) (sym e) (sym f) (sym g) x

  pub run_holds : {ts : List ℕ} {m : Meter} {terms work : List ℕ} → Run model name ts m terms work
      → Held ts m terms work
  unfolding told_start told
  run_holds (begun {m} {terms} {work} {work'} size c) =
      let (e, f) = started c.starting in
      same-holding (record { size = size; holding = holding-none model name terms e }) f refl
      (c.work_bytes ∙ answered_new work (model.work name []) e)
  run_holds (taken {ts} {m} {t} {terms} {work} x c a e) =
      let h = run_holds x in
      let y = c.taken name ts h.holding in
      let f = sym y.reading ∙ e in
      let (q, _) = term-passes ts t f in
      same-holding
      (record {
        size = length-set terms (length ts) t ∙ h.size;
        holding = holding-more model name h.holding t h.size q;
      })
      (y.meter ∙ answered_new m _ f)
      (y.term_bytes ∙ answered_new terms _ f)
      (y.work_bytes ∙ answered_new work _ f)
  run_holds (passed {ts} {m} {t} {terms} {work} x c n e) =
      let h = run_holds x in
      let y = c.taken name ts h.holding in
      let f = sym y.reading ∙ e in
      same-holding h (y.meter ∙ refused_old m _ f) (y.term_bytes ∙ refused_old terms _ f)
      (y.work_bytes ∙ refused_old work _ f)

  -- WHAT A METER SHOWS AFTER A RUN
  module _ {ts : List ℕ} {m : Meter} {terms work : List ℕ} (h : Holding model name ts m terms work) where
    I : IsField F
    I = named-is_field name h.field_exists

    reading_figures : (r : Reply FreeRating) → ReadingCall model m r
        → told_free r ≡ value_of (free_figures F ts)
    unfolding meter_reading first_of
    reading_figures r c = c.reading name ts terms work h ∙ settle-none [] _ refl

    accepted : 1 ≤ length ts → AcceptedTerms F ts
    accepted l =
        record { at_least_one = l; not_many = h.count; in_field = terms-accepted F ts h.terms_in_field }

    pub holding_shows : (r : Reply FreeRating) → ReadingCall model m r → (a : FreeFigures)
        × (told_free r ≡ answered a)
    unfolding value_of
    holding_shows r c =
        let (a, e) = figures_exist I ts in (a, reading_figures r c ∙ ap value_of e)

    pub holding-free : 1 ≤ length ts → (r : Reply FreeRating) (a : FreeFigures) → ReadingCall model m r
        → told_free r ≡ answered a
        → FreeGives name ts a
    unfolding value_of
    holding-free l r a c e =
        let (b, f) = figures_exist I ts in
        let same = answered_same (sym (reading_figures r c ∙ ap value_of f) ∙ e) in
        free_gives name ts a h.field_exists (accepted l) (f ∙ ap {B = Option FreeFigures} some same)

    pub holding-first : ts ≡ [] → (r : Reply FreeRating) → ReadingCall model m r
        → told_free r ≡ answered (record { degree = 0; unique = true })
    holding-first e r c = c.reading name ts terms work h ∙ ap (meter_reading F) e ∙ reading_first F

    pub holding_tells : (t : ℕ) → Tells term_numbers (take_term F ts t)
    unfolding take_term term_table
    holding_tells t = settle_tells _ (term_table F (length ts) t) (λ _. figures_exist I (ts ++ (t ∷ [])))

    pub holding-decided : (t : ℕ) → Decided (term_conditions F (length ts) t) (take_term F ts t)
    unfolding take_term term_table meter_full
    holding-decided t =
        settle-decided _ (term_table F (length ts) t) (term_conditions F (length ts) t)
        (then (meant (leb-true 4096 (length ts)) (le-leb 4096 (length ts)) (λ _. done)))
        (λ _. figures_exist I (ts ++ (t ∷ [])))

-- SOME RESULT MEETS THE CONTRACTS of a meter that remembers
module _ (model : MeterModel) (memory : Remembers model) {name : FieldName} {ts : List ℕ} {m : Meter}
    {terms work : List ℕ} (h : Holding model name ts m terms work) where
  field_in : m.field ≡ name
  field_in = ap (λ (n : Meter). n.field) h.numbers ∙ memory.field_kept name ts

  count_in : m.held ≡ length ts
  count_in = ap (λ (n : Meter). n.held) h.numbers ∙ memory.count_kept name ts

  least_in : least_degree (GF name) ts ≡ some m.degree
  least_in =
      memory.degree_kept name ts h.field_exists h.terms_in_field
      ∙ ap (λ (n : Meter). some n.degree) (sym h.numbers)

  terms_in : take m.held terms ≡ ts
  terms_in = ap (λ n. take n terms) count_in ∙ h.front

  -- its numbers show the reading
  reading_in : meter_reading (GF name) ts
      ≡ answered (record { degree = m.degree; unique = leb (2 * m.degree) m.held })
  unfolding meter_reading first_of value_of free_figures map_option is_unique
  reading_in =
      settle-none [] (λ _. free_figures (GF name) ts) refl
      ∙ ap value_of (map_option-some (λ e. record { degree = e; unique = is_unique ts e }) least_in)
      ∙ ap (λ n. answered (record { degree = m.degree; unique = leb (2 * m.degree) n })) (sym count_in)

term-listed : Listed term_numbers
unfolding is_listed refusal_of refusals look_up holds_for_all is_none
term-listed = listed _ tt

reading_some : (model : MeterModel) (m : Meter) → Remembers model
    → (r : Reply FreeRating) × ReadingCall model m r
reading_some model m memory =
    let shown : FreeFigures = record { degree = m.degree; unique = leb (2 * m.degree) m.held } in (
      Ok (rating_free shown),
      record { reading = λ q us terms work h. rating_free-told shown ∙ sym (reading_in model memory h) },
    )

term-some : (model : MeterModel) {name : FieldName} {ts : List ℕ} {m : Meter} {terms work : List ℕ}
    → Holding model name ts m terms work
    → Remembers model
    → (t : ℕ)
    → (r : MeterStep) × (terms' : List ℕ) × (work' : List ℕ) × TermCall model m t terms work r terms' work'
unfolding told_free told
term-some model {name} {ts} {m} {terms} {work} h memory t =
    let x = take_term (GF name) ts t in
    let (shown, e) =
    meets told_free (λ a. Ok (rating_free a)) Err rating_free-told (λ z. refl) term_numbers term-listed x
    (holding_tells model name h t) in
    let r : MeterStep =
    record { reading = shown; meter = unless_refused x m (model.meter name (ts ++ (t ∷ []))) } in
    let terms' = unless_refused x terms (set terms (length ts) t) in
    let work' = unless_refused x work (model.work name (ts ++ (t ∷ []))) in
    let here : TermTaken model name ts m t terms work r terms' work' =
    record { reading = e; meter = refl; term_bytes = refl; work_bytes = refl } in (
      r,
      terms',
      work',
      record {
        taken =
            λ q us k.
            subst₂ (λ q us. TermTaken model q us m t terms work r terms' work')
            (sym (field_in model memory h) ∙ field_in model memory k)
            (sym (terms_in model memory h) ∙ terms_in model memory k)
            here;
      },
    )

pub meter_promise : MeterPromise
meter_promise model name ts m terms work x =
    let y = run_holds model name x in
    let h = y.holding in
    record {
      shows = holding_shows model name h;
      at_first = holding-first model name h;
      free-way = holding-free model name h;
      tells =
          λ t r terms' work' c.
          subst (Tells term_numbers) (sym (c.taken name ts h).reading) (holding_tells model name h t);
      decided =
          λ t r terms' work' c.
          subst (Decided (term_conditions (GF name) (length ts) t)) (sym (c.taken name ts h).reading)
          (holding-decided model name h t);
      term_told =
          λ t r terms' work' c a e.
          let f = sym (c.taken name ts h).reading ∙ e in
          let (q, g) = term-passes model name ts t f in
          let z = holding-more model name h t y.size q in
          free_gives name (ts ++ (t ∷ [])) a h.field_exists
          (record {
            at_least_one = omega (arith, length-append ts (t ∷ []));
            not_many = z.count;
            in_field = terms-accepted (GF name) (ts ++ (t ∷ [])) z.terms_in_field;
          })
          g;
      unchanged =
          λ t r terms' work' c n e.
          let w = c.taken name ts h in
          let f = sym w.reading ∙ e in (
            w.meter ∙ refused_old m _ f,
            w.term_bytes ∙ refused_old terms _ f,
            w.work_bytes ∙ refused_old work _ f,
          );
      some_reading = reading_some model m;
      some = term-some model h;
      one_reading = λ r s c d. reading_call_determined h c d;
      one = λ t r s _ _ _ _ c d. term_call_determined h c d;
    }

-- A START
start-listed : (name : FieldName) → Listed (start_numbers name)
unfolding holds_for_all
start-listed name = name-listed name [] (listed [] tt)

start-keeping : (name : FieldName) → Keeping (start_numbers name)
unfolding holds_for_all
start-keeping name = name-keeping name [] (keeping [] tt)

start-told : (name : FieldName) → Tells (start_numbers name) (start_meter name)
unfolding start_meter
start-told name = name_tells name (λ F. answered tt) [] (λ _. inl (tt, refl))

start-decided : (name : FieldName) → Decided (start_conditions name) (start_meter name)
unfolding start_meter
start-decided name =
    name-decided name (λ F. answered tt) [] (λ _. answered_decided [] (tt, refl) tt)

pub start_answers : StartAnswers
unfolding told_start map_result told
start_answers model name work =
    record {
      tells = λ r work' c. map_tells (start_numbers name) _ (start_meter name) c.starting (start-told name);
      decided = λ r work' c. map-decided _ _ (start_meter name) c.starting (start-decided name);
      work-kept =
          λ r work' c n e.
          c.work_bytes
          ∙ refused_old work _ (map_refused _ (start_meter name) (sym c.starting ∙ e));
      some =
          let (r, e) =
          meets told_start Ok Err (λ a. refl) (λ z. refl)
          (start_numbers name) (start-listed name)
          (map_result (λ _. model.meter name []) (start_meter name))
          (map_tells (start_numbers name) (λ _. model.meter name []) (start_meter name) refl
          (start-told name)) in (
            r,
            unless_refused (start_meter name) work (model.work name []),
            record
                { starting = e; work_bytes = refl },
          );
      one = λ r s _ _ c d. start_call_determined c d;
    }

-- THE WHOLE PROFILE of accepted terms
pub record Profiled (F : Field) (held ts : List ℕ) : Type 0 where
  pub size : length (profile_of F held ts) ≡ 4 * length ts
  pub entry : (i : ℕ)
      → i < length ts
      → (a : FreeFigures)
      × (free_figures F (held ++ take (suc i) ts) ≡ some a)
      × (take 4 (drop (4 * i) (profile_of F held ts)) ≡ profile_entry 0 a)

profile_answered : (F : Field) (held : List ℕ) (t : ℕ) (ts : List ℕ) (a : FreeFigures)
    → take_term F held t ≡ answered a
    → profile_of F held (t ∷ ts) ≡ profile_entry 0 a ++ profile_of F (held ++ (t ∷ [])) ts
unfolding profile_of
profile_answered F held t ts a e = rw (e, profile_of)

-- a term that is taken
module _ {F : Field} (I : IsField F) where
  term_answered : (held : List ℕ) (t : ℕ) → t < F.size → length held < 4096
      → (a : FreeFigures)
      × (free_figures F (held ++ (t ∷ [])) ≡ some a)
      × (take_term F held t ≡ answered a)
  unfolding free_figures take_term term_table term_out_of_field meter_full
  term_answered held t l room =
      let (L, e) = least_degree-some (I) (held ++ (t ∷ [])) in
      let f = map_option-some {B = FreeFigures}
      (λ e. record { degree = e; unique = is_unique (held ++ (t ∷ [])) e }) e in
      let passes =
      T-not-false (are_elements F (t ∷ [])) (elements-cons F [] l (elements-nil F))
      & T_false (λ z. omega (arith, leb→le 4096 (length held) z))
      & nothing in
      (_, f, answered_settle _ (term_table F (length held) t) passes f)

  profiled-none : (held : List ℕ) → Profiled F held []
  unfolding profile_of
  profiled-none held = record { size = refl; entry = λ i l. absurd (omega arith) }

  profiled-more : (held : List ℕ) (t : ℕ) (ts : List ℕ) → t < F.size → length held < 4096
      → Profiled F (held ++ (t ∷ [])) ts
      → Profiled F held (t ∷ ts)
  unfolding profile_entry
  profiled-more held t ts l room x =
      let (a, f, e) = term_answered held t l room in
      let rest = profile_of F (held ++ (t ∷ [])) ts in
      let made : profile_of F held (t ∷ ts) ≡ profile_entry 0 a ++ rest = profile_answered F held t ts a e in
      record {
        size = ap length made ∙ length-append (profile_entry 0 a) rest ∙ ap (λ n. 4 + n) x.size
            ∙ omega arith;
        entry = λ i b. go a f made i b;
      }
    where
      go : (a : FreeFigures)
          → free_figures F (held ++ (t ∷ [])) ≡ some a
          → profile_of F held (t ∷ ts) ≡ profile_entry 0 a ++ profile_of F (held ++ (t ∷ [])) ts
          → (i : ℕ)
          → i < length (t ∷ ts)
          → (a : FreeFigures)
          × (free_figures F (held ++ take (suc i) (t ∷ ts)) ≡ some a)
          × (take 4 (drop (4 * i) (profile_of F held (t ∷ ts))) ≡ profile_entry 0 a)
      go a f made zero b = (a, f, ap (λ l. take 4 l) made)
      go a f made (suc i) b =
          let (c, g, e) = x.entry i (omega arith) in
          let all = profile_entry 0 a ++ profile_of F (held ++ (t ∷ [])) ts in
          let n : 4 * suc i ≡ 4 + 4 * i = omega arith in (
            c,
            ap (free_figures F) (sym (append_assoc held (t ∷ []) (take (suc i) ts))) ∙ g,
            ap (λ l. take 4 (drop (4 * suc i) l)) made
                ∙ ap (λ n. take 4 (drop n all)) n
                ∙ ap (take 4) (sym (drop-drop (4 * i) 4 all))
                ∙ e,
          )

  profiled : (held ts : List ℕ) → T (are_elements F ts) → length held + length ts ≤ 4096
      → Profiled F held ts
  profiled held [] h l = profiled-none held
  profiled held (t ∷ ts) h l =
      let (k, m) = elements_uncons F t ts h in
      profiled-more held t ts k (omega arith)
      (profiled (held ++ (t ∷ [])) ts m (omega (arith, length-append held (t ∷ []))))

module _ (name : FieldName) (ts profile : List ℕ) (exists : not_field name ≡ false)
    (h : T (are_elements (GF name) ts)) (l : length ts ≤ 4096) where
  abbrev shown : List ℕ
  shown = take (length profile / 4) ts

  abbrev body : List ℕ
  body = profile_of (GF name) [] shown

  shown-profiled : Profiled (GF name) [] shown
  shown-profiled =
      profiled (named-is_field name exists) [] shown (take-elements (GF name) (length profile / 4) ts h)
      (omega (arith, length-take (length profile / 4) ts))

  entry-within : (i : ℕ) → i < length ts → 4 * suc i ≤ length profile
      → (a : FreeFigures)
      × FreeGives name (take (suc i) ts) a
      × (take 4 (drop (4 * i) (body ++ drop (length body) profile)) ≡ profile_entry 0 a)
  entry-within i b room =
      let n : suc i ≤ length profile / 4 = omega arith in
      let k : i < length shown = omega (arith, length-take (length profile / 4) ts) in
      let (a, f, e) = shown-profiled.entry i k in
      let same : take (suc i) shown ≡ take (suc i) ts = take-take (suc i) (length profile / 4) ts n in
      let size = shown-profiled.size in (
        a,
        free_gives name (take (suc i) ts) a exists
            (record {
              at_least_one = omega (arith, length-take (suc i) ts);
              not_many = omega (arith, length-take (suc i) ts);
              in_field = take-elements (GF name) (suc i) ts h;
            })
            (ap (free_figures (GF name)) (sym same) ∙ f),
        ap (take 4) (drop-append-le (4 * i) body (drop (length body) profile) (omega arith))
            ∙ take-append-le 4 (drop (4 * i) body) (drop (length body) profile)
            (omega (arith, length-drop (4 * i) body))
            ∙ e,
      )

pub profile_export : ProfileExport
unfolding unless_refused written start_meter
profile_export field ts profile status profile' x =
    let numbers = start_numbers name in
    let s =
    status_told numbers (start_meter name) status (keeping-zero numbers (start-keeping name))
    (start-told name)
    x.told in
    record {
      status_told = s;
      answers = start-told name;
      decided = start-decided name;
      kept = λ n e. x.lent ∙ ap left e;
      entries = λ z h l i b room.
          let (u, e) = s.zero z in
          let (exists, _) = in_answered name (λ F. answered tt) e in
          let (a, g, w) = entry-within name ts profile exists h l i b room in (
            a,
            g,
            ap (λ l. take 4 (drop (4 * i) l)) (x.lent ∙ ap left e) ∙ w,
          );
    }
  where
    name : FieldName
    name = named_by field

    left : Result (Unit {0}) → List ℕ
    left r =
        unless_refused r profile (written (profile_of (GF name) [] (take (length profile / 4) ts)) profile)

pub profile_answers : ProfileAnswers
profile_answers field ts profile =
    record {
      some = (_, record { told = refl; lent = refl });
      one = λ r s c d.
          let status = c.told ∙ sym d.told in
          let profiles = c.lent ∙ sym d.lent in
          λ i. (status i, profiles i);
    }
