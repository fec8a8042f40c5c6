-- A start and a term, by what the parts of the calls tell.
--
--   start_refused, start_taken == the contract of a start, by its two ends
--   term-stepped       == what is left after a step, for every meter that holds terms
--   room-left          == 18 leaves room for a term
--   next_unusable, next_declined, next_refused, next_taken == the meter after a term, by its four ends
--   term_refused, term_taken == the contract of a term, by its two ends
--
-- Assumes nothing.
use Prim.Native.Nat.{ℕ, ◌+◌, ◌<◌}
use mathlib.Core.Path.{◌≡◌, refl, sym, ap, ap₂, subst, subst₂, ◌∙◌}
use mathlib.Core.Bool.{false, true≢false}
use mathlib.Core.List.{List, [], ◌∷◌, ◌++◌}
use native.Mathlib.Omega.{arith}
use lib.ListN.{length, take, set}
use lib.Dec.{T}
use Rattle.std.specs.Prelude.{Ok, Err}
use Rattle.meaning.specs.declared.FieldName.{FieldName}
use Rattle.meaning.specs.declared.Refusal.{Refusal}
use Rattle.meaning.specs.declared.FreeRating.{FreeRating}
use Rattle.meaning.specs.declared.Meter.{Meter}
use Rattle.meaning.specs.Field.{Field}
use Rattle.meaning.specs.Result.{Result, refused, answered, map_result, first_of}
use Rattle.meaning.specs.FieldNames.{named_field, not_field}
use Rattle.meaning.specs.Free.{FreeFigures}
use Rattle.meaning.specs.Meter.{start_meter, term_table, take_term, Holding, unless_refused}
use Rattle.meaning.specs.Answers.{told_free, told_start, told, Reply, number_of}
use Rattle.meaning.specs.Calls.{StartCall, TermCall, ReadingCall}
use Rattle.meaning.proofs.Tables.{in_field_lem, no_field}
use Rattle.bridge.proofs.Massey.Steps.{massey_after}
use Rattle.bridge.proofs.Massey.Meters.{open_below, holding-more, reading_taken}
use Rattle.arith.specs.Inverse.{inverse}
use Rattle.arith.specs.Slices.{part}
use Rattle.arith.specs.declared.field.GaloisField.{GaloisField}
use Rattle.arith.specs.Represented.{field_of, FieldNamed, Declined}
use Rattle.refusals.specs.Verdicts.{number_in}
use Rattle.bridge.proofs.Basics.Searches.{map_answered, map_refused, settle_answered}
use Rattle.refusals.proofs.Settled.{settle_refused, verdict_passes}
use Rattle.massey.specs.declared.step.Recurrence.{Recurrence}
use Rattle.massey.specs.step.Steps.{Stands, Holds, Started, Stepped}
use Rattle.massey.proofs.step.Standing.{started-holds}
use Rattle.meter.specs.Model.{state_after, meter_model, meter_of, recurrence_of, Usable, Taken, NextCall}
use Rattle.meter.proofs.Keeping.{stands_meter, stands_bytes, stored-terms, holding-holds}
use Rattle.meter.proofs.Keeping.{holding_reading}

unless-same : {A B : Type 0} {r r' : Result A} (old new : B) → r ≡ r'
    → unless_refused r old new ≡ unless_refused r' old new
unless-same old new e = ap (λ r. unless_refused r old new) e

-- A start
module _ (name : FieldName) {work : List ℕ} where
  pub start_refused : {r : Refusal} → Declined name r
      → StartCall meter_model name work (Err r) work
  unfolding start_meter told_start told map_result unless_refused
  start_refused d =
      let e = no_field name (λ F. answered tt) d.holds in
      record {
        starting =
            ap refused d.number ∙ sym (ap (map_result (λ _. meter_model.meter name [])) e);
        work_bytes = sym (unless-same work _ e);
      }

  pub start_taken :
      {work' : List ℕ} {r : Recurrence} {m : Meter}
      → not_field name ≡ false
      → Started work work' r
      → length work' ≡ 8192
      → m ≡ meter_of name r
      → StartCall meter_model name work (Ok m) work'
  unfolding start_meter told_start told map_result unless_refused
  start_taken {work'} {r} h s l k =
      let e = in_field_lem name (λ F. answered tt) h in
      record {
        starting =
            ap answered (k ∙ stands_meter name [] stands refl s.seen)
            ∙ sym (ap (map_result (λ _. meter_model.meter name [])) e);
        work_bytes =
            stands_bytes name [] stands l
            ∙ sym (unless-same work _ e);
      }
    where
      stands : Stands (state_after (named_field name) []) work' r
      stands =
          let F = named_field name in
          subst (λ n. Stands (massey_after F (inverse F) [] n) work' r) s.seen (started-holds s F [])

-- A step
module _ (F : Field) (m : Meter) (t : ℕ) {terms work work' : List ℕ} {k r : Recurrence}
    (size : length terms ≡ 4096) (room : m.held < 4096)
    (e : k ≡ recurrence_of m) (n : r.seen ≡ length (part (set terms m.held t) 0 (m.held + 1)))
    (s : Holds F (part (set terms m.held t) 0 (m.held + 1)) work k
    → Stepped F (part (set terms m.held t) 0 (m.held + 1)) work work' r)
    (kept : length work' ≡ 8192) where
  module _ (name : FieldName) (ts : List ℕ) (same : F ≡ named_field name)
      (h : Holding meter_model name ts m terms work) where
    same_name : m.field ≡ name
    same_name = ap (λ m. m.field) h.numbers

    same-terms : part (set terms m.held t) 0 (m.held + 1) ≡ ts ++ (t ∷ [])
    same-terms = stored-terms h t (omega (arith, size, room, ap (λ m. m.held) h.numbers))

    seen_all : r.seen ≡ length (ts ++ (t ∷ []))
    seen_all = n ∙ ap length same-terms

    stepped : Stepped (named_field name) (ts ++ (t ∷ [])) work work' r
    stepped =
        subst₂ (λ F v. Holds F v work k → Stepped F v work work' r) same same-terms s
        (subst (Holds (named_field name) (ts ++ (t ∷ [])) work) (sym e) (holding-holds h t))

    stands : Stands (state_after (named_field name) (ts ++ (t ∷ []))) work' r
    stands =
        subst
        (λ n. Stands (massey_after (named_field name) (inverse (named_field name)) (ts ++ (t ∷ [])) n) work'
        r)
        seen_all
        stepped.holds

  pub term-stepped :
      {m' : Meter} → m' ≡ meter_of m.field r → Taken F m t terms work m' (set terms m.held t) work'
  term-stepped u =
      record {
        stored = refl;
        numbers =
            λ name ts f h.
            u
            ∙ stands_meter name (ts ++ (t ∷ [])) (stands name ts f h) (same_name name ts f h)
            (seen_all name ts f h);
        bytes = λ name ts f h. stands_bytes name (ts ++ (t ∷ [])) (stands name ts f h) kept;
      }

-- The meter after a term
pub room-left :
    (F : Field) (n t : ℕ) {v : Reply (Unit {0})} → number_in v ≡ first_of (term_table F n t) → v ≡ Ok tt
    → n < 4096
room-left F n t e q = open_below F n t (verdict_passes (term_table F n t) e q)

module _ (m : Meter) (t : ℕ) {terms work : List ℕ} where
  -- nothing is promised of a meter whose numbers are out of range, or whose name is that of no field
  pub next_unusable : {r : Reply Meter} → Usable m false → NextCall m t terms work r terms work
  next_unusable u =
      record {
        next = λ name ts h. absurd (subst T (sym (u.holding name ts terms work h)) tt);
        term_bytes = λ name ts h. absurd (subst T (sym (u.holding name ts terms work h)) tt);
        work_bytes = λ name ts h. absurd (subst T (sym (u.holding name ts terms work h)) tt);
      }

  pub next_declined : {x : Refusal} {r : Reply Meter} → Declined m.field x
      → NextCall m t terms work r terms work
  next_declined d =
      record {
        next = λ name ts h. absurd (no_name name ts h);
        term_bytes = λ name ts h. absurd (no_name name ts h);
        work_bytes = λ name ts h. absurd (no_name name ts h);
      }
    where
      no_name : (name : FieldName) (ts : List ℕ) → Holding meter_model name ts m terms work → ⊥
      no_name name ts h =
          true≢false (sym d.holds ∙ ap (λ m. not_field m.field) h.numbers ∙ h.field_exists)

  module _ {field : GaloisField} (f : FieldNamed m.field field) (v : Reply (Unit {0}))
      (e : number_in v ≡ first_of (term_table (field_of field) m.held t)) where
    same-field : {name : FieldName} {ts : List ℕ} → Holding meter_model name ts m terms work
        → field_of field ≡ named_field name
    same-field h = f.is_field ∙ ap named_field (ap (λ m. m.field) h.numbers)

    verdict_holding : {name : FieldName} {ts : List ℕ} → Holding meter_model name ts m terms work
        → number_in v ≡ first_of (term_table (named_field name) (length ts) t)
    verdict_holding h =
        e
        ∙ ap₂ (λ F n. first_of (term_table F n t)) (same-field h) (ap (λ m. m.held) h.numbers)

    pub next_refused : {x : Refusal} → v ≡ Err x → NextCall m t terms work (Err x) terms work
    unfolding told_start told map_result unless_refused take_term
    next_refused {x} q =
        record {
          next = λ name ts h. sym (ap (map_result _) (turned-down name ts h));
          term_bytes = λ name ts h. sym (unless-same terms _ (turned-down name ts h));
          work_bytes = λ name ts h. sym (unless-same work _ (turned-down name ts h));
        }
      where
        turned-down : (name : FieldName) (ts : List ℕ) → Holding meter_model name ts m terms work
            → take_term (named_field name) ts t ≡ refused (number_of x)
        turned-down name ts h =
            settle_refused (term_table (named_field name) (length ts) t) _ (verdict_holding h) q

    -- the step is taken
    pub next_taken : {m' : Meter} {terms' work' : List ℕ} → length terms ≡ 4096 → v ≡ Ok tt
        → Taken (field_of field) m t terms work m' terms' work'
        → NextCall m t terms work (Ok m') terms' work'
    unfolding told_start told map_result unless_refused
    next_taken size q s =
        record {
          next = λ name ts h.
              ap answered (s.numbers name ts (same-field h) h)
              ∙ sym (ap (map_result _) (accepted name ts h).1);
          term_bytes = λ name ts h.
              s.stored
              ∙ ap (λ m. set terms m.held t) h.numbers
              ∙ sym (unless-same terms _ (accepted name ts h).1);
          work_bytes = λ name ts h.
              s.bytes name ts (same-field h) h
              ∙ sym (unless-same work _ (accepted name ts h).1);
        }
      where
        accepted : (name : FieldName) (ts : List ℕ) → Holding meter_model name ts m terms work
            → (a : FreeFigures) × (take_term (named_field name) ts t ≡ answered a)
        accepted name ts h =
            let p = verdict_passes (term_table (named_field name) (length ts) t) (verdict_holding h) q in (
              _,
              reading_taken meter_model name ts t p
                  ∙ holding_reading (holding-more meter_model name h t size p),
            )

  -- A term, by the meter after it
  pub term_refused : {x : Refusal} {terms' work' : List ℕ} → NextCall m t terms work (Err x) terms' work'
      → TermCall meter_model m t terms work (record { reading = Err x; meter = m }) terms' work'
  unfolding told_start told_free told unless_refused
  term_refused c =
      record {
        taken = λ name ts h.
            let e = map_refused _ (take_term (named_field name) ts t) (sym (c.next name ts h)) in
            record {
              reading = sym e;
              meter = sym (unless-same m _ e);
              term_bytes = c.term_bytes name ts h;
              work_bytes = c.work_bytes name ts h;
            };
      }

  pub term_taken : {m' : Meter} {a : FreeRating} {terms' work' : List ℕ} → length terms ≡ 4096
      → NextCall m t terms work (Ok m') terms' work'
      → ReadingCall meter_model m' (Ok a)
      → TermCall meter_model m t terms work (record { reading = Ok a; meter = m' }) terms' work'
  unfolding told_start told take_term unless_refused
  term_taken {m'} {terms' = terms'} {work'} size c r =
      record {
        taken = λ name ts h.
            let F = named_field name in
            let next = ts ++ (t ∷ []) in
            let (_, e, k) = map_answered _ (take_term F ts t) (sym (c.next name ts h)) in
            let p = (settle_answered _ (term_table F (length ts) t) e).0 in
            let y = holding-more meter_model name h t size p in
            let stored = c.term_bytes name ts h ∙ unless-same terms _ e in
            let kept = c.work_bytes name ts h ∙ unless-same work _ e in
            record {
              reading =
                  r.reading name next terms' work'
                  (record {
                    field_exists = y.field_exists;
                    terms_in_field = y.terms_in_field;
                    count = y.count;
                    numbers = sym k;
                    front = subst (λ l. take (length next) l ≡ next) (sym stored) y.front;
                    bytes = kept;
                  })
                  ∙ sym (reading_taken meter_model name ts t p);
              meter = sym k ∙ sym (unless-same m _ e);
              term_bytes = c.term_bytes name ts h;
              work_bytes = c.work_bytes name ts h;
            };
      }
