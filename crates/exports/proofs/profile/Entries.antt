-- One term of a profile: the status, the entry, and the meter afterwards.
--
--   status_byte      == the status of a reply fits a byte
--   entry-unique, entry_several == the entry of what a meter shows
--   term_entered     == the term is handed in and its entry written
-- Assumes nothing.
use Prim.Native.Nat.{ℕ, ◌/◌, ◌%◌, ◌<◌}
use mathlib.Core.Path.{◌≡◌, refl, ap, ◌∙◌}
use mathlib.Core.List.{List, [], ◌∷◌, ◌++◌}
use native.Mathlib.Omega.{arith}
use lib.ListN.{length, take, set, length-set}
use Rattle.std.specs.Prelude.{Ok, Err}
use Rattle.meaning.specs.declared.FieldName.{FieldName}
use Rattle.meaning.specs.declared.Refusal.{Refusal}
use Rattle.meaning.specs.declared.FreeRating.{FreeRating}
use Rattle.meaning.specs.declared.Meter.{Meter}
use Rattle.meaning.specs.declared.MeterStep.{MeterStep}
use Rattle.meaning.specs.Field.{Field}
use Rattle.meaning.specs.Result.{Result, refused, answered}
use Rattle.meaning.specs.FieldNames.{named_field}
use Rattle.meaning.specs.Free.{FreeFigures}
use Rattle.meaning.specs.Meter.{term_table, take_term, meter_reading, unless_refused, profile_entry}
use Rattle.meaning.specs.Meter.{reading_entry}
use Rattle.meaning.specs.Answers.{number_of, told_free, free_figures_of, told, Reply}
use Rattle.meaning.specs.Calls.{TermCall, TermTaken, ReadingCall}
use Rattle.meaning.specs.Exports.{status_of}
use Rattle.bridge.proofs.Basics.Searches.{settle_answered, answered_same}
use Rattle.bridge.proofs.Massey.Meters.{holding-more}
use Rattle.meter.specs.Model.{meter_model}
use Rattle.meter.proofs.Keeping.{holding_reading, holding-numbers}
use Rattle.exports.specs.status.Replies.{status_in}
use Rattle.exports.proofs.Exported.{status_in_told}
use Rattle.exports.specs.profile.Entries.{held_with, entry_of, Ready, EntryWritten, TermEntered}

-- A meter and lent bytes that are those of another are ready for the same
pub ready_same : {name : FieldName} {held : List ℕ} {m m' : Meter} {terms work terms' work' : List ℕ}
    → Ready name held m terms work
    → m' ≡ m
    → terms' ≡ terms
    → work' ≡ work
    → Ready name held m' terms' work'
ready_same {held = held} x a b c =
    record {
      holding =
          record {
            field_exists = x.holding.field_exists;
            terms_in_field = x.holding.terms_in_field;
            count = x.holding.count;
            numbers = a ∙ x.holding.numbers;
            front = ap (take (length held)) b ∙ x.holding.front;
            bytes = c ∙ x.holding.bytes;
          };
      size = ap length b ∙ x.size;
    }

-- The status
number_byte : (x : Refusal) → number_of x < 256
unfolding number_of
number_byte Refusal.FileTooLong = omega arith
number_byte Refusal.UnknownKind = omega arith
number_byte Refusal.FileCutShort = omega arith
number_byte Refusal.RecordOutOfPlace = omega arith
number_byte Refusal.ModeUnsuited = omega arith
number_byte Refusal.NotPrime = omega arith
number_byte Refusal.CountOutOfRange = omega arith
number_byte Refusal.TermOutOfField = omega arith
number_byte Refusal.FactorCount = omega arith
number_byte Refusal.DegreeOutOfRange = omega arith
number_byte Refusal.CoefficientOutOfRange = omega arith
number_byte Refusal.Reducible = omega arith
number_byte Refusal.EqualFactors = omega arith
number_byte Refusal.UpperPowers = omega arith
number_byte Refusal.TooFewTerms = omega arith
number_byte Refusal.LentTooShort = omega arith
number_byte Refusal.NotAnnihilated = omega arith
number_byte Refusal.MeterFull = omega arith
number_byte Refusal.NoEntry = omega arith
number_byte Refusal.NotBinaryField = omega arith

pub status_byte : {A : Type 0} (r : Reply A) → status_in r < 256
unfolding status_in
status_byte (Ok a) = omega arith
status_byte (Err x) = number_byte x

-- The four bytes
two_bytes : {s d w : ℕ} → d < 65536
    → s ∷ d % 256 ∷ d / 256 % 256 ∷ w ∷ [] ≡ s ∷ d % 256 ∷ d / 256 ∷ w ∷ []
two_bytes {s} {d} {w} h =
    let e : d / 256 % 256 ≡ d / 256 = omega arith in
    ap (λ n. s ∷ d % 256 ∷ n ∷ w ∷ []) e

module _ {status d : ℕ} {r : FreeRating} {figures : ℕ × ℕ} where
  pub entry-unique : r ≡ FreeRating.Unique d
      → figures ≡ (d, 1)
      → EntryWritten status r (status ∷ figures.0 % 256 ∷ figures.0 / 256 % 256 ∷ figures.1 ∷ [])
  unfolding free_figures_of profile_entry
  entry-unique q e = rw (q, e) (record { entry = two_bytes })

  pub entry_several : r ≡ FreeRating.Several d
      → figures ≡ (d, 0)
      → EntryWritten status r (status ∷ figures.0 % 256 ∷ figures.0 / 256 % 256 ∷ figures.1 ∷ [])
  unfolding free_figures_of profile_entry
  entry_several q e = rw (q, e) (record { entry = two_bytes })

-- The meter after a term
module _ (name : FieldName) (held : List ℕ) {m : Meter} {t : ℕ} {terms work : List ℕ} {s : MeterStep}
    {terms' work' : List ℕ} (x : Ready name held m terms work)
    (c : TermTaken meter_model name held m t terms work s terms' work') where
  abbrev F : Field
  F = named_field name

  after-term : (r : Result FreeFigures)
      → take_term F held t ≡ r
      → Ready name (unless_refused r held (held ++ (t ∷ []))) s.meter terms' work'
  unfolding unless_refused take_term
  after-term (refused n) e =
      ready_same x (c.meter ∙ ap (λ r. unless_refused r m (meter_model.meter name (held ++ (t ∷ [])))) e)
      (c.term_bytes ∙ ap (λ r. unless_refused r terms (set terms (length held) t)) e)
      (c.work_bytes ∙ ap (λ r. unless_refused r work (meter_model.work name (held ++ (t ∷ [])))) e)
  after-term (answered a) e =
      ready_same
      (record {
        holding =
            holding-more meter_model name x.holding t x.size
            (settle_answered _ (term_table F (length held) t) e).0;
        size = length-set terms (length held) t ∙ x.size;
      })
      (c.meter ∙ ap (λ r. unless_refused r m (meter_model.meter name (held ++ (t ∷ [])))) e)
      (c.term_bytes ∙ ap (λ r. unless_refused r terms (set terms (length held) t)) e)
      (c.work_bytes ∙ ap (λ r. unless_refused r work (meter_model.work name (held ++ (t ∷ [])))) e)

  ready_with : Ready name (held_with F held t) s.meter terms' work'
  unfolding held_with
  ready_with = after-term (take_term F held t) refl

  -- what the meter then shows has a degree of two bytes
  term-entry : {status : ℕ} {shown : FreeRating} {bytes : List ℕ}
      → status ≡ status_in s.reading
      → ReadingCall meter_model s.meter (Ok shown)
      → EntryWritten status shown bytes
      → bytes ≡ entry_of F held t
  unfolding entry_of reading_entry told_free told
  term-entry {status} {shown} e r w =
      let h = ready_with.holding in
      let i = holding_reading h in
      let told = r.reading name (held_with F held t) terms' work' h in
      let same : free_figures_of shown ≡ _ = answered_same (told ∙ i) in
      let n = ap (λ x. x.degree) same in
      w.entry (omega (arith, n, (holding-numbers h).0, ap (λ m. m.held) h.numbers, h.count))
      ∙ ap (λ x. reading_entry status x) told
      ∙ ap (λ n. reading_entry n (meter_reading F (held_with F held t)))
      (e ∙ status_in_told _ s.reading ∙ ap status_of c.reading)

pub term_entered : {m : Meter} {t : ℕ} {terms work : List ℕ} {s : MeterStep} {terms' work' : List ℕ}
    {status : ℕ} {shown : FreeRating} {bytes : List ℕ}
    → TermCall meter_model m t terms work s terms' work'
    → status ≡ status_in s.reading
    → ReadingCall meter_model s.meter (Ok shown)
    → EntryWritten status shown bytes
    → TermEntered m t terms work s.meter terms' work' bytes
term_entered c e r w =
    record {
      ready = λ name held x. ready_with name held x (c.taken name held x.holding);
      entry = λ name held x. term-entry name held x (c.taken name held x.holding) e r w;
    }
