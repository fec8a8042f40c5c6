-- A whole profile, by one entry after another.
--
--   profile_more     == the profile of one term more has one entry more
--   held_more        == one term more is handed in
--   Entered …        == the invariant: the first i terms were handed to the meter, their entries stand at the
--                       front of the profile, and the rest of it is as it was
--   entered_none, entered_more, entered_all == before the first term, after one more, after all
--   profile_refused, profile_told == the exported call
--   profile_renamed  == the same with an equal name
-- Assumes nothing.
use Prim.Native.Nat.{ℕ, ◌+◌, ◌*◌, ◌-◌, ◌/◌, ◌<◌, ◌≤◌, min}
use mathlib.Core.Path.{◌≡◌, refl, sym, ap, ap₂, subst, ◌∙◌}
use mathlib.Core.List.{List, [], ◌∷◌, ◌++◌, append_assoc, append-nil}
use native.Mathlib.Numerals.{add-one}
use native.Mathlib.Decide.{dec_lt}
use native.Mathlib.Omega.{arith}
use lib.ListN.{length, get_or, take, drop, length-append, length-take, length-drop, take-append-drop}
use lib.Seq.{take-suc, take_all, take_at, drop_at, drop-drop}
use Rattle.std.specs.Prelude.{Ok, Err}
use Rattle.meaning.specs.declared.FieldName.{FieldName}
use Rattle.meaning.specs.declared.Refusal.{Refusal}
use Rattle.meaning.specs.declared.Meter.{Meter}
use Rattle.meaning.specs.Field.{Field}
use Rattle.meaning.specs.Result.{Result, refused, answered, written}
use Rattle.meaning.specs.FieldNames.{named_field}
use Rattle.meaning.specs.Free.{FreeFigures}
use Rattle.meaning.specs.Meter.{start_meter, term_table, take_term, meter_reading, unless_refused}
use Rattle.meaning.specs.Meter.{profile_entry}
use Rattle.meaning.specs.Meter.{reading_entry, profile_of}
use Rattle.meaning.specs.Answers.{number_of, told_start, told, Reply}
use Rattle.meaning.specs.Calls.{StartCall}
use Rattle.meaning.specs.Exports.{status_of, ProfileExported}
use Rattle.bridge.proofs.Basics.Searches.{settle_answered, map_answered, map_refused}
use Rattle.bridge.proofs.Massey.Meters.{holding-none, reading_taken}
use Rattle.meter.specs.Model.{meter_model}
use Rattle.exports.specs.profile.Entries.{held_with, held_after, entry_of, Ready, TermEntered}
use Rattle.exports.specs.profile.Entries.{ProfileWritten}
use Rattle.exports.proofs.profile.Entries.{ready_same}

-- One term, and then the others
module _ (name : FieldName) where
  abbrev F : Field
  F = named_field name

  module _ (held : List ℕ) (t : ℕ) where
    shows_told : (a : FreeFigures) → take_term F held t ≡ answered a
        → meter_reading F (held ++ (t ∷ [])) ≡ answered a
    unfolding take_term
    shows_told a e =
        sym (reading_taken meter_model name held t (settle_answered _ (term_table F (length held) t) e).0) ∙ e

    first_entry : (ts : List ℕ) (r : Result FreeFigures)
        → ((a : FreeFigures) → r ≡ answered a → meter_reading F (held ++ (t ∷ [])) ≡ answered a)
        → elim r [
          | refused n ↦ reading_entry n (meter_reading F held) ++ profile_of F held ts
          | answered a ↦ profile_entry 0 a ++ profile_of F (held ++ (t ∷ [])) ts
        ]
        ≡ reading_entry (status_of r) (meter_reading F (unless_refused r held (held ++ (t ∷ []))))
        ++ profile_of F (unless_refused r held (held ++ (t ∷ []))) ts
    unfolding reading_entry status_of unless_refused
    first_entry ts (refused n) h = refl
    first_entry ts (answered a) h =
        ap (λ x. reading_entry 0 x ++ profile_of F (held ++ (t ∷ [])) ts) (sym (h a refl))

    profile_cons : (ts : List ℕ)
        → profile_of F held (t ∷ ts) ≡ entry_of F held t ++ profile_of F (held_with F held t) ts
    unfolding profile_of entry_of held_with
    profile_cons ts = first_entry ts (take_term F held t) shows_told

  module _ (t : ℕ) where
    pub profile_more : (held ts : List ℕ)
        → profile_of F held (ts ++ (t ∷ [])) ≡ profile_of F held ts ++ entry_of F (held_after F held ts) t
    unfolding profile_of held_after
    profile_more held [] = profile_cons held t [] ∙ append-nil (entry_of F held t)
    profile_more held (u ∷ ts) =
        profile_cons held u (ts ++ (t ∷ []))
        ∙ ap (λ l. entry_of F held u ++ l) (profile_more (held_with F held u) ts)
        ∙ sym (append_assoc (entry_of F held u) _ _)
        ∙ ap (λ l. l ++ entry_of F (held_after F held (u ∷ ts)) t) (sym (profile_cons held u ts))

    pub held_more : (held ts : List ℕ)
        → held_after F held (ts ++ (t ∷ [])) ≡ held_with F (held_after F held ts) t
    unfolding held_after
    held_more held [] = refl
    held_more held (u ∷ ts) = held_more (held_with F held u) ts

-- All terms, one after another
pub record Entered (m : Meter) (ts terms₀ work₀ profile₀ : List ℕ) (i : ℕ) (known : Meter)
    (terms work profile : List ℕ) : Type 0 where
  pub size : length profile ≡ length profile₀
  pub ready : (name : FieldName) → Ready name [] m terms₀ work₀
      → Ready name (held_after (named_field name) [] (take i ts)) known terms work
  pub front : (name : FieldName) → Ready name [] m terms₀ work₀
      → take (4 * i) profile ≡ profile_of (named_field name) [] (take i ts)
  pub rest : drop (4 * i) profile ≡ drop (4 * i) profile₀

module _ {m : Meter} (ts : List ℕ) {terms₀ work₀ profile₀ : List ℕ} where
  pub entered_none : Entered m ts terms₀ work₀ profile₀ 0 m terms₀ work₀ profile₀
  unfolding held_after profile_of
  entered_none = record { size = refl; ready = λ name h. h; front = λ name h. refl; rest = refl }

  module _ {i : ℕ} {known : Meter} {terms work profile : List ℕ}
      (x : Entered m ts terms₀ work₀ profile₀ i known terms work profile) where
    -- the entry of term i is written at its place
    module _ {known' : Meter} {terms' work' ys : List ℕ} (l : i < length ts) (k : 4 * i + 4 ≤ length profile)
        (n : length ys ≡ 4) (e : TermEntered known (get_or ts i 0) terms work known' terms' work' ys) where
      abbrev r : List ℕ
      r = drop (4 * i + 4 - 4 * i) (drop (4 * i) profile)

      abbrev profile' : List ℕ
      profile' = take (4 * i) profile ++ (ys ++ r)

      upto : take (i + 1) ts ≡ take i ts ++ (get_or ts i 0 ∷ [])
      upto = ap (λ j. take j ts) (add-one i) ∙ take-suc ts i 0 l

      place : length (take (4 * i) profile ++ ys) ≡ 4 * (i + 1)
      place = omega (arith, length-append (take (4 * i) profile) ys, length-take (4 * i) profile)

      regrouped : profile' ≡ (take (4 * i) profile ++ ys) ++ r
      regrouped = sym (append_assoc (take (4 * i) profile) ys r)

      pub entered_more : Entered m ts terms₀ work₀ profile₀ (i + 1) known' terms' work' profile'
      entered_more =
          record {
            size =
                omega (
                  arith,
                  ap length regrouped,
                  length-append (take (4 * i) profile ++ ys) r,
                  place,
                  length-drop (4 * i + 4 - 4 * i) (drop (4 * i) profile),
                  length-drop (4 * i) profile,
                  x.size,
                );
            ready = λ name h.
                subst (λ held. Ready name held known' terms' work')
                (sym (ap (held_after (named_field name) []) upto ∙ held_more name (get_or ts i 0) []
                (take i ts)))
                (e.ready name _ (x.ready name h));
            front = λ name h.
                ap (take (4 * (i + 1))) regrouped
                ∙ take_at (take (4 * i) profile ++ ys) r (4 * (i + 1)) place
                ∙ ap₂ ◌++◌ (x.front name h) (e.entry name _ (x.ready name h))
                ∙ sym
                (ap (profile_of (named_field name) []) upto ∙ profile_more name (get_or ts i 0) []
                (take i ts));
            rest =
                let j : 4 * i + 4 - 4 * i ≡ 4 = omega arith in
                let k : 4 * i + 4 ≡ 4 * (i + 1) = omega arith in
                ap (drop (4 * (i + 1))) regrouped
                ∙ drop_at (take (4 * i) profile ++ ys) r (4 * (i + 1)) place
                ∙ ap₂ drop j x.rest
                ∙ drop-drop 4 (4 * i) profile₀
                ∙ ap (λ n. drop n profile₀) k;
          }

    -- all terms for which there is room
    module _ (e : i ≡ min (length ts) (length profile₀ / 4)) where
      all-terms : take i ts ≡ take (length profile₀ / 4) ts
      all-terms = elim (dec_lt (length ts) (length profile₀ / 4)) [
        | yes l ↦ take_all i ts (omega arith) ∙ sym (take_all (length profile₀ / 4) ts (omega arith))
        | no l ↦ let j : i ≡ length profile₀ / 4 = omega arith in ap (λ n. take n ts) j
      ]

      pub entered_all : ProfileWritten m ts terms₀ work₀ profile₀ profile
      unfolding written
      entered_all =
          record {
            entries = λ name h.
                let n : 4 * i ≡ length (profile_of (named_field name) [] (take i ts))
                = omega (arith, length-take (4 * i) profile, ap length (x.front name h), x.size) in
                sym (take-append-drop (4 * i) profile)
                ∙ ap₂ ◌++◌ (x.front name h) (x.rest ∙ ap (λ k. drop k profile₀) n)
                ∙ ap (λ l. written (profile_of (named_field name) [] l) profile₀) all-terms;
          }

-- The exported call
abbrev profiled : FieldName → List ℕ → List ℕ → List ℕ
profiled name ts profile = written (profile_of (named_field name) [] (take (length profile / 4) ts)) profile

module _ {name : FieldName} {ts profile work work' : List ℕ} {a : Reply Meter}
    (c : StartCall meter_model name work a work') where
  pub profile_refused : {x : Refusal} {k : ℕ}
      → a ≡ Err x
      → k ≡ number_of x
      → ProfileExported name ts profile k profile
  unfolding told_start told status_of unless_refused
  profile_refused q i =
      let e = map_refused _ (start_meter name) (sym c.starting ∙ ap told_start q) in
      record {
        told = i ∙ sym (ap status_of e);
        lent = sym (ap (λ r. unless_refused r profile (profiled name ts profile)) e);
      }

  pub profile_told : {m : Meter} (terms : List ℕ) {profile' : List ℕ}
      → length terms ≡ 4096
      → a ≡ Ok m
      → ProfileWritten m ts terms work' profile profile'
      → ProfileExported name ts profile 0 profile'
  unfolding told_start told status_of unless_refused
  profile_told terms n q w =
      let (_, e, f) = map_answered _ (start_meter name) (sym c.starting ∙ ap told_start q) in
      let h = ready_same (record { holding = holding-none meter_model name terms e; size = n }) (sym f) refl
      (c.work_bytes ∙ ap (λ r. unless_refused r work (meter_model.work name [])) e) in
      record {
        told = sym (ap status_of e);
        lent =
            w.entries name h
            ∙ sym (ap (λ r. unless_refused r profile (profiled name ts profile)) e);
      }

pub profile_renamed : {name name' : FieldName} {ts profile : List ℕ} {k : ℕ} {profile' : List ℕ}
    → name ≡ name'
    → ProfileExported name ts profile k profile'
    → ProfileExported name' ts profile k profile'
profile_renamed {ts = ts} {profile} {k} {profile'} n x =
    subst (λ m. ProfileExported m ts profile k profile') n x
