-- From the contracts of the wrapped calls to those of the exported ones: what is told as numbers, with the
-- name of the field that its numbers make.
-- Assumes nothing.
use Prim.Native.Nat.{ℕ}
use mathlib.Core.Path.{◌≡◌, refl, sym, ap, subst, ◌∙◌}
use mathlib.Core.List.{List}
use lib.ListN.{length}
use borrow.Author.Tests.{eq-eqb, ne_eqb}
use Rattle.std.specs.Prelude.{Bool, Ok, Err}
use Rattle.meaning.specs.declared.FieldName.{FieldName}
use Rattle.meaning.specs.declared.FieldNumbers.{FieldNumbers}
use Rattle.meaning.specs.declared.PowerRating.{PowerRating}
use Rattle.meaning.specs.declared.SetRating.{SetRating}
use Rattle.meaning.specs.declared.FreeRating.{FreeRating}
use Rattle.meaning.specs.declared.EntryRating.{EntryRating}
use Rattle.meaning.specs.declared.Rating.{Rating}
use Rattle.meaning.specs.declared.Answer.{Answer}
use Rattle.meaning.specs.declared.Entry.{Entry}
use Rattle.meaning.specs.Polynomial.{Polynomial}
use Rattle.meaning.specs.Result.{Result, refused, answered, map_result, Rated, figures_of}
use Rattle.meaning.specs.Period.{rate_period}
use Rattle.meaning.specs.Portion.{SetFigures, rate_set}
use Rattle.meaning.specs.Free.{rate_free}
use Rattle.meaning.specs.Continuation.{continue_sequence}
use Rattle.meaning.specs.Irreducibility.{ask_irreducible}
use Rattle.meaning.specs.Answers.{told_irreducible, told_power, told_free, told_entry}
use Rattle.meaning.specs.Answers.{told_filling, told, Reply}
use Rattle.meaning.specs.Answers.{told_set, set_places, set_figures_told, set_padded}
use Rattle.meaning.specs.Calls.{LentAfter, IrreducibleCall, PeriodCall, SetCall, FreeCall, EntryCall}
use Rattle.meaning.specs.Calls.{ContinueCall}
use Rattle.meaning.specs.Exports.{rating_refused, named_by, status_of, period_told, set_told, free_told}
use Rattle.meaning.specs.Exports.{RatingExported}
use Rattle.meaning.specs.Exports.{entry_told, EntryExported, Filled, answer_told, Question}
use Rattle.bridge.proofs.Basics.Searches.{never_answered, answered_same, refused_same}
use Rattle.exports.specs.ratings.Outcomes.{outcome_told}
use Rattle.exports.specs.status.Replies.{status_in}

-- THE NAME OF A FIELD
module _ (f : FieldNumbers) where
  pub named-prime : f.degree ≡ 0 → FieldName.Prime f.number ≡ named_by f
  unfolding named_by
  named-prime e = rw (eq-eqb _ _ e, named_by)

  pub named-binary : (f.degree ≡ 0 → ⊥) → FieldName.Binary f.degree f.number ≡ named_by f
  unfolding named_by
  named-binary e = rw (ne_eqb _ _ e, named_by)

-- THE SET WAY: what a reply tells with its powers is what the result tells
outcome_told_lem : (x : Result SetFigures) (r : Reply SetRating)
    → told_set r ≡ map_result set_figures_told x
    → set_places r ≡ set_padded x
    → outcome_told r ≡ set_told x
unfolding told_set told set_places map_result set_figures_told set_padded set_told outcome_told
outcome_told_lem (refused k) (Ok a) t p = absurd (never_answered (sym t))
outcome_told_lem (answered b) (Ok a) t p =
    let y = answered_same t in
    λ i. record { status = 0; complexity = (y i).degree; repeat = (y i).repeat; word = 0; powers = p i }
outcome_told_lem (refused k) (Err r) t p = ap rating_refused (refused_same t)
outcome_told_lem (answered b) (Err r) t p = absurd (never_answered t)

-- THE STATUS of a reply, whatever is told of its value
pub status_in_told : {A B : Type 0} (f : A → B) (r : Reply A) → status_in r ≡ status_of (told f r)
unfolding status_in told status_of
status_in_told f (Ok a) = refl
status_in_told f (Err r) = refl

status_map : {A B : Type 0} (f : A → B) (r : Result A) → status_of (map_result f r) ≡ status_of r
unfolding status_of map_result
status_map f (refused n) = refl
status_map f (answered a) = refl

-- THE CALLS THAT ARE GIVEN A FIELD
module _ {name name' : FieldName} (n : name ≡ name') where
  exported : {A : Type 0} (tell : Result A → Rating) (rate : FieldName → Result (Rated A)) {told : Result A}
      {answer work answer' work' : List ℕ} {r : Rating}
      → told ≡ figures_of (rate name)
      → LentAfter (rate name) answer work answer' work'
      → r ≡ tell told
      → RatingExported tell (rate name') answer work r answer' work'
  exported tell rate {answer = answer} {work} {answer'} {work'} {r} t l e =
      subst (λ m. RatingExported tell (rate m) answer work r answer' work') n
      (record { told = e ∙ ap tell t; lent = l })

  pub period-exported : {f ts answer work : List ℕ} {a : Reply PowerRating} {answer' work' : List ℕ}
      {r : Rating}
      → PeriodCall name f ts answer work a answer' work'
      → r ≡ period_told (told_power a)
      → RatingExported period_told (rate_period name' f ts (length answer) (length work)) answer work
      r answer' work'
  period-exported {f} {ts} {answer} {work} c e =
      exported period_told (λ m. rate_period m f ts (length answer) (length work)) c.rating c.lent e

  pub set-exported : {fs : List Polynomial} {vs ts answer work : List ℕ} {a : Reply SetRating}
      {answer' work' : List ℕ} {r : Rating}
      → SetCall name fs vs ts answer work a answer' work'
      → r ≡ outcome_told a
      → RatingExported set_told (rate_set name' fs vs ts (length answer) (length work)) answer work
      r answer' work'
  set-exported {fs} {vs} {ts} {answer} {work} {a} c e =
      exported set_told (λ m. rate_set m fs vs ts (length answer) (length work)) refl c.lent
      (e ∙ outcome_told_lem _ a c.rating c.powers)

  pub free-exported : {ts answer work : List ℕ} {a : Reply FreeRating} {answer' work' : List ℕ} {r : Rating}
      → FreeCall name ts answer work a answer' work'
      → r ≡ free_told (told_free a)
      → RatingExported free_told (rate_free name' ts (length answer) (length work)) answer work r
      answer' work'
  free-exported {ts} {answer} {work} c e =
      exported free_told (λ m. rate_free m ts (length answer) (length work)) c.rating c.lent e

  pub question_exported : {f : Polynomial} {a : Reply Bool} {r : Answer}
      → IrreducibleCall name f a
      → r ≡ answer_told (told_irreducible a)
      → Question (ask_irreducible name' f) r
  question_exported {f} c e =
      record { told = e ∙ ap answer_told (c.answer ∙ ap (λ (m : FieldName). ask_irreducible m f) n) }

  pub filled-exported : {g start buffer : List ℕ} {place k : ℕ} {a : Reply (Unit {0})} {buffer' : List ℕ}
      → ContinueCall name g start buffer place a buffer'
      → k ≡ status_in a
      → Filled (continue_sequence name' g start place buffer) buffer k buffer'
  unfolding told_filling
  filled-exported {g} {start} {buffer} {place} {k} {a} {buffer'} c i =
      subst (λ m. Filled (continue_sequence m g start place buffer) buffer k buffer') n
      (record {
        told = i ∙ status_in_told _ a ∙ ap status_of c.filling ∙ status_map _ _;
        lent = c.buffer_bytes;
      })

-- THE SEARCH
pub entry-exported : {ts work : List ℕ} {a : Reply EntryRating} {work' : List ℕ} {r : Entry}
    → EntryCall ts work a work'
    → r ≡ entry_told (told_entry a)
    → EntryExported ts work r work'
entry-exported c e = record { told = e ∙ ap entry_told c.finding; work_bytes = c.work_bytes }
