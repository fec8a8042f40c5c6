-- The rating of a file from that of the way of its mode, or from a verdict that refuses it.
--
--   file_of_period q, file_of_free m q, file_of_set m q == what a file tells of the reply q of a way
-- Assumes nothing.
use Prim.Native.Nat.{ℕ}
use mathlib.Core.Path.{◌≡◌, refl, ap, ◌∙◌}
use mathlib.Core.Bool.{false}
use mathlib.Core.List.{List, [], ◌∷◌}
use Rattle.std.specs.Prelude.{Ok, Err}
use Rattle.meaning.specs.declared.Refusal.{Refusal}
use Rattle.meaning.specs.declared.PowerRating.{PowerRating}
use Rattle.meaning.specs.declared.FreeRating.{FreeRating}
use Rattle.meaning.specs.declared.SetRating.{SetRating}
use Rattle.meaning.specs.declared.FileOutcome.{FileOutcome}
use Rattle.meaning.specs.Result.{Result, refused, answered, map_result, Rated, figures_of, answer_after}
use Rattle.meaning.specs.Result.{clears, work_after}
use Rattle.meaning.specs.Power.{PowerFigures}
use Rattle.meaning.specs.Portion.{SetFigures}
use Rattle.meaning.specs.Free.{FreeFigures}
use Rattle.meaning.specs.File.{FileFigures, powers, file_answer, free_label, of_period, of_set, of_free}
use Rattle.meaning.specs.Answers.{number_of, padded, Reply, told, told_power, free_figures_of, told_free}
use Rattle.meaning.specs.Answers.{told_set, set_places, set_figures_told, set_padded, with_powers}
use Rattle.meaning.specs.Answers.{told_file, label_told, file_told_of, file_figures_told, label_powers}
use Rattle.meaning.specs.Answers.{file_padded, file_places}
use Rattle.meaning.specs.Calls.{LentAfter}
use Rattle.rate_free.specs.Ratings.{FreeRatedAs}
use Rattle.refusals.proofs.Lent.{lent_refused}
use Rattle.rate_period.specs.Ratings.{RatedAs}
use Rattle.rate_set.specs.Ratings.{SetRatedAs}
use Rattle.rate_file.specs.modes.Outcomes.{RatedFile}

abbrev pub file_of_period : Reply PowerRating → Reply FileOutcome
file_of_period (Ok a) = Ok (FileOutcome.Powers a.degree a.repeat 1 (padded (a.power ∷ [])))
file_of_period (Err x) = Err x

abbrev pub file_of_free : ℕ → Reply FreeRating → Reply FileOutcome
file_of_free m (Ok (FreeRating.Unique d)) = Ok (FileOutcome.Unique d m)
file_of_free m (Ok (FreeRating.Several d)) = Ok (FileOutcome.Several d m)
file_of_free m (Err x) = Err x

abbrev pub file_of_set : ℕ → Reply SetRating → Reply FileOutcome
file_of_set m (Ok a) = Ok (FileOutcome.Powers a.degree m a.count a.powers)
file_of_set m (Err x) = Err x

-- the lent bytes are left alike where refusals and polynomials are the same
module _ {answer work answer' work' : List ℕ} where
  lent-period : (x : Result (Rated PowerFigures)) → LentAfter x answer work answer' work'
      → LentAfter (of_period x) answer work answer' work'
  unfolding of_period file_answer answer_after work_after
  lent-period (refused n) l = record { answer_bytes = l.answer_bytes; work_bytes = l.work_bytes }
  lent-period (answered a) l = record { answer_bytes = l.answer_bytes; work_bytes = l.work_bytes }

  lent-set : (m : ℕ) (x : Result (Rated SetFigures)) → LentAfter x answer work answer' work'
      → LentAfter (of_set m x) answer work answer' work'
  unfolding of_set file_answer answer_after work_after
  lent-set m (refused n) l = record { answer_bytes = l.answer_bytes; work_bytes = l.work_bytes }
  lent-set m (answered a) l = record { answer_bytes = l.answer_bytes; work_bytes = l.work_bytes }

  lent-free : (m : ℕ) (x : Result (Rated FreeFigures)) → LentAfter x answer work answer' work'
      → LentAfter (of_free m x) answer work answer' work'
  unfolding of_free file_answer answer_after work_after
  lent-free m (refused n) l = record { answer_bytes = l.answer_bytes; work_bytes = l.work_bytes }
  lent-free m (answered a) l = record { answer_bytes = l.answer_bytes; work_bytes = l.work_bytes }

-- the figures of a file from those of its way
power_figures : PowerFigures → FileFigures
power_figures a = record { degree = a.degree; denominator = a.repeat; label = powers (a.power ∷ []) }

free_figures : ℕ → FreeFigures → FileFigures
free_figures m a = record { degree = a.degree; denominator = m; label = free_label a.unique }

figures-period : (x : Result (Rated PowerFigures))
    → figures_of (of_period x) ≡ map_result power_figures (figures_of x)
unfolding of_period file_answer figures_of map_result power_figures
figures-period (refused n) = refl
figures-period (answered a) = refl

figures-free : (m : ℕ) (x : Result (Rated FreeFigures))
    → figures_of (of_free m x) ≡ map_result (free_figures m) (figures_of x)
unfolding of_free file_answer figures_of map_result free_figures
figures-free m (refused n) = refl
figures-free m (answered a) = refl

told-set : (m : ℕ) (x : Result (Rated SetFigures))
    → map_result (λ a. with_powers a.degree m a.count) (map_result set_figures_told (figures_of x))
    ≡ map_result file_figures_told (figures_of (of_set m x))
unfolding of_set file_answer figures_of map_result set_figures_told file_figures_told label_told
told-set m (refused n) = refl
told-set m (answered a) = refl

padded-set : (m : ℕ) (x : Result (Rated SetFigures))
    → set_padded (figures_of x) ≡ file_padded (figures_of (of_set m x))
unfolding of_set file_answer figures_of map_result set_padded file_padded label_powers
padded-set m (refused n) = refl
padded-set m (answered a) = refl

-- what a file tells of the reply of its way
period-told : (q : Reply PowerRating)
    → told_file (file_of_period q) ≡ map_result file_figures_told (map_result power_figures (told_power q))
unfolding told_file told file_told_of map_result file_figures_told power_figures told_power label_told
period-told (Ok a) = refl
period-told (Err x) = refl

period-places : (q : Reply PowerRating)
    → file_places (file_of_period q) ≡ file_padded (map_result power_figures (told_power q))
unfolding file_places file_padded map_result power_figures told_power told label_powers
period-places (Ok a) = refl
period-places (Err x) = refl

free-told : (m : ℕ) (q : Reply FreeRating)
    → told_file (file_of_free m q) ≡ map_result file_figures_told (map_result (free_figures m) (told_free q))
unfolding told_file told file_told_of map_result file_figures_told free_figures told_free free_figures_of
    free_label label_told
free-told m (Ok (FreeRating.Unique d)) = refl
free-told m (Ok (FreeRating.Several d)) = refl
free-told m (Err x) = refl

free-places : (m : ℕ) (q : Reply FreeRating)
    → file_places (file_of_free m q) ≡ file_padded (map_result (free_figures m) (told_free q))
unfolding file_places file_padded map_result free_figures told_free told free_figures_of free_label
    label_powers
free-places m (Ok (FreeRating.Unique d)) = refl
free-places m (Ok (FreeRating.Several d)) = refl
free-places m (Err x) = refl

set-told : (m : ℕ) (q : Reply SetRating)
    → told_file (file_of_set m q) ≡ map_result (λ a. with_powers a.degree m a.count) (told_set q)
unfolding told_file told file_told_of map_result told_set
set-told m (Ok a) = refl
set-told m (Err x) = refl

set-places : (m : ℕ) (q : Reply SetRating) → file_places (file_of_set m q) ≡ set_places q
unfolding file_places set_places
set-places m (Ok a) = refl
set-places m (Err x) = refl

-- the rating of a file, from the contract of its way
pub period-rated : {result : Result (Rated PowerFigures)} {answer work answer' work' : List ℕ}
    {q : Reply PowerRating} {r : Reply FileOutcome}
    → RatedAs result answer work q answer' work' → r ≡ file_of_period q
    → RatedFile (of_period result) answer work r answer' work'
period-rated {result = x} {q = q} h e =
    record {
      rating = rw (e, figures-period x, ← h.rating) (period-told q);
      powers = rw (e, figures-period x, ← h.rating) (period-places q);
      lent = lent-period x h.lent;
    }

module _ (m : ℕ) {answer work answer' work' : List ℕ} {r : Reply FileOutcome} where
  pub free-rated : {result : Result (Rated FreeFigures)} {q : Reply FreeRating}
      → FreeRatedAs result answer work q answer' work' → r ≡ file_of_free m q
      → RatedFile (of_free m result) answer work r answer' work'
  free-rated {result = x} {q = q} h e =
      record {
        rating = rw (e, figures-free m x, ← h.rating) (free-told m q);
        powers = rw (e, figures-free m x, ← h.rating) (free-places m q);
        lent = lent-free m x h.lent;
      }

  pub set-rated : {result : Result (Rated SetFigures)} {q : Reply SetRating}
      → SetRatedAs result answer work q answer' work' → r ≡ file_of_set m q
      → RatedFile (of_set m result) answer work r answer' work'
  set-rated {result = x} {q = q} h e =
      record {
        rating =
            rw e
            (set-told m q ∙ ap (map_result (λ a. with_powers a.degree m a.count)) h.rating ∙ told-set m x);
        powers = rw e (set-places m q ∙ h.powers ∙ padded-set m x);
        lent = lent-set m x h.lent;
      }

-- the same result in other words
pub rated_as : {x y : Result (Rated FileFigures)} {answer work : List ℕ} {r : Reply FileOutcome}
    {answer' work' : List ℕ} → x ≡ y → RatedFile y answer work r answer' work'
    → RatedFile x answer work r answer' work'
rated_as e h = rw e h

-- a refusal that does not clear the work bytes
pub refused_rated : {result : Result (Rated FileFigures)} {answer work : List ℕ} {r : Reply FileOutcome}
    {x : Refusal} → r ≡ Err x → result ≡ refused (number_of x) → clears (number_of x) ≡ false
    → RatedFile result answer work r answer work
unfolding figures_of map_result told_file told file_places file_padded
refused_rated q e h = record { rating = rw (q, e); powers = rw (q, e); lent = lent_refused e h }
