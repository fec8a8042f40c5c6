-- The contract of the free way, by its two ends: the verdict refuses, or the shortest recurrence answers.
--
--   checked_verdict   == where the name, 7 and 8 let pass, 16 alone decides
--   terms_refused     == the contract where 7 or 8 refuses
--   FreeAccepted F ts answer work == what holds where no refusal of the free way does
--   verdict_open      == where the verdict accepts, none of the refusals holds
--   verdict_accepted  == and so what they exclude does not either
--   rating_refused_lem    == the contract where the verdict refuses
--   rating_answered   == the contract where it accepts, from the shortest recurrence and its figures
--   call_refused, call_made == the contract of the call, where the name is refused and where the field is
--                        made
--
-- Assumes nothing.
use Prim.Native.Nat.{ℕ, ◌*◌, ◌≤◌}
use mathlib.Core.Path.{◌≡◌, refl, sym, ap, subst, ◌∙◌}
use mathlib.Core.Bool.{false}
use mathlib.Core.List.{List, ◌++◌}
use mathlib.Core.Option.{none}
use native.Mathlib.Decide.{dec_lt}
use native.Mathlib.Omega.{arith}
use lib.ListN.{length}
use lib.Dec.{ltb, leb, lt→ltb}
use Rattle.meaning.specs.declared.FieldName.{FieldName}
use Rattle.meaning.specs.declared.Refusal.{Refusal}
use Rattle.meaning.specs.declared.FreeRating.{FreeRating}
use Rattle.meaning.specs.Search.{holds_for_some}
use Rattle.meaning.specs.Field.{Field}
use Rattle.meaning.specs.Conditions.{lent_too_short}
use Rattle.meaning.specs.Result.{Result, answered, map_result, Rated, figures_of, first_of, clearing, clears}
use Rattle.meaning.specs.Result.{answer_after, work_after}
use Rattle.meaning.specs.Free.{is_unique, FreeFigures, free_table, free_in, rate_free}
use Rattle.std.specs.Prelude.{Ok, Err}
use Rattle.meaning.specs.Answers.{told_free, told, free_figures_of, Reply}
use Rattle.meaning.specs.Calls.{LentAfter, FreeCall}
use Rattle.meaning.proofs.Passes.{first_of_passes}
use Rattle.bridge.proofs.Basics.Searches.{false-T, or-false}
use Rattle.bridge.proofs.Basics.Interpretation.{IsField}
use Rattle.bridge.proofs.Ways.Accepted.{count-accepted}
use Rattle.bridge.proofs.Massey.First.{massey_first, massey_answer}
use Rattle.arith.specs.declared.field.GaloisField.{GaloisField}
use Rattle.arith.specs.Represented.{field_of, FieldNamed, Declined}
use Rattle.arith.proofs.Door.{behind_door, at_door}
use Rattle.arith.specs.Inverse.{inverse}
use Rattle.refusals.specs.Verdicts.{number_in, terms_table, lent_table}
use Rattle.refusals.proofs.Order.{refused_before, accepted-before}
use Rattle.refusals.proofs.Settled.{settle_refused}
use Rattle.refusals.proofs.Lent.{clearing_in, never-clears, lent_refused}
use Rattle.refusals.proofs.Lent.{lent_declined, lent_behind}
use Rattle.massey.specs.Shortest.{ShortestRecurrence}
use Rattle.massey.proofs.Inverting.{inverts}
use Rattle.rate_free.specs.Ratings.{FreeRatedAs}

-- The conditions in two parts: 7, 8, and then 16
module _ (F : Field) (ts : List ℕ) (answer work : ℕ) where
  free-parts : free_table F ts answer work ≡ terms_table F ts ++ lent_table answer work
  unfolding free_table terms_table lent_table
  free-parts = refl

  pub checked_verdict :
      (v : Reply (Unit {0}))
      → first_of (terms_table F ts) ≡ none
      → number_in v ≡ first_of (lent_table answer work)
      → number_in v ≡ first_of (free_table F ts answer work)
  unfolding number_in
  checked_verdict v passed e =
      e
      ∙ sym (accepted-before (terms_table F ts) (lent_table answer work) (sym passed) refl)
      ∙ sym (ap first_of free-parts)

  terms_decide :
      {v : Reply (Unit {0})} {x : Refusal}
      → number_in v ≡ first_of (terms_table F ts)
      → v ≡ Err x
      → number_in (Err x) ≡ first_of (free_table F ts answer work)
  terms_decide e q =
      refused_before (terms_table F ts) (lent_table answer work) e q ∙ sym (ap first_of free-parts)

-- The verdict accepts
pub record FreeAccepted (F : Field) (ts : List ℕ) (answer work : ℕ) : Type 0 where
  pub count : length ts ≤ 4096
  pub answer_room : 4097 ≤ answer
  pub work_room : 8192 ≤ work

ltb_false_le : (m n : ℕ) → ltb m n ≡ false → n ≤ m
ltb_false_le m n e = elim (dec_lt m n) [ yes l ↦ absurd (false-T e (lt→ltb m n l)) | no l ↦ omega arith ]

module _ (F : Field) (ts : List ℕ) (answer work : ℕ) {v : Reply (Unit {0})}
    (e : number_in v ≡ first_of (free_table F ts answer work)) (q : v ≡ Ok tt) where
  pub verdict_open : first_of (free_table F ts answer work) ≡ none
  unfolding number_in
  verdict_open = sym e ∙ ap number_in q

  pub verdict_accepted : FreeAccepted F ts answer work
  unfolding free_table lent_too_short
  verdict_accepted =
      let h = first_of_passes (free_table F ts answer work) verdict_open in
      let (x, y) = or-false (ltb answer 4097) (ltb work 8192) h.lent_enough in
      record {
        count = (count-accepted (length ts) h.count_in_range).1;
        answer_room = ltb_false_le answer 4097 x;
        work_room = ltb_false_le work 8192 y;
      }

-- The verdict refuses
none-clears : (F : Field) (ts : List ℕ) (answer work : ℕ) → clearing_in (free_table F ts answer work) ≡ false
unfolding free_table holds_for_some clears clearing
none-clears F ts answer work = refl

pub rating_refused_lem :
    (F : Field) (ts answer work : List ℕ) {v : Reply (Unit {0})} {x : Refusal}
    → number_in v ≡ first_of (free_table F ts (length answer) (length work))
    → v ≡ Err x
    → FreeRatedAs (free_in F ts (length answer) (length work)) answer work (Err x) answer work
unfolding told_free told free_in figures_of map_result
rating_refused_lem F ts answer work e q =
    let d = settle_refused (free_table F ts (length answer) (length work)) _ e q in
    record {
      rating = ap figures_of (sym d);
      lent = lent_refused d (never-clears _ (none-clears F ts (length answer) (length work)) e q);
    }

pub terms_refused :
    (F : Field) (ts answer work : List ℕ) {v : Reply (Unit {0})} {x : Refusal}
    → number_in v ≡ first_of (terms_table F ts)
    → v ≡ Err x
    → FreeRatedAs (free_in F ts (length answer) (length work)) answer work (Err x) answer work
terms_refused F ts answer work e q =
    rating_refused_lem F ts answer work (terms_decide F ts (length answer) (length work) e q) refl

-- The shortest recurrence is the answer
module _ {F : Field} (I : IsField F) {ts answer work : List ℕ} {L : ℕ} {answer' work' : List ℕ}
    (e : first_of (free_table F ts (length answer) (length work)) ≡ none)
    (s : ShortestRecurrence F ts answer work L answer' work') where
  abbrev rating_at : ℕ → Result (Rated FreeFigures)
  rating_at d =
      answered
      (record {
        figures = record { degree = d; unique = is_unique ts d };
        polynomial = massey_first F (inverse F) ts;
      })

  rating_model : free_in F ts (length answer) (length work) ≡ rating_at L
  rating_model =
      massey_answer I (inverse F) (inverts I) ts (length answer) (length work)
      (first_of_passes (free_table F ts (length answer) (length work)) e)
      ∙ ap rating_at (sym s.degree)

  lent_answered : LentAfter (free_in F ts (length answer) (length work)) answer work answer' work'
  unfolding answer_after work_after
  lent_answered =
      subst (λ r. LentAfter r answer work answer' work') (sym rating_model)
      (record { answer_bytes = s.answer_bytes; work_bytes = s.work_bytes })

  pub rating_answered :
      {r : FreeRating}
      → free_figures_of r ≡ record { degree = L; unique = leb (2 * L) (length ts) }
      → FreeRatedAs (free_in F ts (length answer) (length work)) answer work (Ok r) answer' work'
  unfolding figures_of map_result is_unique told_free told
  rating_answered t =
      record { rating = ap answered t ∙ sym (ap figures_of rating_model); lent = lent_answered }

-- The call, by its field
abbrev rated : List ℕ → List ℕ → List ℕ → Field → Result (Rated FreeFigures)
rated ts answer work F = free_in F ts (length answer) (length work)

module _ {name : FieldName} (ts answer work : List ℕ) where
  pub call_refused : {x : Refusal} → Declined name x → FreeCall name ts answer work (Err x) answer work
  unfolding rate_free told_free told figures_of map_result
  call_refused d =
      record {
        rating = ap figures_of (sym (at_door (rated ts answer work) d));
        lent = lent_declined (rated ts answer work) d;
      }

  pub call_made : {field : GaloisField} {r : Reply FreeRating} {answer' work' : List ℕ}
      → FieldNamed name field
      → FreeRatedAs (rated ts answer work (field_of field)) answer work r answer' work'
      → FreeCall name ts answer work r answer' work'
  unfolding rate_free
  call_made o k =
      record {
        rating = k.rating ∙ ap figures_of (sym (behind_door (rated ts answer work) o));
        lent = lent_behind (rated ts answer work) o k.lent;
      }
