-- Laws of the verdict on records that are cut where the bytes end: what each test of a step makes of it, and
-- that it is the verdict of the walk over the bytes.
-- Assumes nothing.
use Prim.Native.Nat.{ℕ, zero, suc, ◌<◌, ◌≤◌}
use mathlib.Core.Path.{◌≡◌, refl, sym, ap, ◌∙◌}
use mathlib.Core.Bool.{Bool, true, false}
use mathlib.Core.List.{List, [], ◌∷◌}
use mathlib.Core.Option.{Option, none, some}
use native.Mathlib.Omega.{arith}
use borrow.Author.Tests.{lt-ltb, le-ltb, ltb-true, ltb-false}
use lib.Dec.{ltb}
use lib.ListN.{length, take, length-take}
use Rattle.meaning.specs.Result.{Result, refused, answered, map_result}
use Rattle.meaning.specs.Route.{RouteRecord, Stage, look_up, body_lengths, admitted, before, stopped, walk}
use Rattle.route.specs.framing.Framing.{or_else, body_length, framed}
use Rattle.meaning.specs.Answers.{number_of}
use Rattle.meaning.specs.declared.Refusal.{Refusal}
use Rattle.meaning.specs.declared.Refusal.TheVariants.{RecordOutOfPlace}
use Rattle.std.specs.Prelude as std
use Rattle.std.specs.Option.{ok_or}
use Rattle.route.specs.declared.walk.Stage as declared
use Rattle.route.specs.walk.Walking.{verdict_of, judged, stage_of, stage_told, stepped, StepCall}
use Rattle.bridge.proofs.Files.Records.{walk_unknown, walk-cut, walk_misplaced, walk_good}

module _ (r : RouteRecord) (rs : List RouteRecord) (stage : Stage) where
  pub judged_unknown : look_up r.kind body_lengths ≡ none → judged (r ∷ rs) stage ≡ refused 2
  unfolding judged
  judged_unknown e = rw (e, judged)

  module _ {n : ℕ} (e : look_up r.kind body_lengths ≡ some n) where
    pub judged_cut : length r.body < n → judged (r ∷ rs) stage ≡ refused 3
    unfolding judged
    judged_cut h = rw (e, lt-ltb _ _ h, judged)

    module _ (h : n ≤ length r.body) where
      pub judged_misplaced : look_up r.kind (admitted stage) ≡ none → judged (r ∷ rs) stage ≡ refused 4
      unfolding judged
      judged_misplaced a = rw (e, le-ltb _ _ h, a, judged)

      pub judged_good : {after : Stage} → look_up r.kind (admitted stage) ≡ some after
          → judged (r ∷ rs) stage ≡ judged rs after
      unfolding judged
      judged_good a = rw (e, le-ltb _ _ h, a, judged)

-- a verdict does not ask which records went before
verdict_before : (r : RouteRecord) (x : Result (List RouteRecord)) → verdict_of (before r x) ≡ verdict_of x
unfolding verdict_of before map_result
verdict_before r (refused n) = refl
verdict_before r (answered rs) = refl

module _ (kind : ℕ) (rest : List ℕ) (stage : Stage)
    (recur : (skip : ℕ) (after : Stage) → verdict_of (walk rest skip after) ≡ judged (framed rest skip) after)
  where
    first : RouteRecord
    first = record { kind = kind; body = take (body_length kind) rest }

    Same : Type 0
    Same = verdict_of (walk (kind ∷ rest) 0 stage) ≡ judged (first ∷ framed rest (body_length kind)) stage

    module _ (n : ℕ) (e : look_up kind body_lengths ≡ some n) where
      long : body_length kind ≡ n
      unfolding body_length or_else
      long = rw (e, or_else)

      fits : n ≤ length rest → n ≤ length first.body
      unfolding first
      fits h = omega (arith, length-take (body_length kind) rest, long)

      placed : n ≤ length rest → (o : Option Stage) → look_up kind (admitted stage) ≡ o → Same
      unfolding Same first verdict_of map_result
      placed h none a =
          ap verdict_of (walk_misplaced kind rest stage e (le-ltb _ _ h) a)
          ∙ sym (judged_misplaced first _ stage e (fits h) a)
      placed h (some after) a =
          ap verdict_of (walk_good kind rest stage e (le-ltb _ _ h) a)
          ∙ verdict_before _ _ ∙ recur n after
          ∙ ap (λ k. judged (framed rest k) after) (sym long)
          ∙ sym (judged_good first _ stage e (fits h) a)

      fitting : (t : Bool) → ltb (length rest) n ≡ t → Same
      unfolding Same first verdict_of map_result
      fitting true t =
          ap verdict_of (walk-cut kind rest stage e t)
          ∙ sym (judged_cut first _ stage e
          (omega (arith, length-take (body_length kind) rest, long, ltb-true _ _ t)))
      fitting false t = placed (ltb-false _ _ t) (look_up kind (admitted stage)) refl

    same : (o : Option ℕ) → look_up kind body_lengths ≡ o → Same
    unfolding Same first verdict_of map_result
    same none e = ap verdict_of (walk_unknown kind rest stage e) ∙ sym (judged_unknown first _ stage e)
    same (some n) e = fitting n e (ltb (length rest) n) refl

pub judged-walk : (bytes : List ℕ) (skip : ℕ) (stage : Stage)
    → verdict_of (walk bytes skip stage) ≡ judged (framed bytes skip) stage
unfolding walk judged framed Same first
judged-walk [] zero stage = refl
judged-walk [] (suc k) stage = refl
judged-walk (b ∷ rest) (suc k) stage = judged-walk rest k stage
judged-walk (kind ∷ rest) zero stage =
    same kind rest stage (judged-walk rest) (look_up kind body_lengths) refl

-- the step with the stage that it tells, or with none
pub judged_after : (r : RouteRecord) (stage : declared.Stage) {n : ℕ} → look_up r.kind body_lengths ≡ some n
    → n ≤ length r.body → (o : std.Option declared.Stage)
    → stage_told o ≡ look_up r.kind (admitted (stage_of stage))
    → StepCall (stage_of stage) r (ok_or o RecordOutOfPlace)
unfolding stepped number_of
judged_after r stage e h std.None a = record { rest = λ rs. judged_misplaced r rs _ e h (sym a) }
judged_after r stage e h (std.Some s) a = record { rest = λ rs. judged_good r rs _ e h (sym a) }

-- a step keeps the verdict on the records that are left, or decides it
module _ {stage : Stage} {r : RouteRecord} {s : std.Result declared.Stage Refusal}
    (call : StepCall stage r s) where
  pub turn-kept : {after : declared.Stage} → s ≡ std.Ok after → (rs : List RouteRecord)
      → judged (r ∷ rs) stage ≡ judged rs (stage_of after)
  unfolding stepped
  turn-kept e rs = call.rest rs ∙ ap (stepped rs) e

  pub turn-bad : {q : Refusal} → s ≡ std.Err q → (rs : List RouteRecord)
      → judged (r ∷ rs) stage ≡ refused (number_of q)
  unfolding stepped
  turn-bad e rs = call.rest rs ∙ ap (stepped rs) e

-- where no record is left, the stage decides
pub judged_end : judged [] (stage_of declared.Stage.End) ≡ answered tt
unfolding judged stopped verdict_of map_result
judged_end = refl

pub judged_early : (s : declared.Stage) → (s ≡ declared.Stage.End → ⊥) → judged [] (stage_of s) ≡ refused 3
unfolding judged stopped verdict_of map_result
judged_early declared.Stage.Start h = refl
judged_early declared.Stage.AfterBox h = refl
judged_early declared.Stage.AfterField h = refl
judged_early declared.Stage.Factors h = refl
judged_early declared.Stage.Terms h = refl
judged_early declared.Stage.End h = absurd (h refl)
