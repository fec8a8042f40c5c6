-- The walk over the bytes of a file, and the records of a whole file.
--
--   walk_skip, walk_unknown, walk-cut, walk_misplaced, walk_good == what each test makes of the walk
--   flat rs          == the records one after another: each kind before its body
--   Whole rs         == the bodies of the records have the lengths of their kinds
--   Walked x bytes   == where the result x is an answer, its records are whole, and put one after another
--                       they are the bytes; a refusal is by 1 to 5
--   records-walked   == so it is of the records of a file; `records-whole`, `records-number` for its two
--                       cases
--   records-long, records-short == the records of a file by its length
--   records-suited   == the factors of an accepted file suit its mode
-- Assumes nothing.
use Prim.Native.Nat.{ℕ, zero, suc, ◌<◌, ◌≤◌}
use native.Mathlib.Omega.{arith}
use native.Mathlib.Decide.{dec_lt}
use mathlib.Core.Path.{◌≡◌, refl, sym, ap, ◌∙◌}
use mathlib.Core.Bool.{Bool, true, false}
use mathlib.Core.List.{List, [], ◌∷◌, ◌++◌}
use mathlib.Core.Option.{Option, none, some}
use borrow.Author.Tests.{ltb-false, lt-ltb, le-ltb}
use lib.Dec.{ltb, lit≤}
use lib.ListN.{length, take, drop, take-append-drop}
use lib.Seq.{length-take-le}
use Rattle.meaning.specs.Result.{Result, refused, answered}
use Rattle.meaning.specs.Route.{RouteRecord, Stage, at_start, after_box, after_field, in_factors, in_terms}
use Rattle.meaning.specs.Route.{after_end, look_up, body_lengths, admitted, before, stopped, walk, records}
use Rattle.meaning.specs.Route.{suited, mode_unsuited}

-- ONE STEP OF THE WALK

-- what is left of a body is passed over
pub walk_skip : (bytes : List ℕ) (skip : ℕ) (stage : Stage)
    → walk bytes skip stage ≡ walk (drop skip bytes) 0 stage
unfolding walk
walk_skip [] zero stage = refl
walk_skip [] (suc k) stage = refl
walk_skip (b ∷ rest) zero stage = refl
walk_skip (b ∷ rest) (suc k) stage = walk_skip rest k stage

module _ (kind : ℕ) (rest : List ℕ) (stage : Stage) where
  pub walk_unknown : look_up kind body_lengths ≡ none → walk (kind ∷ rest) 0 stage ≡ refused 2
  unfolding walk
  walk_unknown e = rw (e, walk)

  module _ {n : ℕ} (e : look_up kind body_lengths ≡ some n) where
    pub walk-cut : ltb (length rest) n ≡ true → walk (kind ∷ rest) 0 stage ≡ refused 3
    unfolding walk
    walk-cut t = rw (e, t, walk)

    module _ (t : ltb (length rest) n ≡ false) where
      pub walk_misplaced : look_up kind (admitted stage) ≡ none → walk (kind ∷ rest) 0 stage ≡ refused 4
      unfolding walk
      walk_misplaced a = rw (e, t, a, walk)

      pub walk_good : {after : Stage} → look_up kind (admitted stage) ≡ some after
          → walk (kind ∷ rest) 0 stage
          ≡ before (record { kind = kind; body = take n rest }) (walk rest n after)
      unfolding walk
      walk_good a = rw (e, t, a, walk)

-- THE WHOLE WALK
abbrev pub flat : List RouteRecord → List ℕ
flat [] = []
flat (r ∷ rs) = r.kind ∷ (r.body ++ flat rs)

abbrev pub Whole : List RouteRecord → Type 0
Whole [] = Unit {0}
Whole (r ∷ rs) = (look_up r.kind body_lengths ≡ some (length r.body)) × Whole rs

abbrev pub Walked : Result (List RouteRecord) → List ℕ → Type 0
Walked (refused n) bytes = (1 ≤ n) × (n ≤ 5)
Walked (answered rs) bytes = (flat rs ≡ bytes) × Whole rs

refused_walked : (bytes : List ℕ) {n : ℕ} (x : Result (List RouteRecord)) → (1 ≤ n) × (n ≤ 5)
    → x ≡ refused n
    → Walked x bytes
refused_walked bytes x h e = rw e h

stopped-walked : (stage : Stage) → Walked (stopped stage) []
unfolding stopped
stopped-walked at_start = (lit≤ tt, lit≤ tt)
stopped-walked after_box = (lit≤ tt, lit≤ tt)
stopped-walked after_field = (lit≤ tt, lit≤ tt)
stopped-walked in_factors = (lit≤ tt, lit≤ tt)
stopped-walked in_terms = (lit≤ tt, lit≤ tt)
stopped-walked after_end = (refl, tt)

before-walked :
    (kind n : ℕ) (rest : List ℕ)
    → look_up kind body_lengths ≡ some (length (take n rest))
    → (x : Result (List RouteRecord))
    → Walked x (drop n rest)
    → Walked (before (record { kind = kind; body = take n rest }) x) (kind ∷ rest)
unfolding before
before-walked kind n rest e (refused k) h = h
before-walked kind n rest e (answered rs) h = (
  ap (◌∷◌ kind) (ap (◌++◌ (take n rest)) h.0 ∙ take-append-drop n rest),
  (e, h.1),
)

-- one record, and then what the rest answers
module _ (kind : ℕ) (rest : List ℕ) (stage : Stage)
    (recur : (n : ℕ) (after : Stage) → Walked (walk rest n after) (drop n rest)) where
  abbrev Next : Type 0
  Next = Walked (walk (kind ∷ rest) 0 stage) (kind ∷ rest)

  module _ {n : ℕ} (e : look_up kind body_lengths ≡ some n) where
    placed-walked : ltb (length rest) n ≡ false → (o : Option Stage) → look_up kind (admitted stage) ≡ o →
        Next
    placed-walked t none a =
        refused_walked (kind ∷ rest) _ (lit≤ tt, lit≤ tt) (walk_misplaced kind rest stage e t a)
    placed-walked t (some after) a =
        rw (walk_good kind rest stage e t a)
        (before-walked kind n rest (e ∙ ap some (sym (length-take-le n rest (ltb-false _ _ t))))
        (walk rest n after) (recur n after))

    fitting_walked : (t : Bool) → ltb (length rest) n ≡ t → Next
    fitting_walked true t = refused_walked (kind ∷ rest) _ (lit≤ tt, lit≤ tt) (walk-cut kind rest stage e t)
    fitting_walked false t = placed-walked t (look_up kind (admitted stage)) refl

  known-walked : (o : Option ℕ) → look_up kind body_lengths ≡ o → Next
  known-walked none e = refused_walked (kind ∷ rest) _ (lit≤ tt, lit≤ tt) (walk_unknown kind rest stage e)
  known-walked (some n) e = fitting_walked e (ltb (length rest) n) refl

pub walk-walked : (bytes : List ℕ) (skip : ℕ) (stage : Stage)
    → Walked (walk bytes skip stage) (drop skip bytes)
unfolding walk
walk-walked [] zero stage = stopped-walked stage
walk-walked [] (suc k) stage = stopped-walked stage
walk-walked (b ∷ rest) (suc k) stage = walk-walked rest k stage
walk-walked (kind ∷ rest) zero stage =
    known-walked kind rest stage (walk-walked rest) (look_up kind body_lengths) refl

-- A WHOLE FILE
suited-walked : (bytes : List ℕ) (x : Result (List RouteRecord)) → Walked x bytes → Walked (suited x) bytes
unfolding suited
suited-walked bytes (refused n) h = h
suited-walked bytes (answered rs) h = go (mode_unsuited rs) refl
  where
    go : (t : Bool) → mode_unsuited rs ≡ t → Walked (suited (answered rs)) bytes
    go true e = rw (e, suited) (lit≤ tt, lit≤ tt)
    go false e = rw (e, suited) h

-- an answer is of a mode that the factors suit
suited_answered : (x : Result (List RouteRecord)) {rs : List RouteRecord} → suited x ≡ answered rs
    → mode_unsuited rs ≡ false
unfolding suited
suited_answered (refused n) e = cc
suited_answered (answered qs) {rs} e = go (mode_unsuited qs) refl
  where
    go : (t : Bool) → mode_unsuited qs ≡ t → mode_unsuited rs ≡ false
    go true h = let z = rw (h, suited) at e in cc
    go false h = let z : answered qs ≡ answered rs = rw (h, suited) at e in sym (ap mode_unsuited (cc)) ∙ h

module _ (file : List ℕ) where
  pub records-long : 16384 < length file → records file ≡ refused 1
  unfolding records
  records-long h = rw (lt-ltb _ _ h, records)

  pub records-short : length file ≤ 16384 → records file ≡ suited (walk file 0 at_start)
  unfolding records
  records-short h = rw (le-ltb _ _ h, records)

  pub records-suited : {rs : List RouteRecord} → records file ≡ answered rs → mode_unsuited rs ≡ false
  unfolding records
  records-suited {rs} e = go (ltb 16384 (length file)) refl
    where
      go : (t : Bool) → ltb 16384 (length file) ≡ t → mode_unsuited rs ≡ false
      go true h = let z = rw (h, records) at e in cc
      go false h = suited_answered (walk file 0 at_start) (rw (h, records) at e)

  pub records-walked : Walked (records file) file
  records-walked = go (dec_lt 16384 (length file))
    where
      go : Dec (16384 < length file) → Walked (records file) file
      go (yes h) = rw (records-long h) (lit≤ tt, lit≤ tt)
      go (no h) =
          rw (records-short (omega arith))
          (suited-walked file (walk file 0 at_start) (walk-walked file 0 at_start))

  pub records-whole : {rs : List RouteRecord} → records file ≡ answered rs → (flat rs ≡ file) × Whole rs
  records-whole e = rw e at records-walked

  pub records-number : {n : ℕ} → records file ≡ refused n → (1 ≤ n) × (n ≤ 5)
  records-number e = rw e at records-walked
