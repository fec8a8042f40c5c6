-- The conditions of a file decide: 1 to 5 by its records, then those of its mode.
--
--   reached_refused  == a bad record that is reached decides the walk
--   walk_says        == what the walk finds, in words
--   records-decided  == 1 to 5 decide what the reader finds
--   file-decided     == the conditions of a file decide its rating
-- Assumes nothing.
use Prim.Native.Nat.{ℕ, zero, suc, ◌≤◌, ◌<◌}
use native.Mathlib.Omega.{arith}
use native.Mathlib.Decide.{dec_lt}
use mathlib.Core.Path.{◌≡◌, refl, sym, ap, subst, ◌∙◌}
use mathlib.Core.Logic.{◌⊎◌, ◌≢◌, inl, inr}
use mathlib.Core.Bool.{Bool, true, false, true≢false}
use mathlib.Core.List.{List, [], ◌∷◌, ◌++◌, map}
use mathlib.Core.Option.{Option, none, some}
use lib.ListN.{length, get_or, drop, length-drop, length-map}
use lib.Dec.{ltb}
use borrow.Author.Tests.{ltb-true, ltb-false, lt-ltb, le-ltb}
use Rattle.meaning.specs.Search.{holds_for_some}
use Rattle.meaning.specs.Field.{Field}
use Rattle.meaning.specs.Result.{Result, refused, answered}
use Rattle.meaning.specs.Conditions.{factor_degree_out_of_range, not_monic, is_reducible}
use Rattle.meaning.specs.Route.{RouteRecord, Stage, at_start, after_box, after_field, in_factors, in_terms}
use Rattle.meaning.specs.Route.{after_end, look_up, body_lengths, admitted, stopped, before, walk, suited}
use Rattle.meaning.specs.Route.{mode_unsuited, records, Mode, period_mode, set_mode, free_mode, mode_of}
use Rattle.meaning.specs.Route.{byte_of}
use Rattle.meaning.specs.Route.{bodies}
use Rattle.meaning.specs.File.{WrittenFactor, file_factor, polynomial_of, file_degree_out_of_range}
use Rattle.meaning.specs.File.{file_coefficient_out_of_range, terms_of, rate_mode, field_in, rate_file}
use Rattle.bridge.proofs.Basics.Searches.{never_answered, refused_same, answered_same, true-T, T_true}
use Rattle.bridge.proofs.Files.Records.{walk_skip, walk_unknown, walk-cut, walk_misplaced, walk_good}
use Rattle.bridge.proofs.Basics.Searches.{none-at}
use Rattle.bridge.proofs.Basics.Interpretation.{IsField}
use Rattle.bridge.proofs.Files.Records.{records-long, records-short, records-suited, records-whole}
use Rattle.bridge.proofs.Files.WrittenFactors.{all-full, polynomials-ten, polynomials-eleven}
use Rattle.bridge.proofs.Files.FileRatings.{known-mode, accepted-file, refused_file, exactly-one, period-map}
use Rattle.bridge.proofs.Files.FileRatings.{set-map, free-map, pairs-nonempty}
use Rattle.theorems.specs.Answering.{Decided, Reached, front, onward, UnknownKind, mode_conditions}
use Rattle.theorems.specs.Answering.{BodyCut, EndMissing, OutOfPlace, reader_conditions}
use Rattle.theorems.specs.Answering.{under_name, later_conditions, file_conditions}
use Rattle.theorems.proofs.Deciding.{answered_decided, refused_decided, map-decided, first-earlier}
use Rattle.theorems.proofs.Deciding.{append-decided}
use Rattle.theorems.proofs.Names.{name-decided}
use Rattle.theorems.proofs.Ways.{OneFactor, one-factor_of}
use Rattle.theorems.proofs.Answering.{period_decides, set_decides, free_decides}

-- THE WALK
before_refused : (r : RouteRecord) (x : Result (List RouteRecord)) {n : ℕ} → x ≡ refused n
    → before r x ≡ refused n
unfolding before
before_refused r x e = ap (before r) e

-- a bad record that is reached decides
reached_refused : {file rest : List ℕ} {stage : Stage} {n : ℕ} → Reached file rest stage
    → walk rest 0 stage ≡ refused n
    → walk file 0 at_start ≡ refused n
reached_refused front e = e
reached_refused (onward {kind} {n} {rest} {stage} {after} h known whole place) e =
    reached_refused h
    (walk_good kind rest stage known (le-ltb (length rest) n whole) place
    ∙ before_refused _ (walk rest n after) (walk_skip rest n after ∙ e))

stopped-early : (stage : Stage) → stage ≢ after_end → stopped stage ≡ refused 3
unfolding stopped
stopped-early at_start h = refl
stopped-early after_box h = refl
stopped-early after_field h = refl
stopped-early in_factors h = refl
stopped-early in_terms h = refl
stopped-early after_end h = absurd (h refl)

-- no other stage is that after the end
is_end : Stage → Bool
is_end at_start = false
is_end after_box = false
is_end after_field = false
is_end in_factors = false
is_end in_terms = false
is_end after_end = true

not_end : {stage : Stage} → is_end stage ≡ false → stage ≢ after_end
unfolding is_end
not_end h e = true≢false (sym (ap is_end e) ∙ h)

module _ (file : List ℕ) where
  abbrev walked : Result (List RouteRecord)
  walked = walk file 0 at_start

  unknown_two : UnknownKind file → walked ≡ refused 2
  unknown_two x = reached_refused x.reached (walk_unknown x.kind x.rest x.stage x.unknown)

  cut-three : BodyCut file ⊎ EndMissing file → walked ≡ refused 3
  unfolding walk
  cut-three (inl x) =
      reached_refused x.reached
      (walk-cut x.kind x.rest x.stage x.known (lt-ltb (length x.rest) x.size x.fewer))
  cut-three (inr x) = reached_refused x.reached (stopped-early x.stage x.not_ended)

  misplaced_four : OutOfPlace file → walked ≡ refused 4
  misplaced_four x =
      reached_refused x.reached
      (walk_misplaced x.kind x.rest x.stage x.known
      (le-ltb (length x.rest) x.size x.whole) x.misplaced)

  -- what a walk finds: records, or a bad one
  abbrev Bad : Type 0
  Bad = UnknownKind file ⊎ ((BodyCut file ⊎ EndMissing file) ⊎ OutOfPlace file)

  abbrev Outcome : List ℕ → Stage → Type 0
  Outcome rest stage = ((rs : List RouteRecord) × (walk rest 0 stage ≡ answered rs)) ⊎ Bad

  -- where the bytes are over
  over_says : (stage : Stage) → Reached file [] stage → Outcome [] stage
  unfolding walk stopped is_end
  over_says after_end h = inl ([], refl)
  over_says at_start h =
      inr (inr (inl (inr (record { stage = at_start; reached = h; not_ended = not_end refl }))))
  over_says after_box h =
      inr (inr (inl (inr (record { stage = after_box; reached = h; not_ended = not_end refl }))))
  over_says after_field h =
      inr (inr (inl (inr (record { stage = after_field; reached = h; not_ended = not_end refl }))))
  over_says in_factors h =
      inr (inr (inl (inr (record { stage = in_factors; reached = h; not_ended = not_end refl }))))
  over_says in_terms h =
      inr (inr (inl (inr (record { stage = in_terms; reached = h; not_ended = not_end refl }))))

  -- at a record, where the bytes after each good one are known
  module _ (kind : ℕ) (rest : List ℕ) (stage : Stage) (h : Reached file (kind ∷ rest) stage)
      (later : (n : ℕ) (after : Stage) → Reached file (drop n rest) after → Outcome (drop n rest) after)
    where
      good_says : (n : ℕ) (after : Stage) → look_up kind body_lengths ≡ some n → ltb (length rest) n ≡ false
          → look_up kind (admitted stage) ≡ some after
          → Outcome (kind ∷ rest) stage
      unfolding before
      good_says n after e t a = elim (later n after (onward h e (ltb-false (length rest) n t) a)) [
        | inl (rs, q) ↦ inl (
          _,
          walk_good kind rest stage e t a ∙ ap (before _) (walk_skip rest n after ∙ q),
        )
        | inr bad ↦ inr bad
      ]

      place_says : (n : ℕ) (o : Option Stage) → look_up kind body_lengths ≡ some n → ltb (length rest) n ≡
          false
          → look_up kind (admitted stage) ≡ o
          → Outcome (kind ∷ rest) stage
      place_says n none e t a =
          inr (inr (inr
          (record {
            kind = kind;
            size = n;
            rest = rest;
            stage = stage;
            reached = h;
            known = e;
            whole = ltb-false (length rest) n t;
            misplaced = a;
          })))
      place_says n (some after) e t a = good_says n after e t a

      body_says : (n : ℕ) (b : Bool) → look_up kind body_lengths ≡ some n → ltb (length rest) n ≡ b
          → Outcome (kind ∷ rest) stage
      body_says n true e t =
          inr (inr (inl (inl
          (record {
            kind = kind;
            size = n;
            rest = rest;
            stage = stage;
            reached = h;
            known = e;
            fewer = ltb-true (length rest) n t;
          }))))
      body_says n false e t = place_says n (look_up kind (admitted stage)) e t refl

      kind_says : (o : Option ℕ) → look_up kind body_lengths ≡ o → Outcome (kind ∷ rest) stage
      kind_says none e =
          inr (inl (record { kind = kind; rest = rest; stage = stage; reached = h; unknown = e }))
      kind_says (some n) e = body_says n (ltb (length rest) n) e refl

  -- with at most so many bytes to go
  abbrev Walks : ℕ → Type 0
  Walks most = (rest : List ℕ) (stage : Stage) → length rest ≤ most → Reached file rest stage
      → Outcome rest stage

  none_says : Walks 0
  none_says [] stage l h = over_says stage h
  none_says (kind ∷ rest) stage l h = absurd (omega arith)

  more_says : (most : ℕ) → Walks most → Walks (suc most)
  more_says most walks [] stage l h = over_says stage h
  more_says most walks (kind ∷ rest) stage l h =
      kind_says kind rest stage h
      (λ n after r. walks (drop n rest) after (omega (arith, length-drop n rest)) r)
      (look_up kind body_lengths) refl

  walk_says : (most : ℕ) → Walks most
  walk_says zero = none_says
  walk_says (suc most) = more_says most (walk_says most)

  -- THE READER
  clash : {n k : ℕ} → walked ≡ refused n → walked ≡ refused k → n ≡ k
  clash e q = refused_same (sym e ∙ q)

  -- where the walk finds records none is bad
  module _ {rs : List RouteRecord} (q : walked ≡ answered rs) where
    known-all : UnknownKind file → ⊥
    known-all x = never_answered (sym (unknown_two x) ∙ q)

    whole-all : BodyCut file ⊎ EndMissing file → ⊥
    whole-all x = never_answered (sym (cut-three x) ∙ q)

    placed-all : OutOfPlace file → ⊥
    placed-all x = never_answered (sym (misplaced_four x) ∙ q)

  suited-decided : ¬ (16384 < length file) → (rs : List RouteRecord) → walked ≡ answered rs
      → (b : Bool)
      → mode_unsuited rs ≡ b
      → Decided (reader_conditions file) (records file)
  unfolding suited
  suited-decided short rs q true u =
      refused_decided (reader_conditions file)
      (records-short file (omega arith) ∙ ap suited q ∙ rw (u, suited))
      (inr (
        short,
        inr (
          known-all q,
          inr (
            whole-all q,
            inr (placed-all q, inl (refl, record { held = rs; walked = q; unsuited = true-T u })),
          ),
        ),
      ))
  suited-decided short rs q false u =
      answered_decided (reader_conditions file)
      (rs, records-short file (omega arith) ∙ ap suited q ∙ rw (u, suited)) (
        short,
        (
          known-all q,
          (
            whole-all q,
            (
              placed-all q,
              (
                λ x.
                    true≢false
                    (sym (T_true x.unsuited) ∙ ap mode_unsuited (answered_same (sym x.walked ∙ q)) ∙ u),
                tt,
              ),
            ),
          ),
        ),
      )

  walked-decided : ¬ (16384 < length file) → Outcome file at_start
      → Decided (reader_conditions file) (records file)
  unfolding suited
  walked-decided short (inl (rs, q)) = suited-decided short rs q (mode_unsuited rs) refl
  walked-decided short (inr (inl x)) =
      refused_decided (reader_conditions file)
      (records-short file (omega arith) ∙ ap suited (unknown_two x))
      (inr (short, inl (refl, x)))
  walked-decided short (inr (inr (inl x))) =
      refused_decided (reader_conditions file)
      (records-short file (omega arith) ∙ ap suited (cut-three x))
      (inr (
        short,
        inr (λ y. let z = clash (unknown_two y) (cut-three x) in absurd (omega arith), inl (refl, x)),
      ))
  walked-decided short (inr (inr (inr x))) =
      refused_decided (reader_conditions file)
      (records-short file (omega arith) ∙ ap suited (misplaced_four x))
      (inr (
        short,
        inr (
          λ y. let z = clash (unknown_two y) (misplaced_four x) in absurd (omega arith),
          inr (λ y. let z = clash (cut-three y) (misplaced_four x) in absurd (omega arith), inl (refl, x)),
        ),
      ))

  pub records-decided : Decided (reader_conditions file) (records file)
  records-decided = elim (dec_lt 16384 (length file)) [
    | yes l ↦ refused_decided (reader_conditions file) (records-long file l) (inl (refl, l))
    | no short ↦ walked-decided short (walk_says (length file) file at_start (omega arith) front)
  ]

-- THE MODE
module _ (file : List ℕ) (rs : List RouteRecord) (its : records file ≡ answered rs) {F : Field}
    (I : IsField F) (answer work : ℕ)
  where
    abbrev fs : List WrittenFactor
    fs = map file_factor (bodies 4 rs)

    abbrev ten : Bool
    ten = holds_for_some (file_degree_out_of_range F) fs

    abbrev eleven : Bool
    eleven = holds_for_some (file_coefficient_out_of_range F) fs

    -- the one factor of mode 1
    file-factor : mode_of (byte_of 3 rs) ≡ some period_mode → ten ≡ false → eleven ≡ false
        → is_reducible F (get_or (map polynomial_of fs) 0 []) ≡ false
        → OneFactor F (get_or (map polynomial_of fs) 0 [])
    file-factor mode none-ten none-eleven twelve =
        let one = exactly-one rs mode (records-suited file its) in
        let low : 0 < length (map polynomial_of fs) =
        omega (arith, one, length-map (bodies 4 rs) file_factor, length-map fs polynomial_of) in
        one-factor_of I (get_or (map polynomial_of fs) 0 [])
        (none-at (factor_degree_out_of_range F) [] (map polynomial_of fs) 0
        (polynomials-ten F fs (all-full rs (records-whole file its).1) none-ten) low)
        (none-at (not_monic F) [] (map polynomial_of fs) 0 (polynomials-eleven F I fs none-eleven) low)
        twelve

    mode-decided : (m : Mode) → mode_of (byte_of 3 rs) ≡ some m
        → Decided (mode_conditions m fs (terms_of rs) answer work F)
        (rate_mode m F fs (terms_of rs) answer work)
    unfolding rate_mode
    mode-decided period_mode mode =
        map-decided _ _ _ (period-map _)
        (period_decides F ten eleven _ (terms_of rs) answer work (file-factor mode))
    mode-decided set_mode mode =
        map-decided _ _ _ (set-map (length (terms_of rs)) _)
        (set_decides I ten eleven _ (terms_of rs) answer work (λ _. pairs-nonempty fs))
    mode-decided free_mode mode =
        map-decided _ _ _ (free-map (length (terms_of rs)) _) (free_decides I (terms_of rs) answer work)

-- THE FILE
pub unknown_unsuited : (rs : List RouteRecord) → mode_of (byte_of 3 rs) ≡ none → mode_unsuited rs ≡ true
unfolding mode_unsuited
unknown_unsuited rs e = rw (e, mode_unsuited)

pub file-decided : (file : List ℕ) (answer work : ℕ)
    → Decided (file_conditions file answer work) (rate_file file answer work)
file-decided file answer work = by-records (records file) refl
  where
    by-records : (x : Result (List RouteRecord)) → records file ≡ x
        → Decided (reader_conditions file ++ later_conditions x answer work) (rate_file file answer work)
    by-records (refused n) e =
        refused_decided (reader_conditions file ++ []) (refused_file file answer work e)
        (first-earlier (reader_conditions file) [] n (((records-decided file).refuses n).0 e))
    by-records (answered rs) e = by_mode (mode_of (byte_of 3 rs)) refl
      where
        by_mode : (o : Option Mode) → mode_of (byte_of 3 rs) ≡ o
            → Decided
            (reader_conditions file
            ++ elim o [
              | none ↦ []
              | some m ↦
                  under_name (field_in rs)
                  (mode_conditions m (map file_factor (bodies 4 rs)) (terms_of rs) answer work)
            ])
            (rate_file file answer work)
        by_mode none q = absurd (true≢false (sym (unknown_unsuited rs q) ∙ records-suited file e))
        by_mode (some m) q =
            append-decided (reader_conditions file) _ (rate_file file answer work)
            ((records-decided file).answers.0 (rs, e))
            (subst (Decided _) (sym (accepted-file file answer work e ∙ known-mode rs answer work q))
            (name-decided (field_in rs) _ _ (λ I. mode-decided file rs e I answer work m q)))
