-- Demand 1 for route files, the reader and the program.
--
--   read_accepted, read_refused == what the reader finds, by the records of the file
--   file_tells       == the rating of a file answers, or refuses by a number of its records or of its mode
--   file_sized       == its polynomial and its lent bytes have their sizes
-- Assumes nothing.
use Prim.Native.Nat.{ℕ, zero, suc, ◌≤◌}
use native.Mathlib.Omega.{arith}
use mathlib.Core.Path.{◌≡◌, refl, sym, ap, subst, ◌∙◌}
use mathlib.Core.Logic.{◌⊎◌, inl, inr}
use mathlib.Core.Bool.{Bool, true, false, true≢false}
use mathlib.Core.List.{List, [], map}
use mathlib.Core.Option.{Option, none, some}
use lib.ListN.{length, get_or}
use Rattle.meaning.specs.Answers.{Reply, told, file_places, file_told_of, label_powers, padded}
use Rattle.std.specs.Prelude.{Ok, Err}
use Rattle.meaning.specs.declared.FieldName.{FieldName}
use Rattle.meaning.specs.declared.FileOutcome.{FileOutcome}
use Rattle.meaning.specs.declared.FileRating.{FileRating}
use Rattle.meaning.specs.Search.{holds_for_all, holds_for_some, is_none}
use Rattle.meaning.specs.Field.{Field}
use Rattle.meaning.specs.Result.{Result, Rated, refused, answered, map_result, figures_of, answer_after}
use Rattle.meaning.specs.Result.{work_after}
use Rattle.meaning.specs.FieldNames.{in_field}
use Rattle.meaning.specs.Period.{period_table}
use Rattle.meaning.specs.Portion.{set_table}
use Rattle.meaning.specs.Free.{FreeFigures, free_table}
use Rattle.meaning.specs.Route.{RouteRecord, Mode, period_mode, set_mode, free_mode, mode_of, byte_of, bodies}
use Rattle.meaning.specs.Route.{look_up, records, read_record, end_record, box_of}
use Rattle.meaning.specs.File.{file_factor, terms_of, Label, powers, unique, several, FileFigures, rate_mode}
use Rattle.meaning.specs.File.{field_in, rate_file}
use Rattle.meaning.specs.Answers.{told_file, file_figures_told, label_told, told_record, FileTold}
use Rattle.meaning.specs.Answers.{file_padded}
use Rattle.meaning.specs.Calls.{FileCall, body_after}
use Rattle.meaning.specs.Print.{printed}
use Rattle.meaning.proofs.Determined.{refusals, refusal_of, file_call_determined, record_call_determined}
use Rattle.bridge.proofs.Basics.Searches.{map_answered, map_refused, never_answered, refused_same}
use Rattle.bridge.proofs.Basics.Interpretation.{IsField}
use Rattle.bridge.proofs.Files.Records.{records-suited, records-number}
use Rattle.bridge.proofs.Files.FileRatings.{known-mode, accepted-file, refused_file, file-size, period-map}
use Rattle.bridge.proofs.Files.FileRatings.{set-map}
use Rattle.bridge.proofs.Files.FileRatings.{free-map, pairs-nonempty}
use Rattle.theorems.specs.Answering.{Answered, OneOf, Tells, mode_numbers, reader_numbers, file_numbers}
use Rattle.theorems.specs.Answering.{file_degree, FileAnswers, RecordAnswers, ProgramAnswers}
use Rattle.theorems.specs.Answering.{Decided, reader_conditions}
use Rattle.theorems.specs.Files.{RatedBy, free_told}
use Rattle.theorems.proofs.Telling.{map_tells, Keeping, keeping, is_listed, Listed, listed, meets}
use Rattle.theorems.proofs.Telling.{Sized, lent-after, rating_answers}
use Rattle.theorems.proofs.Names.{name_tells, name-lent}
use Rattle.theorems.proofs.Answering.{period-listed, period-keeping, period_tells, period-lent}
use Rattle.theorems.proofs.Answering.{set-listed, set-keeping, set_tells, set-lent}
use Rattle.theorems.proofs.Answering.{free-listed, free-keeping, free_tells, free-lent}
use Rattle.theorems.proofs.Deciding.{answered_decided, refused_decided, map-decided}
use Rattle.theorems.proofs.FileDeciding.{unknown_unsuited, records-decided, file-decided}
use Rattle.theorems.proofs.Files.{file_promise}

-- THE READER
reader_number : (n : ℕ) → 1 ≤ n → n ≤ 5 → OneOf n reader_numbers
unfolding holds_for_some
reader_number zero l u = absurd (omega arith)
reader_number (suc zero) l u = tt
reader_number (suc (suc zero)) l u = tt
reader_number (suc (suc (suc zero))) l u = tt
reader_number (suc (suc (suc (suc zero)))) l u = tt
reader_number (suc (suc (suc (suc (suc zero))))) l u = tt
reader_number (suc (suc (suc (suc (suc (suc n)))))) l u = absurd (omega arith)

pub records_tells : (file : List ℕ) → Tells reader_numbers (records file)
records_tells file = go (records file) refl
  where
    go : (x : Result (List RouteRecord)) → records file ≡ x → Tells reader_numbers (records file)
    go (refused n) e = let (l, u) = records-number file e in inr (n, e, reader_number n l u)
    go (answered rs) e = inl (rs, e)

pub read_accepted :
    (file : List ℕ) (n : ℕ) {rs : List RouteRecord}
    → records file ≡ answered rs
    → read_record file n ≡ answered (get_or rs n end_record)
unfolding read_record
read_accepted file n e = rw (e, read_record)

pub read_refused : (file : List ℕ) (n : ℕ) {k : ℕ} → records file ≡ refused k → read_record file n ≡ refused k
unfolding read_record
read_refused file n e = rw (e, read_record)

pub read_tells : (file : List ℕ) (n : ℕ) → Tells reader_numbers (read_record file n)
read_tells file n = elim (records_tells file) [
  | inl (rs, e) ↦ inl (get_or rs n end_record, read_accepted file n e)
  | inr (k, e, h) ↦ inr (k, read_refused file n e, h)
]

pub read_decided : (file : List ℕ) (n : ℕ) → Decided (reader_conditions file) (read_record file n)
read_decided file n = elim (records_tells file) [
  | inl (rs, e) ↦ answered_decided (reader_conditions file)
      (get_or rs n end_record, read_accepted file n e)
      ((records-decided file).answers.0 (rs, e))
  | inr (k, e, h) ↦ refused_decided (reader_conditions file) (read_refused file n e)
      (((records-decided file).refuses k).0 e)
]

reader_listed : Listed reader_numbers
unfolding is_listed refusal_of refusals look_up holds_for_all is_none
reader_listed = listed _ tt

pub record_answers : RecordAnswers
unfolding told_record told
record_answers file n =
    record {
      tells =
          λ r body c.
          map_tells reader_numbers (λ a. a.kind) (read_record file n) c.found (read_tells file n);
      decided =
          λ r body c. map-decided _ (λ a. a.kind) (read_record file n) c.found (read_decided file n);
      some =
          let (r, e) =
          meets told_record Ok Err (λ a. refl) (λ z. refl) reader_numbers
          reader_listed (map_result (λ a. a.kind) (read_record file n))
          (map_tells reader_numbers (λ a. a.kind) (read_record file n) refl (read_tells file n)) in
          (r, body_after (read_record file n), record { found = e; part = refl });
      one = λ r s _ _ c d. record_call_determined c d;
    }

-- ROUTE FILES
abbrev mode_rating : List RouteRecord → ℕ → ℕ → Mode → Field → Result (Rated FileFigures)
mode_rating rs answer work m F = rate_mode m F (map file_factor (bodies 4 rs)) (terms_of rs) answer work

abbrev mode_result : List RouteRecord → ℕ → ℕ → Mode → Result (Rated FileFigures)
mode_result rs answer work m = in_field (field_in rs) (mode_rating rs answer work m)

mode_tells :
    (rs : List RouteRecord) (answer work : ℕ) (m : Mode)
    → Tells (mode_numbers m (field_in rs)) (mode_result rs answer work m)
unfolding rate_mode period_table set_table free_table
mode_tells rs answer work period_mode =
    name_tells (field_in rs) (mode_rating rs answer work period_mode) _
    (λ _. map_tells _ _ _ (period-map _) (period_tells _ _ _ _ (terms_of rs) answer work))
mode_tells rs answer work set_mode =
    name_tells (field_in rs) (mode_rating rs answer work set_mode) _
    (λ I.
    map_tells _ _ _ (set-map (length (terms_of rs)) _)
    (set_tells I _ _ _ (terms_of rs) answer work (λ _. pairs-nonempty (map file_factor (bodies 4 rs)))))
mode_tells rs answer work free_mode =
    name_tells (field_in rs) (mode_rating rs answer work free_mode) _
    (λ I. map_tells _ _ _ (free-map (length (terms_of rs)) _) (free_tells I (terms_of rs) answer work))

-- a file is refused by its records, or rated by its mode
by-file :
    (file : List ℕ) (answer work : ℕ) (B : List ℕ → Result (Rated FileFigures) → Type 0)
    → ((n : ℕ) → OneOf n reader_numbers → B reader_numbers (refused n))
    → ((rs : List RouteRecord) (m : Mode) → B (mode_numbers m (field_in rs)) (mode_result rs answer work m))
    → B (file_numbers (records file)) (rate_file file answer work)
by-file file answer work B early way = go (records file) refl
  where
    go :
        (x : Result (List RouteRecord))
        → records file ≡ x
        → B (file_numbers x) (rate_file file answer work)
    go (refused n) e = elim (records_tells file) [
      | inl (rs, q) ↦ never_answered (sym e ∙ q)
      | inr (k, q, h) ↦ subst (B reader_numbers) (sym (refused_file file answer work q)) (early k h)
    ]
    go (answered rs) e = by (mode_of (byte_of 3 rs)) refl
      where
        by :
            (o : Option Mode)
            → mode_of (byte_of 3 rs) ≡ o
            → B (elim o [ none ↦ [] | some m ↦ mode_numbers m (field_in rs) ]) (rate_file file answer work)
        by none q = absurd (true≢false (sym (unknown_unsuited rs q) ∙ records-suited file e))
        by (some m) q =
            subst (B (mode_numbers m (field_in rs)))
            (sym (accepted-file file answer work e ∙ known-mode rs answer work q))
            (way rs m)

pub file_tells :
    (file : List ℕ) (answer work : ℕ)
    → Tells (file_numbers (records file)) (rate_file file answer work)
file_tells file answer work =
    by-file file answer work (λ numbers x. Tells numbers x) (λ n h. inr (n, refl, h))
    (λ rs m. mode_tells rs answer work m)

-- a mode tells what its way answers
moved :
    {A B : Type 0} (g : A → B) (x : Result A) (y : Result B)
    → y ≡ map_result g x
    → Answered y ⊎ (y ≡ refused 17)
    → Answered x ⊎ (x ≡ refused 17)
moved g x y e (inl (b, q)) = let (a, z, _) = map_answered g x (sym e ∙ q) in inl (a, z)
moved g x y e (inr q) = inr (map_refused g x (sym e ∙ q))

mode-lent :
    (rs : List RouteRecord) (answer work : ℕ) (m : Mode) {F : Field}
    → IsField F
    → let x = mode_rating rs answer work m F in
    Answered x ⊎ (x ≡ refused 17)
    → (4097 ≤ answer) × (8192 ≤ work)
unfolding rate_mode
mode-lent rs answer work period_mode {F} I h =
    period-lent F _ _ _ (terms_of rs) answer work (moved _ _ _ (period-map _) h)
mode-lent rs answer work set_mode I h =
    set-lent I _ _ _ (terms_of rs) answer work (moved _ _ _ (set-map (length (terms_of rs)) _) h)
mode-lent rs answer work free_mode I h =
    free-lent I (terms_of rs) answer work (moved _ _ _ (free-map (length (terms_of rs)) _) h)

file-lent :
    (file : List ℕ) (answer work : ℕ)
    → let x = rate_file file answer work in
    Answered x ⊎ (x ≡ refused 17)
    → (4097 ≤ answer) × (8192 ≤ work)
unfolding holds_for_some
file-lent file answer work =
    by-file file answer work
    (λ numbers x. Answered x ⊎ (x ≡ refused 17) → (4097 ≤ answer) × (8192 ≤ work))
    (λ n h z. absurd (elim z [
      | inl (a, e) ↦ never_answered e
      | inr e ↦ subst (λ k. OneOf k reader_numbers) (refused_same e) h
    ]))
    (λ rs m. name-lent (field_in rs) (mode_rating rs answer work m) (λ I. mode-lent rs answer work m I))

label_degree : (l : Label) (d m : ℕ) → file_degree (label_told l d m) ≡ d
unfolding label_told
label_degree (powers rs) d m = refl
label_degree unique d m = refl
label_degree several d m = refl

mode-listed : (m : Mode) (name : FieldName) → Listed (mode_numbers m name)
mode-listed period_mode = period-listed
mode-listed set_mode = set-listed
mode-listed free_mode = free-listed

none-listed : Listed []
unfolding holds_for_some
none-listed n h = absurd h

numbers-listed : (x : Result (List RouteRecord)) → Listed (file_numbers x)
numbers-listed (refused n) = reader_listed
numbers-listed (answered rs) = go (mode_of (byte_of 3 rs))
  where
    go : (o : Option Mode) → Listed (elim o [ none ↦ [] | some m ↦ mode_numbers m (field_in rs) ])
    go none = none-listed
    go (some m) = mode-listed m (field_in rs)

outcome_of : Label → ℕ → ℕ → FileOutcome
outcome_of (powers rs) d m = FileOutcome.Powers d m (length rs) (padded rs)
outcome_of unique d m = FileOutcome.Unique d m
outcome_of several d m = FileOutcome.Several d m

outcome_of-told : (l : Label) (d m : ℕ) → file_told_of (outcome_of l d m) ≡ label_told l d m
unfolding outcome_of file_told_of label_told
outcome_of-told (powers rs) d m = refl
outcome_of-told unique d m = refl
outcome_of-told several d m = refl

outcome_of-places : (l : Label) (d m : ℕ) → file_places (Ok (outcome_of l d m)) ≡ padded (label_powers l)
unfolding outcome_of file_places label_powers
outcome_of-places (powers rs) d m = refl
outcome_of-places unique d m = refl
outcome_of-places several d m = refl

-- what a file tells is told by some answer
file-meets :
    (numbers : List ℕ)
    → Listed numbers
    → (x : Result FileFigures)
    → Tells numbers x
    → (r : Reply FileOutcome) × (told_file r ≡ map_result file_figures_told x)
    × (file_places r ≡ file_padded x)
unfolding told_file told map_result file_figures_told file_places file_padded
file-meets numbers numbered x (inl (a, e)) = (
  Ok (outcome_of a.label a.degree a.denominator),
  ap answered (outcome_of-told a.label a.degree a.denominator) ∙ sym (ap (map_result file_figures_told) e),
  outcome_of-places a.label a.degree a.denominator ∙ sym (ap file_padded e),
)
file-meets numbers numbered x (inr (n, e, h)) =
    let (z, q) = numbered n h in (
      Err z,
      ap refused q ∙ sym (ap (map_result file_figures_told) e),
      sym (ap file_padded e),
    )

free-degree : (x : FreeFigures) (m : ℕ) → file_degree (free_told x m) ≡ x.degree
free-degree x m = go x.unique refl
  where
    go : (u : Bool) → x.unique ≡ u → file_degree (free_told x m) ≡ x.degree
    go true e = rw e
    go false e = rw e

-- the degree that is told of a rated file
rated-small :
    (m : Mode) (rs : List RouteRecord) (a : FileTold) (eight answer' : List ℕ)
    → RatedBy m rs a eight answer'
    → file_degree a ≤ 4096
rated-small period_mode rs a eight answer' x =
    subst (λ a. file_degree a ≤ 4096) (sym x.tells) x.rated.small
rated-small set_mode rs a eight answer' x =
    subst (λ a. file_degree a ≤ 4096) (sym x.tells) x.rated.small
rated-small free_mode rs a eight answer' x =
    subst (λ a. file_degree a ≤ 4096) (sym x.tells)
    (subst (λ d. d ≤ 4096) (sym (free-degree x.figures (length (terms_of rs)))) x.rated.small)

module _ (file answer work : List ℕ) where
  abbrev result : Result (Rated FileFigures)
  result = rate_file file (length answer) (length work)

  file-some :
      (r : FileRating)
      × (answer' : List ℕ)
      × (work' : List ℕ)
      × FileCall file answer work r answer' work'
  unfolding figures_of
  file-some =
      let numbers = file_numbers (records file) in
      let (o, e, f) =
      file-meets numbers (numbers-listed (records file)) (figures_of result)
      (map_tells numbers (λ a. a.figures) result refl
      (file_tells file (length answer) (length work))) in (
        record { sender = box_of file; outcome = o },
        answer_after result answer,
        work_after result work,
        record {
          sender = refl;
          rating = e;
          powers = f;
          lent = lent-after result answer work;
        },
      )

  file_sized : Sized (λ a. file_degree (file_figures_told a)) result (length answer) (length work)
  unfolding file_figures_told figures_of map_result
  file_sized =
      record {
        polynomial =
            λ a e.
            file-size file (length answer) (length work) e
            ∙ ap suc (sym (label_degree a.figures.label a.figures.degree a.figures.denominator));
        small =
            λ a e.
            let (r, answer', work', c) = file-some in
            let (rs, m, _, x) =
            (file_promise file answer work r answer' work' c).rated (file_figures_told a.figures)
            (c.rating ∙ ap (λ x. map_result file_figures_told (figures_of x)) e) in
            rated-small m rs (file_figures_told a.figures) (file_places r.outcome) answer' x;
        lent = file-lent file (length answer) (length work);
      }

-- none of the numbers of a file is 0, and each but 17 leaves the work bytes as they were
mode-keeping : (m : Mode) (name : FieldName) → Keeping (mode_numbers m name)
mode-keeping period_mode = period-keeping
mode-keeping set_mode = set-keeping
mode-keeping free_mode = free-keeping

pub file-keeping : (x : Result (List RouteRecord)) → Keeping (file_numbers x)
unfolding holds_for_all holds_for_some
file-keeping (refused k) = keeping reader_numbers tt
file-keeping (answered rs) = go (mode_of (byte_of 3 rs))
  where
    go : (o : Option Mode) → Keeping (elim o [ none ↦ [] | some m ↦ mode_numbers m (field_in rs) ])
    go none n h = absurd h
    go (some m) n h = mode-keeping m (field_in rs) n h

pub file_answers : FileAnswers
file_answers file answer work =
    record {
      each =
          λ r answer' work' c.
          rating_answers _ _ file_degree file_figures_told (result file answer work)
          (told_file r.outcome) answer work answer' work' c.rating
          (file-keeping (records file))
          (file_tells file (length answer) (length work))
          (file-decided file (length answer) (length work)) (file_sized file answer work)
          c.lent;
      some = file-some file answer work;
      one = λ r s _ _ _ _ c d. file_call_determined c d;
    }

-- THE PROGRAM
pub program_answers : ProgramAnswers
program_answers input =
    record {
      some = (printed input, record { lines = refl });
      one = λ o o' c d. c.lines ∙ sym d.lines;
    }
