-- The records that the reader hands back are the file; the program prints what the rating of the file tells
-- and leaves. From the contracts alone.
-- Assumes nothing.
use Prim.Native.Nat.{ℕ, zero, suc, ◌<◌}
use mathlib.Core.Path.{◌≡◌, refl, sym, ap, subst₂, ◌∙◌}
use mathlib.Core.List.{List, [], ◌∷◌, ◌++◌, map, append-nil}
use mathlib.Core.Option.{some}
use native.Mathlib.Omega.{arith}
use lib.ListN.{length, get_or, take, replicate, length-replicate, get_or-eq_default}
use lib.Seq.{take_at}
use Rattle.meaning.specs.Answers.{file_places}
use Rattle.meaning.specs.declared.FileRating.{FileRating}
use Rattle.meaning.specs.Polynomial.{Polynomial}
use Rattle.meaning.specs.Result.{Result, Rated, refused, answered, map_result, figures_of, answer_after}
use Rattle.meaning.specs.Result.{written}
use Rattle.meaning.specs.Route.{RouteRecord, records, end_record, box_of, look_up, body_lengths}
use Rattle.meaning.specs.File.{Label, powers, unique, several, FileFigures, rate_file}
use Rattle.meaning.specs.Answers.{told_file, file_figures_told, label_told, file_padded, label_powers, padded}
use Rattle.meaning.specs.Calls.{FileCall, ProgramCall, body_after}
use Rattle.meaning.specs.Print.{printed, report, result_line, poly_line, label_word, density, header, decimal}
use Rattle.meaning.specs.Print.{text, joined}
use Rattle.bridge.proofs.Basics.Searches.{never_answered, answered_same}
use Rattle.bridge.proofs.Files.Records.{Whole, flat, records-whole}
use Rattle.bridge.proofs.Files.FileRatings.{file-size}
use Rattle.theorems.specs.Ratings.{list_in}
use Rattle.theorems.specs.Answering.{Decided, file_conditions}
use Rattle.theorems.specs.Files.{HandsBack, one_after_another, ReadBack, RecordPromise, rated_lines}
use Rattle.theorems.specs.Files.{lines_told, ProgramAsCall, PrintedRight, ProgramPromise}
use Rattle.theorems.proofs.Files.{file_promise}
use Rattle.theorems.proofs.FileAnswers.{read_accepted, read_refused, file_answers}

-- THE READER
put_together :
    (rs : List RouteRecord) (kinds : ℕ → ℕ) (parts : ℕ → List ℕ)
    → ((n : ℕ) → kinds n ≡ (get_or rs n end_record).kind)
    → ((n : ℕ) → parts n ≡ (get_or rs n end_record).body)
    → one_after_another kinds parts (length rs) ≡ flat rs
put_together [] kinds parts h k = refl
put_together (r ∷ rs) kinds parts h k =
    let rest =
    put_together rs (λ n. kinds (suc n)) (λ n. parts (suc n)) (λ n. h (suc n)) (λ n. k (suc n)) in
    let first = h 0 in
    let body = k 0 in
    λ i. first i ∷ (body i ++ rest i)

module _ (file : List ℕ) (kinds : ℕ → ℕ) (parts : ℕ → List ℕ)
    (back : (n : ℕ) → HandsBack file n (kinds n) (parts n)) where
  module _ (rs : List RouteRecord) (its : records file ≡ answered rs) where
    kind_is : (n : ℕ) → kinds n ≡ (get_or rs n end_record).kind
    unfolding map_result
    kind_is n =
        let (r, c, q) = back n in
        answered_same (sym q ∙ c.found ∙ ap (map_result (λ a. a.kind)) (read_accepted file n its))

    body_is : (n : ℕ) → parts n ≡ (get_or rs n end_record).body
    unfolding body_after
    body_is n = let (r, c, q) = back n in c.part ∙ ap body_after (read_accepted file n its)

    whole-at : (qs : List RouteRecord)
        → Whole qs
        → (n : ℕ)
        → n < length qs
        → look_up (get_or qs n end_record).kind body_lengths ≡ some (length (get_or qs n end_record).body)
    whole-at [] h n l = absurd (omega arith)
    whole-at (q ∷ qs) h zero l = h.0
    whole-at (q ∷ qs) h (suc n) l = whole-at qs h.1 n (omega arith)

    read_back : ReadBack file kinds parts
    unfolding end_record
    read_back =
        record {
          count = length rs;
          whole = put_together rs kinds parts kind_is body_is ∙ (records-whole file its).0;
          lengths =
              λ n l. rw (kind_is n, body_is n) (whole-at rs (records-whole file its).1 n l);
          beyond =
              λ n l.
              let last = get_or-eq_default rs end_record l in (
                kind_is n ∙ ap (λ (r : RouteRecord). r.kind) last,
                body_is n ∙ ap (λ (r : RouteRecord). r.body) last,
              );
        }

  by-records : (x : Result (List RouteRecord)) → records file ≡ x → ReadBack file kinds parts
  unfolding map_result
  by-records (refused k) e =
      let (r, c, q) = back 0 in
      never_answered (ap (map_result (λ a. a.kind)) (sym (read_refused file 0 e)) ∙ sym c.found ∙ q)
  by-records (answered rs) e = read_back rs e

pub record_promise : RecordPromise
record_promise file kinds parts back = by-records file kinds parts back (records file) refl

-- THE PROGRAM
told-lines :
    (box : ℕ) (l : Label) (d m : ℕ) (g : Polynomial) (eight answer answer' : List ℕ)
    → length g ≡ suc d
    → eight ≡ padded (label_powers l)
    → answer' ≡ written g answer
    → rated_lines box d m (label_word l) g ≡ lines_told box (answered (label_told l d m)) eight answer'
unfolding label_told label_powers label_word padded written
told-lines box (powers rs) d m g eight answer answer' n e b =
    let list : g ≡ list_in answer' d = sym (ap (take (suc d)) b ∙ take_at g _ (suc d) n) in
    let front : rs ≡ take (length rs) eight =
    sym (ap (take (length rs)) e ∙ take_at rs _ (length rs) refl) in
    λ i. rated_lines box d m (joined (text ",") (map decimal (front i))) (list i)
told-lines box unique d m g eight answer answer' n e b =
    ap (rated_lines box d m (text "one")) (sym (ap (take (suc d)) b ∙ take_at g _ (suc d) n))
told-lines box several d m g eight answer answer' n e b =
    ap (rated_lines box d m (text "some")) (sym (ap (take (suc d)) b ∙ take_at g _ (suc d) n))

module _ (input answer work : List ℕ) (r : FileRating) (answer' work' : List ℕ)
    (c : FileCall input answer work r answer' work') where
  abbrev result : Result (Rated FileFigures)
  result = rate_file input (length answer) (length work)

  abbrev lines : List ℕ
  lines = header ++ lines_told r.sender (told_file r.outcome) (file_places r.outcome) answer'

  -- what the rating tells, from its result
  told : {x : Result (Rated FileFigures)} → result ≡ x
      → told_file r.outcome ≡ map_result file_figures_told (figures_of x)
  told e = c.rating ∙ ap (λ x. map_result file_figures_told (figures_of x)) e

  report-told : (x : Result (Rated FileFigures)) → result ≡ x → report (box_of input) x ≡ lines
  unfolding report result_line poly_line density file_figures_told figures_of map_result file_padded
      answer_after
  report-told (refused n) e =
      ap (λ l. header ++ l) (append-nil _)
      ∙ sym (λ i. header ++ lines_told (c.sender i) (told e i) (file_places r.outcome) answer')
  report-told (answered a) e =
      ap (λ l. header ++ l)
      (told-lines (box_of input) a.figures.label a.figures.degree a.figures.denominator
      a.polynomial (file_places r.outcome) answer answer'
      (file-size input (length answer) (length work) e)
      (c.powers ∙ ap (λ x. file_padded (figures_of x)) e)
      (c.lent.answer_bytes ∙ ap (λ x. answer_after x answer) e))
      ∙ sym (λ i. header ++ lines_told (c.sender i) (told e i) (file_places r.outcome) answer')

pub program_as_call : ProgramAsCall
unfolding printed
program_as_call input output call answer work la lw r answer' work' c =
    call.lines
    ∙ sym (λ i. report (box_of input) (rate_file input (la i) (lw i)))
    ∙ report-told input answer work r answer' work' c _ refl

-- with any lent bytes of these lengths
printed-right :
    (input output answer work : List ℕ)
    → ProgramCall input output
    → length answer ≡ 4097
    → length work ≡ 8192
    → PrintedRight input output
printed-right input output answer work call la lw =
    let answers = file_answers input answer work in
    let (r, answer', work', c) = answers.some in
    record {
      told = told_file r.outcome;
      eight = file_places r.outcome;
      left = answer';
      lines =
          program_as_call input output call answer work la lw r answer' work' c
          ∙ ap (λ box. header
          ++ lines_told box (told_file r.outcome) (file_places r.outcome) answer') c.sender;
      tells = (answers.each r answer' work' c).tells;
      decided =
          subst₂ (λ a w. Decided (file_conditions input a w) (told_file r.outcome)) la lw
          (answers.each r answer' work' c).decided;
      right = file_promise input answer work r answer' work' c;
    }

pub program_promise : ProgramPromise
program_promise input output call =
    printed-right input output (replicate 4097 0) (replicate 8192 0) call
    (length-replicate {A = ℕ} 4097 0) (length-replicate {A = ℕ} 8192 0)
