-- What a rating of a file tells with the answer bytes beside it is the result of the file.
--
--   outcome_of l d m == the outcome that tells the label l with the degree d over m
--   told-result     == the result, from the contract of rate_file
--   printed-lines   == the lines of the rating are those that the program is to print, from that contract
-- Assumes nothing.
use Prim.Native.Nat.{ℕ, suc, ◌-◌}
use mathlib.Core.Path.{◌≡◌, refl, sym, ap, ◌∙◌}
use mathlib.Core.List.{List}
use lib.ListN.{length, take, drop, replicate}
use lib.Seq.{take_at}
use Rattle.std.specs.Prelude.{Ok, Err}
use Rattle.meaning.specs.declared.FileOutcome.{FileOutcome}
use Rattle.meaning.specs.declared.FileRating.{FileRating}
use Rattle.meaning.specs.Result.{Result, refused, answered, Rated, figures_of, map_result, answer_after}
use Rattle.meaning.specs.Result.{written}
use Rattle.meaning.specs.Route.{box_of}
use Rattle.meaning.specs.File.{Label, powers, unique, several, FileFigures, file_answer, rate_file}
use Rattle.meaning.specs.Answers.{Reply, told, file_told_of, told_file, label_told, file_figures_told, padded}
use Rattle.meaning.specs.Answers.{label_powers, file_padded, file_places}
use Rattle.meaning.specs.Calls.{FileCall}
use Rattle.meaning.specs.Print.{report, printed}
use Rattle.meaning.proofs.Determined.{file-determined}
use Rattle.meaning.specs.Program.{rated_result, lines_of}
use Rattle.bridge.proofs.Basics.Searches.{never_answered}
use Rattle.bridge.proofs.Files.FileRatings.{file-size}

told_refused : (o : Reply FileOutcome) (answer : List ℕ) {n : ℕ} → told_file o ≡ refused n
    → rated_result o answer ≡ refused n
unfolding told_file told rated_result
told_refused (Ok o) answer e = never_answered (sym e)
told_refused (Err x) answer e = cc

-- the powers and the coefficients that are read back
powers-back : (rs : List ℕ) → take (length rs) (padded rs) ≡ rs
unfolding padded
powers-back rs = take_at rs (replicate (8 - length rs) 0) (length rs) refl

polynomial-back : (g answer : List ℕ) {d : ℕ} → length g ≡ suc d → take (suc d) (written g answer) ≡ g
unfolding written
polynomial-back g answer {d} e = take_at g (drop (length g) answer) (suc d) e

-- the outcome that tells a label with the degree d over m
outcome_of : Label → ℕ → ℕ → Reply FileOutcome
outcome_of (powers rs) d m = Ok (FileOutcome.Powers d m (length rs) (padded rs))
outcome_of unique d m = Ok (FileOutcome.Unique d m)
outcome_of several d m = Ok (FileOutcome.Several d m)

module _ (d m : ℕ) where
  outcome_told : (l : Label) → told_file (outcome_of l d m) ≡ answered (label_told l d m)
  unfolding outcome_of told_file told file_told_of label_told
  outcome_told (powers rs) = refl
  outcome_told unique = refl
  outcome_told several = refl

  outcome_places : (l : Label) → file_places (outcome_of l d m) ≡ padded (label_powers l)
  unfolding outcome_of file_places label_powers
  outcome_places (powers rs) = refl
  outcome_places unique = refl
  outcome_places several = refl

  outcome_result : (l : Label) (g answer : List ℕ) → length g ≡ suc d
      → rated_result (outcome_of l d m) (written g answer) ≡ answered (file_answer d m l g)
  unfolding outcome_of rated_result
  outcome_result (powers rs) g answer e = rw (powers-back rs, polynomial-back g answer e)
  outcome_result unique g answer e = rw (polynomial-back g answer e)
  outcome_result several g answer e = rw (polynomial-back g answer e)

module _
    (file answer work : List ℕ) (r : FileRating) (answer' work' : List ℕ)
    (c : FileCall file answer work r answer' work')
  where
    result : Result (Rated FileFigures)
    result = rate_file file (length answer) (length work)

    when_refused : {n : ℕ} → result ≡ refused n → rated_result r.outcome answer' ≡ refused n
    unfolding result map_result figures_of
    when_refused {n} e =
        told_refused r.outcome answer'
        (c.rating ∙ ap (λ x. map_result file_figures_told (figures_of x)) e)

    when_answered : {a : Rated FileFigures} → result ≡ answered a
        → rated_result r.outcome answer' ≡ answered a
    unfolding result map_result figures_of file_figures_told file_padded answer_after file_answer
    when_answered {a} e =
        let l = a.figures.label in
        let d = a.figures.degree in
        let m = a.figures.denominator in
        let figures : told_file r.outcome ≡ answered (label_told l d m) =
        c.rating ∙ ap (λ x. map_result file_figures_told (figures_of x)) e in
        let eight : file_places r.outcome ≡ padded (label_powers l) =
        c.powers ∙ ap (λ x. file_padded (figures_of x)) e in
        let outcome = file-determined r.outcome (outcome_of l d m) (figures ∙ sym (outcome_told d m l))
        (eight ∙ sym (outcome_places d m l)) in
        let bytes : answer' ≡ written a.polynomial answer =
        c.lent.answer_bytes ∙ ap (λ x. answer_after x answer) e in
        ap (λ o. rated_result o answer') outcome
        ∙ ap (rated_result (outcome_of l d m)) bytes
        ∙ outcome_result d m l a.polynomial answer (file-size file (length answer) (length work) e)

    told-result : rated_result r.outcome answer' ≡ rate_file file (length answer) (length work)
    unfolding result
    told-result = go result refl
      where
        go : (x : Result (Rated FileFigures)) → result ≡ x → rated_result r.outcome answer' ≡ result
        go (refused n) e = when_refused e ∙ sym e
        go (answered a) e = when_answered e ∙ sym e

    pub printed-lines : length answer ≡ 4097 → length work ≡ 8192 → lines_of r answer' ≡ printed file
    unfolding lines_of printed
    printed-lines a w =
        ap (λ box. report box (rated_result r.outcome answer')) c.sender
        ∙ ap (report (box_of file)) told-result
        ∙ ap (λ n. report (box_of file) (rate_file file n (length work))) a
        ∙ ap (λ n. report (box_of file) (rate_file file 4097 n)) w
