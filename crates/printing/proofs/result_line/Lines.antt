-- The lines of a rated file by its figures.
--
--   result-rated, poly-rated == the result line and the poly line
--   lines_rated, lines_refused == all lines, from the parts that are put
-- Assumes nothing.
use Rattle.std.proofs.Common.{◌≡◌, ℕ, suc, List, [], ◌∷◌, ◌++◌, map, take, Ok, Err, refl, sym}
use Rattle.std.proofs.Common.{append_assoc, append-nil}
use Rattle.meaning.specs.declared.FileOutcome.{FileOutcome}
use Rattle.meaning.specs.declared.FileRating.{FileRating}
use Rattle.meaning.specs.declared.Refusal.{Refusal}
use Rattle.meaning.specs.Answers.{number_of}
use Rattle.meaning.specs.Result.{refused}
use Rattle.meaning.specs.File.{file_answer}
use Rattle.meaning.specs.Print.{text, decimal, joined, line, header, label_word, density, result_line}
use Rattle.meaning.specs.Print.{poly_line, report}
use Rattle.meaning.specs.Program.{rated_result, lines_of}
use Rattle.printing.specs.result_line.Outcomes.{degree_of, denominator_of, label_of, started}

line-parts : (b d m w : List ℕ)
    → line (b ∷ text "ok" ∷ (d ++ (text "/" ++ m)) ∷ w ∷ [])
    ≡ (b ++ (text " ok " ++ (d ++ (text "/" ++ (m ++ text " "))))) ++ (w ++ text "\n")
unfolding line joined text
line-parts b d m w = simp append_assoc

module _ (box : ℕ) (answer : List ℕ) where
  result-rated : (o : FileOutcome) → started box (degree_of o) (denominator_of o)
      ++ (label_word (label_of o) ++ text "\n")
      ≡ result_line box (rated_result (Ok o) answer)
  unfolding result_line rated_result file_answer density
  result-rated (FileOutcome.Powers d m n rs) = sym (line-parts _ _ _ _)
  result-rated (FileOutcome.Unique d m) = sym (line-parts _ _ _ _)
  result-rated (FileOutcome.Several d m) = sym (line-parts _ _ _ _)

  poly-rated : (o : FileOutcome) → line (text "poly" ∷ map decimal (take (suc (degree_of o)) answer))
      ≡ poly_line (rated_result (Ok o) answer)
  unfolding poly_line rated_result file_answer
  poly-rated (FileOutcome.Powers d m n rs) = refl
  poly-rated (FileOutcome.Unique d m) = refl
  poly-rated (FileOutcome.Several d m) = refl

-- all lines, put one after the other from none on
module _ {none one two : List ℕ} (r : FileRating) (answer : List ℕ) (start : none ≡ [])
    (head : one ≡ none ++ text "box result density powers\n") where
  pub lines_refused : {x : Refusal} {n : ℕ} → r.outcome ≡ Err x → n ≡ number_of x
      → two ≡ one ++ result_line r.sender (refused n) → two ≡ lines_of r answer
  unfolding lines_of report header poly_line rated_result
  lines_refused e i put = rw (put, head, start, e, i) (simp append-nil)

  pub lines_rated : {three : List ℕ} {o : FileOutcome} → r.outcome ≡ Ok o
      → two
      ≡ one
      ++ (started r.sender (degree_of o) (denominator_of o) ++ (label_word (label_of o) ++ text "\n"))
      → three ≡ two ++ line (text "poly" ∷ map decimal (take (suc (degree_of o)) answer))
      → three ≡ lines_of r answer
  unfolding lines_of report header
  lines_rated {o} e result poly =
      rw (poly, result, head, start, e, result-rated r.sender answer o, poly-rated r.sender answer o)
      (simp append_assoc)
