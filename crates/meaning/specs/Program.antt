-- The contracts of the rating program's two parts: the lines of a rating, and the response to what was read.
--
--   rated_result outcome answer == what a rating of a file tells with the answer bytes beside it: of the
--                        powers as many as it counts, of the bytes as many as its degree and one more
--   lines_of r answer  == the lines of that result, for the box that the rating names
--   PrintCall r answer out n out' == the lines of the rating r stand at the front of the lent bytes `out`,
--                        all other bytes are as they were, and n is the number of bytes in the lines
--   Response buffer count n out' == the first n bytes of `out'` are what the program is to print for
--                        every input that the first `count` bytes of the buffer come from: they are the
--                        input as far as the buffer holds it. What a longer input has beyond it does not
--                        matter
use Rattle.std.specs.Prelude.{ℕ, suc, ◌≤◌, ◌≡◌, List, length, take}
use Rattle.meaning.specs.declared.FileOutcome.{FileOutcome}
use Rattle.meaning.specs.declared.FileRating.{FileRating}
use Rattle.meaning.specs.Result.{Result, refused, answered, Rated, written}
use Rattle.meaning.specs.File.{powers, unique, several, FileFigures, file_answer}
use Rattle.meaning.specs.Print.{report}
use Rattle.meaning.specs.Answers.{number_of, Reply}
use Rattle.std.specs.Prelude.{Ok, Err}
use Rattle.meaning.specs.Calls.{ProgramCall}

unfoldable pub rated_result : Reply FileOutcome → List ℕ → Result (Rated FileFigures)
rated_result (Ok (FileOutcome.Powers d m n rs)) answer =
    answered (file_answer d m (powers (take n rs)) (take (suc d) answer))
rated_result (Ok (FileOutcome.Unique d m)) answer = answered (file_answer d m unique (take (suc d) answer))
rated_result (Ok (FileOutcome.Several d m)) answer = answered (file_answer d m several (take (suc d) answer))
rated_result (Err r) answer = refused (number_of r)

unfoldable pub lines_of : FileRating → List ℕ → List ℕ
lines_of r answer = report r.sender (rated_result r.outcome answer)

pub record PrintCall (r : FileRating) (answer out : List ℕ) (n : ℕ) (out' : List ℕ) : Type 0 where
  pub count : n ≡ length (lines_of r answer)
  pub fits : n ≤ length out
  pub bytes : out' ≡ written (lines_of r answer) out

pub record Response (buffer : List ℕ) (count n : ℕ) (out' : List ℕ) : Type 0 where
  pub fits : n ≤ length out'
  pub counted : n ≡ length (take n out')
  pub printed : (input : List ℕ)
      → take count buffer ≡ take (length buffer) input
      → ProgramCall input (take n out')
