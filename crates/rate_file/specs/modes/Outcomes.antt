-- What the contracts of the ratings of a file cite.
--
--   RatedFile x answer work r answer' work' == the reply r tells the result x, and the lent bytes are left as
--                         x says
use Rattle.std.specs.Prelude.{ℕ, ◌≡◌, List}
use Rattle.meaning.specs.declared.FileOutcome.{FileOutcome}
use Rattle.meaning.specs.Result.{Result, map_result, Rated, figures_of}
use Rattle.meaning.specs.File.{FileFigures}
use Rattle.meaning.specs.Answers.{Reply, told_file, file_figures_told, file_places, file_padded}
use Rattle.meaning.specs.Calls.{LentAfter}

pub record RatedFile (x : Result (Rated FileFigures)) (answer work : List ℕ) (r : Reply FileOutcome)
    (answer' work' : List ℕ) : Type 0 where
  pub rating : told_file r ≡ map_result file_figures_told (figures_of x)
  pub powers : file_places r ≡ file_padded (figures_of x)
  pub lent : LentAfter x answer work answer' work'
