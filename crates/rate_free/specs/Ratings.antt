-- What the contracts of the free way cite beside crate meaning.
--
--   FreeRatedAs result … == the rating tells the result, and the answer and work bytes are left as it says
use Rattle.std.specs.Prelude.{ℕ, ◌≡◌, List}
use Rattle.meaning.specs.declared.FreeRating.{FreeRating}
use Rattle.meaning.specs.Result.{Result, Rated, figures_of}
use Rattle.meaning.specs.Free.{FreeFigures}
use Rattle.meaning.specs.Answers.{told_free, Reply}
use Rattle.meaning.specs.Calls.{LentAfter}

pub record FreeRatedAs (result : Result (Rated FreeFigures)) (answer work : List ℕ) (r : Reply FreeRating)
    (answer' work' : List ℕ) : Type 0 where
  pub rating : told_free r ≡ figures_of result
  pub lent : LentAfter result answer work answer' work'
