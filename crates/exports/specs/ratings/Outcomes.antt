-- What the contracts of the ratings cite: the rating of a set as numbers.
--
--   outcome_told r       == the numbers that the reply r tells, with its powers; zeros where it is refused
use Rattle.std.specs.Prelude.{Ok, Err}
use Rattle.meaning.specs.declared.SetRating.{SetRating}
use Rattle.meaning.specs.declared.Rating.{Rating}
use Rattle.meaning.specs.Answers.{Reply, number_of}
use Rattle.meaning.specs.Exports.{rating_refused}

unfoldable pub outcome_told : Reply SetRating → Rating
outcome_told (Ok a) =
    record { status = 0; complexity = a.degree; repeat = a.repeat; word = 0; powers = a.powers }
outcome_told (Err r) = rating_refused (number_of r)
