-- `refused_rating` meets its contract.
-- Assumes nothing.
use mathlib.Core.Path.{ap}
use Rattle.meaning.specs.Answers.{padded}
use Rattle.meaning.specs.Exports.{rating_refused}
use Rattle.exports.proofs.ratings.refused_rating.Goals as goal

pub returns : goal.returns
unfolding padded
returns c = ap rating_refused c.into.ensures
