-- `set_rating` meets its contract: at each arm the rating tells what the arm names.
-- Assumes nothing.
use Rattle.exports.specs.ratings.Outcomes.{outcome_told}
use Rattle.exports.proofs.ratings.set_rating.Goals as goal

pub returns-in-Ok : goal.returns-in-Ok
unfolding outcome_told
returns-in-Ok c = rw c.in-Ok.is

pub returns-in-Err : goal.returns-in-Err
unfolding outcome_told
returns-in-Err c = rw c.in-Err.is c.refused_rating.ensures
