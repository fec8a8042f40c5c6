-- `period_rating` meets its contract: at each arm the rating tells what the arm names.
-- Assumes nothing.
use Rattle.meaning.specs.Answers.{told_power, told, padded}
use Rattle.meaning.specs.Exports.{period_told}
use Rattle.exports.proofs.ratings.period_rating.Goals as goal

pub returns-in-Ok : goal.returns-in-Ok
unfolding told_power told period_told padded
returns-in-Ok c = rw c.in-Ok.is

pub returns-in-Err : goal.returns-in-Err
unfolding told_power told period_told
returns-in-Err c = rw c.in-Err.is c.refused_rating.ensures
