-- `free_rating` meets its contract: at each arm the rating tells what the arm names.
-- Assumes nothing.
use Rattle.meaning.specs.Answers.{told_free, free_figures_of, told, padded}
use Rattle.meaning.specs.Exports.{free_told, word_number}
use Rattle.exports.proofs.ratings.free_rating.Goals as goal

pub returns-in-Unique : goal.returns-in-Unique
unfolding told_free free_figures_of told free_told word_number padded
returns-in-Unique c = rw (c.in-Ok.is, c.in-Unique.is)

pub returns-in-Several : goal.returns-in-Several
unfolding told_free free_figures_of told free_told word_number padded
returns-in-Several c = rw (c.in-Ok.is, c.in-Several.is)

pub returns-in-Err : goal.returns-in-Err
unfolding told_free told free_told
returns-in-Err c = rw c.in-Err.is c.refused_rating.ensures
