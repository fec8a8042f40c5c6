-- `entry_told` meets its contract: at each arm the search tells what the arm names.
-- Assumes nothing.
use Rattle.meaning.specs.Answers.{told_entry, told}
use Rattle.meaning.specs.Exports.{entry_told}
use Rattle.exports.proofs.entries.entry_told.Goals as goal

pub returns-in-Ok : goal.returns-in-Ok
unfolding told_entry told entry_told
returns-in-Ok c = rw c.in-Ok.is

pub returns-in-Err : goal.returns-in-Err
unfolding told_entry told entry_told
returns-in-Err c = rw (c.in-Err.is, c.into.ensures)
