-- `entry_of` meets its contract: at each arm the entry tells what the arm names. Assumes nothing.
use Rattle.exports.proofs.profile.Entries.{entry-unique, entry_several}
use Rattle.exports.proofs.profile.entry_of.Goals as goal
use Rattle.exports.proofs.profile.entry_of.Goals.{in-Unique, in-Several}

pub returns : goal.returns
returns c = elim c.match-shown.branch [
  | in-Unique w ↦ entry-unique w.in-Unique.is w.degree-is
  | in-Several w ↦ entry_several w.in-Several.is w.degree-is
]
