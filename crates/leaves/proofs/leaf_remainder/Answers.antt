-- `leaf_remainder` meets its contract.
-- Assumes nothing.
use Rattle.leaves.proofs.Remaindering.{remainder-named, remainder_declined}
use Rattle.leaves.proofs.leaf_remainder.Goals as goal

pub returns-in-Ok : goal.returns-in-Ok
returns-in-Ok c = remainder-named c.in-Ok.ensures c.divide_in.ensures

pub returns-in_default : goal.returns-in_default
returns-in_default c = remainder_declined c.in_default.ensures
