-- `binary::leaf_binary_update` meets its contract.
-- Assumes nothing.
use Rattle.meaning.specs.FieldNames.{named_field, not_field}
use Rattle.leaves.proofs.binary.leaf_binary_update.Goals as goal

pub returns : goal.returns
unfolding named_field not_field
returns c = c.update_in.ensures
