-- `gobashe_continue_sequence` meets its contract: the status is that of the call that it wraps.
-- Assumes nothing.
use Rattle.exports.proofs.Exported.{filled-exported}
use Rattle.exports.proofs.continuation.gobashe_continue_sequence.Goals as goal

pub returns : goal.returns
returns c = filled-exported c.named_by.ensures c.continue_sequence-filling.ensures c.status.ensures
