-- `gobashe_find_entry` meets its contract: it tells what the call that it wraps answers.
-- Assumes nothing.
use Rattle.exports.proofs.Exported.{entry-exported}
use Rattle.exports.proofs.entries.gobashe_find_entry.Goals as goal

pub returns : goal.returns
returns c = entry-exported c.find_entry-rating.ensures c.entry_told.ensures
