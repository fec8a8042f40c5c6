-- `gobashe_rate_set` meets its contract: it tells what the call that it wraps answers.
-- Assumes nothing.
use Rattle.exports.proofs.Exported.{set-exported}
use Rattle.exports.proofs.ratings.gobashe_rate_set.Goals as goal

pub returns : goal.returns
returns c =
    set-exported c.named_by.ensures c.rate_set-rating.ensures
    c.set_rating.ensures
