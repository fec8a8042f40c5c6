-- `gobashe_rate_free` meets its contract: it tells what the call that it wraps answers.
-- Assumes nothing.
use Rattle.exports.proofs.Exported.{free-exported}
use Rattle.exports.proofs.ratings.gobashe_rate_free.Goals as goal

pub returns : goal.returns
returns c =
    free-exported c.named_by.ensures c.rate_free-rating.ensures
    c.free_rating.ensures
