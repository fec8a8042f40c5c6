-- `gobashe_rate_period` meets its contract: it tells what the call that it wraps answers.
-- Assumes nothing.
use Rattle.exports.proofs.Exported.{period-exported}
use Rattle.exports.proofs.ratings.gobashe_rate_period.Goals as goal

pub returns : goal.returns
returns c =
    period-exported c.named_by.ensures c.rate_period-rating.ensures
    c.period_rating.ensures
