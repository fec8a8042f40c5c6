-- `degree` meets its contract.
-- Assumes nothing.
use Rattle.meaning.specs.Polynomial.{degree}
use Rattle.poly.proofs.factors.degree.Goals as goal

pub returns : goal.returns
unfolding degree
returns c = c.saturating_sub.ensures
