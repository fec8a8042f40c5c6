-- `common_degree` meets its contract: where the turn leaves a remainder, by what the turned polynomials have.
-- Assumes nothing.
use Rattle.poly.proofs.common_divisor.Euclid.{turned_goes_on}
use Rattle.poly.proofs.common_divisor.+common_degree.Goals as goal

pub returns-in_default : goal.returns-in_default
returns-in_default t c = turned_goes_on c.turn.ensures c.common_degree.ensures
