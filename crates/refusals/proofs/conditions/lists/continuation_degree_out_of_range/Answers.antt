-- `lists::continuation_degree_out_of_range` meets its contract.
-- Assumes nothing.
use lib.ListN.{length}
use Rattle.meaning.specs.Polynomial.{degree}
use Rattle.meaning.specs.Conditions.{continuation_degree_out_of_range}
use Rattle.refusals.proofs.conditions.lists.Coefficients.{degree_limit}
use Rattle.refusals.proofs.conditions.lists.continuation_degree_out_of_range.Goals as goal

pub returns : goal.returns
unfolding continuation_degree_out_of_range degree
returns c = degree_limit (length c.args.polynomial.now) 4096
