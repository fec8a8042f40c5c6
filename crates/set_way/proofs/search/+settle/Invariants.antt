-- The measure is the number of factors.
use lib.ListN.{length}
use Rattle.set_way.proofs.search.+settle.Given as goal

abbrev pub decreases-settle : goal.decreases-settle
decreases-settle l = length l.set.factors.now
