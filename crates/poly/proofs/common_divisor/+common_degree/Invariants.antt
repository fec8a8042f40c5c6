-- The measure is the length of b.
use lib.ListN.{length}
use Rattle.poly.proofs.common_divisor.+common_degree.Given as goal

abbrev pub decreases-common_degree : goal.decreases-common_degree
decreases-common_degree l = length l.b.now
