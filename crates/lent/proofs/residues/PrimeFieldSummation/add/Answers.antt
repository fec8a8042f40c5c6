-- Sums that are plain numbers meet the contract of `Summation::add`. Assumes nothing.
use mathlib.Core.Path.{refl, sym}
use Rattle.arith.proofs.Sorts.{prime-field}
use Rattle.lent.proofs.residues.PrimeFieldSummation.add.Goals as goal

pub returns-clause-values : goal.returns-clause-values
returns-clause-values c = rw (sym (prime-field c.args.self refl)) c.add_products.ensures.values
