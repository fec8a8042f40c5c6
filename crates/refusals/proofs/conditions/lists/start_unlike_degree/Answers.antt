-- `lists::start_unlike_degree` meets its contract.
-- Assumes nothing.
use Prim.Native.Nat.{ℕ}
use mathlib.Core.Path.{ap}
use mathlib.Core.Bool.{not}
use lib.Dec.{eqb}
use lib.ListN.{length}
use Rattle.meaning.specs.Polynomial.{degree}
use Rattle.meaning.specs.Conditions.{start_unlike_degree}
use Rattle.refusals.proofs.conditions.lists.start_unlike_degree.Goals as goal

pub returns : goal.returns
unfolding start_unlike_degree degree
returns c = ap (λ (n : ℕ). not (eqb (length c.args.start.now) n)) c.saturating_sub.ensures
