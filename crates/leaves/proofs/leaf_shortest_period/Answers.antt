-- `leaf_shortest_period` meets its contract.
-- Assumes nothing.
use Prim.Native.Nat.{◌<◌}
use native.Mathlib.Omega.{arith}
use mathlib.Core.Path.{sym, ◌∙◌}
use lib.ListN.{length}
use borrow.Author.Tests.{eqb-true, eqb-false}
use Rattle.repeat.proofs.shortest.Deciding.{all_decide}
use Rattle.leaves.proofs.Repeating.{nothing-found, found}
use Rattle.leaves.proofs.leaf_shortest_period.Goals as goal

pub returns-then-is_empty : goal.returns-then-is_empty
returns-then-is_empty c = nothing-found _ (eqb-true _ 0 (sym c.is_empty.ensures ∙ c.if-is_empty.true))

pub shortest_period-requires : goal.shortest_period-requires
shortest_period-requires c =
    let n = eqb-false _ 0 (sym c.is_empty.ensures ∙ c.if-is_empty.false) in
    let l : 0 < length c.args.terms.now = omega (arith, n) in
    record {
      terms_nonzero = l;
      deciding = all_decide _ l;
    }

pub returns : goal.returns
returns c = found _ c.shortest_period.ensures
