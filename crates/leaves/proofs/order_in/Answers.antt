-- `order_in` meets its contract.
-- Assumes nothing.
use mathlib.Core.Path.{sym, ◌∙◌}
use Rattle.bridge.proofs.Basics.Searches.{true-T}
use Rattle.leaves.proofs.Orders.{suited_over}
use Rattle.leaves.proofs.order_in.Goals as goal

pub order_within-requires : goal.order_within-requires
order_within-requires c =
    suited_over c.args.field _ (true-T (sym c.is_suited.ensures ∙ c.if-is_suited.true))
