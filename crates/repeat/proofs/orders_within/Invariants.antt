-- `orders_within` meets its contract. The invariant: the common multiple of the orders of the factors before
-- i. Assumes nothing.
use Prim.Native.Nat.{◌≤◌}
use mathlib.Core.Path.{◌≡◌}
use lib.ListN.{length, take}
use Rattle.meaning.specs.Conditions.{named}
use Rattle.meaning.specs.Slices.{lists_of}
use Rattle.bridge.proofs.Sequences.CommonOrders.{orders_within}
use Rattle.arith.specs.Represented.{field_of}
use Rattle.repeat.proofs.orders_within.Given as goal

abbrev pub invariant-loop-i : goal.invariant-loop-i
invariant-loop-i l = (l.i ≤ length l.set.factors.now)
    × (l.common ≡ orders_within (field_of l.field)
    (take l.i (named (lists_of l.set.factors.now) l.set.powers.now)) l.limit)
