-- `total_degree` meets its contract. The invariant: sum, at most 4,096, and the total degree from i on are
-- the whole.
-- Assumes nothing.
use Prim.Native.Nat.{◌+◌, ◌≤◌}
use mathlib.Core.Path.{◌≡◌}
use lib.ListN.{drop}
use Rattle.meaning.specs.Conditions.{named, total_degree}
use Rattle.meaning.specs.Slices.{lists_of}
use Rattle.poly.proofs.factors.total_degree.Given as goal

abbrev pub invariant-loop-i : goal.invariant-loop-i
invariant-loop-i l = (l.sum ≤ 4096)
    × (l.sum + total_degree (drop l.i (named (lists_of l.factors) l.uppers))
    ≡ total_degree (named (lists_of l.factors) l.uppers))
