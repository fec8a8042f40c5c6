-- `arith::ExtensionField::square` meets its contract. The invariant: the first i numbers are squared.
-- Assumes nothing.
use Prim.Native.Nat.{◌≤◌}
use mathlib.Core.Path.{◌≡◌}
use mathlib.Core.List.{map}
use lib.ListN.{length}
use Rattle.bridge.proofs.Lists.Spread.{raise}
use Rattle.arith.specs.extension.Extension.{extension_of}
use Rattle.arith.proofs.Writing.{Writing}
use Rattle.arith.proofs.extension.ExtensionField.square.Given as goal

abbrev pub invariant-loop-x : goal.invariant-loop-x
invariant-loop-x l = (l.x-index ≤ l.x-index-end) × (l.x-index-end ≡ length l.initial.a)
    × Writing l.initial.a 0
    (map (raise (extension_of l.self) 2) l.initial.a) l.a l.x-index
