-- `raising::raise_levels` meets its contract. The invariant: the elements are raised to p^i. The measure is
-- the number of levels that are left. Assumes nothing.
use Prim.Native.Nat.{◌≤◌}
use Rattle.arith.specs.Represented.{field_of}
use Rattle.lent.proofs.raising.Levels.{Raised}
use Rattle.lent.proofs.raising.raise_levels.Given as goal

abbrev pub invariant-loop-i : goal.invariant-loop-i
invariant-loop-i l = (l.i ≤ l.l) × Raised (field_of l.field) l.initial.a l.a l.i
