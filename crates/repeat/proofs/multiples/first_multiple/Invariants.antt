-- `multiples::first_multiple` meets its contract. The invariant is `Trying`. Assumes nothing.
use Prim.Native.Nat.{◌+◌, ◌≤◌}
use Rattle.repeat.proofs.multiples.Trying.{Trying}
use Rattle.repeat.proofs.multiples.first_multiple.Given as goal

abbrev pub invariant-loop-k : goal.invariant-loop-k
invariant-loop-k l = (l.k ≤ l.limit + l.m) × Trying l.m l.n l.k
