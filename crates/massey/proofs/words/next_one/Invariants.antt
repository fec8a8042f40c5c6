-- `words::next_one` meets its contract. The invariant: the bits of the numbers from n to t − 1 are 0. The
-- measure is how far t is from past the words. Assumes nothing.
use Prim.Native.Nat.{◌-◌, ◌≤◌}
use Rattle.massey.proofs.words.Searching.{Searching}
use Rattle.massey.proofs.words.next_one.Given as goal

abbrev pub invariant-loop-t : goal.invariant-loop-t
invariant-loop-t l = (l.t ≤ 4096) × Searching l.f l.n l.t

abbrev pub decreases-loop-t : goal.decreases-loop-t
decreases-loop-t l = 4096 - l.t
