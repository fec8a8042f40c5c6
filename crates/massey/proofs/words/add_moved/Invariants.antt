-- `words::add_moved` meets its contract. The invariant: the words before j are added. The measure is the
-- number of those left. Assumes nothing.
use Prim.Native.Nat.{◌-◌, ◌≤◌}
use Rattle.massey.proofs.words.Moving.{Adding}
use Rattle.massey.proofs.words.add_moved.Given as goal

abbrev pub invariant-loop-j : goal.invariant-loop-j
invariant-loop-j l = (l.j ≤ 65) × Adding l.initial.f l.g l.a l.k l.j l.f

abbrev pub decreases-loop-j : goal.decreases-loop-j
decreases-loop-j l = 65 - l.j
