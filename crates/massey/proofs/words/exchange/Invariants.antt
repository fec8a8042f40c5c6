-- `words::exchange` meets its contract. The invariant: the words before j are exchanged. The measure is the
-- number of those left. Assumes nothing.
use Prim.Native.Nat.{◌-◌, ◌≤◌}
use Rattle.massey.proofs.words.Moving.{Exchanging}
use Rattle.massey.proofs.words.exchange.Given as goal

abbrev pub invariant-loop-j : goal.invariant-loop-j
invariant-loop-j l = (l.j ≤ 65) × Exchanging l.initial.f l.initial.g l.a l.k l.j l.f l.g

abbrev pub decreases-loop-j : goal.decreases-loop-j
decreases-loop-j l = 65 - l.j
