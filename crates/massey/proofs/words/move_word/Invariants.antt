-- `words::move_word` meets its contract. The invariant: the words before j are moved. The measure is the
-- number of those left. Assumes nothing.
use Prim.Native.Nat.{◌-◌, ◌≤◌}
use Rattle.massey.proofs.words.Moving.{Moving}
use Rattle.massey.proofs.words.move_word.Given as goal

abbrev pub invariant-loop-j : goal.invariant-loop-j
invariant-loop-j l = (l.j ≤ 65) × Moving l.initial.g l.a l.j l.g

abbrev pub decreases-loop-j : goal.decreases-loop-j
decreases-loop-j l = 65 - l.j
