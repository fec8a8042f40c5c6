-- `binary::Words::after_all` meets its contract. The invariant: what is known holds after the terms seen. The
-- measure is the number of terms that are left. Assumes nothing.
use Prim.Native.Nat.{◌+◌, ◌-◌, ◌*◌, ◌≤◌}
use lib.ListN.{length}
use Rattle.massey.specs.binary.Binary.{WordsHold}
use Rattle.massey.proofs.binary.Words.after_all.Given as goal

abbrev pub invariant-loop-words : goal.invariant-loop-words
invariant-loop-words l =
    (l.words.known.seen ≤ length l.terms)
    × (64 * l.words.lowest + length l.terms ≤ 4096)
    × WordsHold l.terms l.words.known l.words.f l.words.g l.words.lowest

abbrev pub decreases-loop-words : goal.decreases-loop-words
decreases-loop-words l = length l.terms - l.words.known.seen
