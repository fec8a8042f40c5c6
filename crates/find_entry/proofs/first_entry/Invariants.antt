-- `first_entry` meets its contract. The invariant: no entry before entry i has a power. Assumes nothing.
use Rattle.find_entry.proofs.Entries.{Searching}
use Rattle.find_entry.proofs.first_entry.Given as goal

abbrev pub invariant-loop-i : goal.invariant-loop-i
invariant-loop-i l = Searching l.terms l.i
