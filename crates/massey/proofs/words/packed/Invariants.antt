-- `words::packed` meets its contract. The invariant: w is the word of the terms so far. Assumes nothing.
use Rattle.massey.proofs.words.Packing.{PackingWord}
use Rattle.massey.proofs.words.packed.Given as goal

abbrev pub invariant-loop-term : goal.invariant-loop-term
invariant-loop-term l = PackingWord l.s l.w l.term-index
