-- `words::pack` meets its contract. The invariant: the first 64·i terms are packed. Assumes nothing.
use Rattle.massey.proofs.words.Packing.{PackingBlocks}
use Rattle.massey.proofs.words.pack.Given as goal

abbrev pub invariant-loop-i : goal.invariant-loop-i
invariant-loop-i l =
    PackingBlocks l.terms l.f l.i-iterator.iter.rest.now l.i-iterator.iter.size l.i-iterator.count
