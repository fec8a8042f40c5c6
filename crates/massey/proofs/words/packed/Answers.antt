-- `words::packed` meets its contract. The invariant: w is the word of the terms so far. Assumes nothing.
use Rattle.massey.proofs.words.Packing.{packed_more, packed-end}
use native.Mathlib.Omega.{arith}
use Rattle.massey.proofs.words.packed.Goals as goal

pub loop-term-preserved : goal.loop-term-preserved
loop-term-preserved c = packed_more c.loop-term.invariant

pub returns : goal.returns
returns c = packed-end c.loop-term.invariant (omega arith) (omega arith)
