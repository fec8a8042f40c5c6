-- `words::pack` meets its contract. The invariant: the first 64·i terms are packed. Assumes nothing.
use Rattle.massey.proofs.words.Packing.{blocks_more, blocks_end}
use Rattle.massey.proofs.words.pack.Goals as goal

pub loop-i-preserved : goal.loop-i-preserved
loop-i-preserved c =
    let s = c.in-Some.ensures.steps in
    rw (s.1, s.2)
    (blocks_more c.loop-i.invariant c.requires.0 c.packed.result _ _ s.0.1.0 s.0.1.1 s.0.1.2 s.0.0
    c.packed.ensures)

pub returns : goal.returns
returns c = blocks_end c.loop-i.invariant c.in-None.ensures.steps.0.1.0
