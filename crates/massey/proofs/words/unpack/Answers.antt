-- `words::unpack` meets its contract. The invariant: the first i bits are written. The measure is the number
-- of those left. Assumes nothing.
use mathlib.Core.Path.{◌∙◌}
use Rattle.arith.proofs.Writing.{front-more}
use Rattle.massey.proofs.Lent.{written-end}
use Rattle.massey.proofs.words.Packing.{length-bits, bits-next}
use native.Mathlib.Omega.{arith}
use Rattle.massey.proofs.words.unpack.Goals as goal

pub loop-i-preserved : goal.loop-i-preserved
loop-i-preserved c =
    let a = c.args in (
      omega arith,
      front-more c.loop-i.invariant.1 (omega arith) (omega (arith, length-bits a.w.now a.o a.n))
          (c.bit_at.ensures ∙ bits-next a.w.now a.o a.n c.loop-i.i (omega arith)),
    )

pub returns : goal.returns
returns c =
    let a = c.args in
    written-end c.loop-i.invariant.1 (omega (arith, length-bits a.w.now a.o a.n))
