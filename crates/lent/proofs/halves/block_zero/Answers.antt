-- `halves::block_zero` meets its contract. The invariant: `any` is 0 exactly where the first bytes are.
-- Assumes nothing.
use mathlib.Core.Path.{refl}
use native.Mathlib.Omega.{arith}
use Rattle.lent.proofs.Zeros.{anything_more, anything_end}
use Rattle.lent.proofs.halves.block_zero.Goals as goal

pub loop-byte-preserved : goal.loop-byte-preserved
loop-byte-preserved c = anything_more c.loop-byte.invariant _ refl

pub returns : goal.returns
returns c = anything_end c.loop-byte.invariant (omega arith)
