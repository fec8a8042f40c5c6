-- `multiples::pick` meets its contract. Assumes nothing.
use Rattle.arith.proofs.extension.Elements.{picked_none, picked-some}
use Rattle.arith.proofs.multiples.pick.Goals as goal

pub returns-then-bit-eq0 : goal.returns-then-bit-eq0
returns-then-bit-eq0 c = picked_none _ c.if-bit-eq0.true

pub returns-else-bit-eq0 : goal.returns-else-bit-eq0
returns-else-bit-eq0 c = picked-some _ c.if-bit-eq0.false
