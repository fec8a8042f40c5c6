-- `halves::block_zero` meets its contract. The invariant: `any` is 0 exactly where the first bytes are.
-- Assumes nothing.
use Rattle.lent.proofs.Zeros.{Anything}
use Rattle.lent.proofs.halves.block_zero.Given as goal

abbrev pub invariant-loop-byte : goal.invariant-loop-byte
invariant-loop-byte l = Anything l.any l.block l.byte-index
