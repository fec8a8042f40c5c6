-- `halves::all_zero` meets its contract. The invariant: the bytes that are left are 0 exactly where all are.
-- Assumes nothing.
use mathlib.Core.Path.{◌≡◌}
use Rattle.std.specs.Slice.Iter.{chunks_rest}
use Rattle.bridge.proofs.Sequences.KnownActions.{all_zero}
use Rattle.lent.proofs.halves.all_zero.Given as goal

abbrev pub invariant-loop-block : goal.invariant-loop-block
invariant-loop-block l = all_zero (chunks_rest l.block-iterator) ≡ all_zero l.part
