-- `halves::all_zero` meets its contract. The invariant: the bytes that are left are 0 exactly where all are.
-- Assumes nothing.
use mathlib.Core.Path.{◌∙◌}
use Rattle.lent.proofs.Zeros.{none_zero, zero-block, nonzero-block}
use Rattle.lent.proofs.halves.all_zero.Goals as goal

pub returns-then-not-block_zero : goal.returns-then-not-block_zero
returns-then-not-block_zero c =
    nonzero-block _ _ c.in-Some.ensures.steps.1.0 c.block_zero.ensures c.if-not-block_zero.true
    ∙ c.loop-block.invariant

pub loop-block-preserved : goal.loop-block-preserved
loop-block-preserved c =
    zero-block _ _ c.in-Some.ensures.steps.1.0 c.block_zero.ensures c.if-not-block_zero.false
    ∙ c.loop-block.invariant

pub returns : goal.returns
returns c = none_zero _ c.in-None.ensures.steps.1.0 ∙ c.loop-block.invariant
