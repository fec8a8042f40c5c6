-- `search_after_look` meets its contract: the look rules every power out, or the search decides.
-- Assumes nothing.
use Rattle.find_entry.proofs.Looking.{look_none}
use Rattle.find_entry.proofs.search_after_look.Goals as goal

pub returns-then-not-block_is_zero : goal.returns-then-not-block_is_zero
returns-then-not-block_is_zero c =
    look_none c.requires.field_named _ c.requires.period_input c.args.level c.requires.dividing
    c.requires.places c.block_is_zero.ensures c.if-not-block_is_zero.true
