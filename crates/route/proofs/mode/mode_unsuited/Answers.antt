-- `mode::mode_unsuited` meets its contract.
-- Assumes nothing.
use mathlib.Core.Path.{sym, ap, ◌∙◌}
use mathlib.Core.Bool.{not}
use Rattle.route.specs.framing.Framing.{records_from}
use Rattle.route.proofs.mode.Modes.{unsuited_known, unsuited_unknown}
use Rattle.route.proofs.mode.mode_unsuited.Goals as goal

pub returns-in-Ok : goal.returns-in-Ok
returns-in-Ok c =
    ap not c.suits.ensures
    ∙ sym (unsuited_known (records_from c.args.file.now 0) c.byte_of.ensures c.in-Ok.ensures)

pub returns-in-Err : goal.returns-in-Err
returns-in-Err c =
    unsuited_unknown (records_from c.args.file.now 0) c.byte_of.ensures c.in-Err.ensures.1
