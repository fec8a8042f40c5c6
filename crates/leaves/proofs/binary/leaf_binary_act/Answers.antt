-- `binary::leaf_binary_act` meets its contract.
-- Assumes nothing.
use mathlib.Core.Path.{sym, ap, ap₂, ◌∙◌}
use mathlib.Core.Bool.{not, ◌&&◌}
use lib.ListN.{length}
use Rattle.meaning.specs.Conditions.{not_binary}
use Rattle.meaning.specs.FieldNames.{named_field}
use Rattle.leaves.specs.binary.Acted.{has_room}
use Rattle.leaves.proofs.Suiting.{and_second}
use Rattle.leaves.proofs.binary.Naming.{named-binary, declined_binary}
use Rattle.leaves.proofs.binary.Acting.{room_block, act-kept, act-acted}
use Rattle.leaves.proofs.binary.leaf_binary_act.Goals as goal

pub returns-then-not-has_room : goal.returns-then-not-has_room
returns-then-not-has_room c =
    let a = c.args in
    act-kept
    (ap (λ b. b && not (not_binary a.degree a.low))
    (sym c.has_room.ensures ∙ c.if-not-has_room.true))

pub act_block-requires : goal.act_block-requires
act_block-requires c = room_block _ _ c.has_room.ensures c.if-not-has_room.false

pub returns-in-Ok : goal.returns-in-Ok
unfolding named_field
returns-in-Ok c =
    act-acted
    (ap₂ ◌&&◌ (sym c.has_room.ensures ∙ c.if-not-has_room.false) (named-binary c.in-Ok.ensures))
    c.in-Ok.ensures.is_field c.act_block.ensures

pub returns-in-Err : goal.returns-in-Err
returns-in-Err c =
    let a = c.args in
    act-kept (and_second (has_room a.n (length a.w.now)) _ (declined_binary c.in-Err.ensures))
