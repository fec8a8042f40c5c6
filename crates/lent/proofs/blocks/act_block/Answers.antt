-- `blocks::act_block` meets its contract, by sums of either kind: as many as values, from the front of 256
-- zeros. Assumes nothing.
use mathlib.Core.Path.{sym, ap, subst, ◌∙◌}
use Rattle.arith.specs.Represented.{field_of}
use Rattle.arith.specs.sums.Sums.{Room, elements_of}
use Rattle.arith.proofs.Represented.{field-is_field}
use Rattle.arith.proofs.Sorts.{extension-field, binary_characteristic}
use Rattle.arith.proofs.sums.Elements.{elements-zeros}
use Rattle.arith.proofs.sums.Rooms.{room-zeros}
use Rattle.lent.proofs.Parts.{zeros-lent}
use Rattle.lent.proofs.sums.Bounded.{bounded_zeros}
use Rattle.lent.proofs.blocks.act_block.Goals.{in_default-via-in-Prime+else-characteristic-ne2}
use Rattle.lent.proofs.blocks.act_block.Goals.{in_default-via-in_default}
use Rattle.lent.proofs.blocks.act_block.Goals as goal

pub act_by_sums-requires-clause-room : goal.act_by_sums-requires-clause-room
act_by_sums-requires-clause-room c =
    subst (Room 65535) (sym (zeros-lent c.args.m 256 c.requires.small)) (room-zeros _)

pub act_by_sums-requires-clause-zeros : goal.act_by_sums-requires-clause-zeros
act_by_sums-requires-clause-zeros c =
    let odd = c.in-Prime.odd in
    ap (elements_of odd) (zeros-lent c.args.m 256 c.requires.small) ∙ elements-zeros odd _

pub invariant_of-act_by_sums : goal.invariant_of-act_by_sums
invariant_of-act_by_sums c =
    record {
      in_characteristic_two = elim c.in_default.branch [
        | in_default-via-in-Prime+else-characteristic-ne2 w ↦
            ap (λ f. (field_of f).characteristic) w.field-is
            ∙ sym w.characteristic.ensures
            ∙ w.if-characteristic-ne2.false
        | in_default-via-in_default w ↦
            ap (λ f. (field_of f).characteristic) w.field-is
            ∙ sym (ap (λ F. F.characteristic) (extension-field w.in_default.field-0 w.in_default.is))
            ∙ binary_characteristic w.in_default.field-0
      ];
    }

pub act_by_sums-requires-in_default-clause-room : goal.act_by_sums-requires-in_default-clause-room
act_by_sums-requires-in_default-clause-room c =
    bounded_zeros (field-is_field c.in_default.field) (zeros-lent c.args.m 256 c.requires.small)

pub act_by_sums-requires-in_default-clause-zeros : goal.act_by_sums-requires-in_default-clause-zeros
act_by_sums-requires-in_default-clause-zeros c = zeros-lent c.args.m 256 c.requires.small
