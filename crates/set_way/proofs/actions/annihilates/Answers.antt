-- `actions::annihilates` meets its contract. Assumes nothing.
use Rattle.arith.proofs.Represented.{field-is_field}
use Rattle.set_way.proofs.actions.Loaded.{decided-none, decided-set}
use Rattle.set_way.proofs.actions.annihilates.Goals as goal

pub returns-then-terms-degree : goal.returns-then-terms-degree
returns-then-terms-degree c =
    decided-none (field-is_field c.args.field) c.requires.set_input c.total_degree-degree.ensures
    c.if-terms-degree.true

pub returns : goal.returns
returns c = decided-set c.act_all-left.ensures c.all_zero.ensures
