-- `binary::leaf_binary_squares` meets its contract.
-- Assumes nothing.
use mathlib.Core.Path.{refl}
use mathlib.Core.Bool.{true}
use Rattle.meaning.specs.declared.FieldName.{FieldName}
use Rattle.meaning.specs.FieldNames.{named_field, not_field}
use Rattle.leaves.specs.binary.Squares.{squares}
use Rattle.leaves.proofs.Suiting.{answer_declined, answer-named}
use Rattle.leaves.proofs.binary.leaf_binary_squares.Goals as goal

pub returns-in-Ok : goal.returns-in-Ok
unfolding named_field not_field
returns-in-Ok c =
    let a = c.args in
    answer-named (FieldName.Binary a.degree a.low) true (λ F. squares F a.a.now) a.a.now refl c.in-Ok.ensures
    c.frobenius_in.ensures

pub returns-in_default : goal.returns-in_default
unfolding named_field not_field
returns-in_default c =
    let a = c.args in
    answer_declined (FieldName.Binary a.degree a.low) true (λ F. squares F a.a.now) a.a.now
    c.in_default.ensures
