-- `binary::leaf_binary_sum` meets its contract.
-- Assumes nothing.
use mathlib.Core.Path.{refl}
use mathlib.Core.Bool.{true}
use Rattle.meaning.specs.declared.FieldName.{FieldName}
use Rattle.meaning.specs.FieldNames.{named_field, not_field}
use borrow.Author.Rules.{rules}
use Rattle.leaves.proofs.Suiting.{answer_made}
use Rattle.leaves.proofs.binary.leaf_binary_sum.Goals as goal

pub returns : goal.returns
unfolding named_field not_field
returns c =
    let a = c.args in
    answer_made (FieldName.Binary a.degree a.low) true (λ F. F.add a.a a.b) 0 _ refl c.named.ensures
    c.map_or.ensures (λ field k. search rules)
