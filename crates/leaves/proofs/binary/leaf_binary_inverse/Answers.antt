-- `binary::leaf_binary_inverse` meets its contract.
-- Assumes nothing.
use mathlib.Core.Path.{refl}
use mathlib.Core.Bool.{true}
use Rattle.meaning.specs.declared.FieldName.{FieldName}
use Rattle.meaning.specs.FieldNames.{named_field, not_field}
use Rattle.arith.specs.Inverse.{inverse}
use borrow.Author.Rules.{rules}
use Rattle.leaves.proofs.Suiting.{answer_made}
use Rattle.leaves.proofs.binary.leaf_binary_inverse.Goals as goal

pub returns : goal.returns
unfolding named_field not_field
returns c =
    let a = c.args in
    answer_made (FieldName.Binary a.degree a.low) true (λ F. inverse F a.a) 0 _ refl c.named.ensures
    c.map_or.ensures (λ field k. search rules)
