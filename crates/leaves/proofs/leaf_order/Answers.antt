-- `leaf_order` meets its contract.
-- Assumes nothing.
use mathlib.Core.Path.{refl}
use mathlib.Core.Bool.{true}
use Rattle.meaning.specs.declared.FieldName.{FieldName}
use Rattle.leaves.specs.Orderly.{order}
use borrow.Author.Rules.{rules}
use Rattle.leaves.proofs.Suiting.{answer_made, answer-prime}
use Rattle.leaves.proofs.leaf_order.Goals as goal

pub returns : goal.returns
returns c =
    let a = c.args in
    answer-prime a.p true (λ F. order F a.f.now a.limit) 0
    (answer_made (FieldName.Prime a.p) true (λ F. order F a.f.now a.limit) 0 _ refl c.try_from.ensures
    c.map_or.ensures (λ field k. search rules))
