-- `update_in` meets its contract.
-- Assumes nothing.
use mathlib.Core.Path.{sym, ◌∙◌}
use lib.ListN.{length}
use Rattle.arith.specs.Slices.{combined}
use Rattle.leaves.specs.Suited.{suited}
use Rattle.leaves.proofs.Suiting.{suited-first, answer_unsuited, answer_declined, answer-named}
use Rattle.leaves.proofs.update_in.Goals as goal

pub returns-then-not-suits : goal.returns-then-not-suits
returns-then-not-suits c =
    let a = c.args in
    answer_unsuited a.name _ (λ F. combined F a.a.now a.c a.b.now) a.a.now
    (sym c.suits.ensures ∙ c.if-not-suits.true)

pub add_multiple-requires : goal.add_multiple-requires
add_multiple-requires c = suited-first _ _ c.suits.ensures c.if-not-suits.false

pub returns-in-Ok : goal.returns-in-Ok
returns-in-Ok c =
    let a = c.args in
    answer-named a.name _ (λ F. combined F a.a.now a.c a.b.now) a.a.now
    (sym c.suits.ensures ∙ c.if-not-suits.false) c.in-Ok.ensures c.add_multiple.ensures

pub returns-in_default : goal.returns-in_default
returns-in_default c =
    let a = c.args in
    answer_declined a.name (suited (length a.b.now) (length a.a.now)) (λ F. combined F a.a.now a.c a.b.now)
    a.a.now c.in_default.ensures
