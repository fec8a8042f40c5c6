-- `dot_in` meets its contract.
-- Assumes nothing.
use mathlib.Core.Path.{sym, ◌∙◌}
use lib.ListN.{length}
use Rattle.meaning.specs.Sequence.{act_at, known}
use Rattle.leaves.specs.Suited.{suited}
use Rattle.leaves.proofs.Suiting.{suited-first, suited_few, answer_unsuited, answer_declined, answer-named}
use Rattle.leaves.proofs.dot_in.Goals as goal

pub returns-then-not-suits : goal.returns-then-not-suits
returns-then-not-suits c =
    let a = c.args in
    answer_unsuited a.name _ (λ F. act_at F a.c.now (known a.s.now) 0) 0
    (sym c.suits.ensures ∙ c.if-not-suits.true)

pub dot-requires : goal.dot-requires
dot-requires c =
    let y = c.if-not-suits.false in
    (suited-first _ _ c.suits.ensures y, suited_few _ _ c.suits.ensures y)

pub returns-in-Ok : goal.returns-in-Ok
returns-in-Ok c =
    let a = c.args in
    answer-named a.name _ (λ F. act_at F a.c.now (known a.s.now) 0) 0
    (sym c.suits.ensures ∙ c.if-not-suits.false) c.in-Ok.ensures c.dot.ensures

pub returns-in-Err : goal.returns-in-Err
returns-in-Err c =
    let a = c.args in
    answer_declined a.name (suited (length a.c.now) (length a.s.now))
    (λ F. act_at F a.c.now (known a.s.now) 0) 0 c.in-Err.ensures
