-- `rate_checked` meets its contract: 16 refuses, or the shortest recurrence answers, by the two words.
-- Assumes nothing.
use mathlib.Core.Path.{sym, subst}
use lib.ListN.{length}
use Rattle.meaning.specs.Free.{free_in}
use Rattle.meaning.proofs.Replies.{handed_on}
use Rattle.arith.specs.Represented.{field_of}
use Rattle.arith.proofs.Represented.{field-is_field}
use Rattle.rate_free.specs.Ratings.{FreeRatedAs}
use Rattle.rate_free.proofs.FreeAnswer.{FreeAccepted, checked_verdict, verdict_open, verdict_accepted}
use Rattle.rate_free.proofs.FreeAnswer.{rating_refused_lem, rating_answered}
use Rattle.rate_free.proofs.rate_checked.Goals as goal

pub shortest_recurrence-degree-requires : goal.shortest_recurrence-degree-requires
shortest_recurrence-degree-requires c =
    let b = c.args in
    let h : FreeAccepted (field_of b.field) b.terms.now (length b.answer.now) (length b.work.now) =
    verdict_accepted _ _ _ _ (checked_verdict _ _ _ _ c.lent_verdict.result c.requires c.lent_verdict.ensures)
    c.in_ok-lent_verdict.was in
    (record { terms = h.count; bytes = h.work_room }, h.answer_room)

pub returns-in_err-lent_verdict : goal.returns-in_err-lent_verdict
returns-in_err-lent_verdict c =
    let a = c.args in
    subst (λ r. FreeRatedAs (free_in (field_of a.field) a.terms.now (length a.answer.now) (length a.work.now))
    a.answer.now a.work.now r a.answer.now a.work.now)
    (sym (handed_on _ c.from_residual.ensures))
    (rating_refused_lem _ _ _ _
    (checked_verdict _ _ _ _ c.lent_verdict.result c.requires c.lent_verdict.ensures)
    c.in_err-lent_verdict.was)

pub returns : goal.returns
returns c =
    rating_answered (field-is_field c.args.field)
    (verdict_open _ _ _ _
    (checked_verdict _ _ _ _ c.lent_verdict.result c.requires c.lent_verdict.ensures)
    c.in_ok-lent_verdict.was)
    c.shortest_recurrence-degree.ensures c.figures.ensures
