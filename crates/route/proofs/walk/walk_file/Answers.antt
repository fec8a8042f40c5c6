-- `walk::walk_file` meets its contract. The records that are left have the verdict of all.
-- Assumes nothing.
use Rattle.std.proofs.Common.{[], sym, ◌∙◌, ap}
use Rattle.meaning.proofs.Replies.{handed_on}
use Rattle.meaning.specs.Answers.{number_of, told}
use Rattle.meaning.specs.Route.{at_start}
use Rattle.route.specs.framing.Framing.{records_from}
use Rattle.route.specs.walk.Walking.{stage_of, judged, told_verdict}
use Rattle.route.proofs.walk.Judging.{judged-walk, turn-kept, turn-bad, judged_end, judged_early}
use Rattle.route.proofs.walk.walk_file.Goals as goal

pub returns-in_err-stage : goal.returns-in_err-stage
unfolding told_verdict told records_from
returns-in_err-stage c =
    let q = handed_on c.from_residual.result c.from_residual.ensures in
    rw q
    (sym (turn-bad c.step.ensures c.in_err-stage.was _)
    ∙ sym (ap (λ rs. judged rs (stage_of c.loop-record.stage)) c.in-Some.ensures.steps)
    ∙ c.loop-record.invariant ∙ sym (judged-walk c.args.file.now 0 at_start))

pub loop-record-preserved : goal.loop-record-preserved
loop-record-preserved c =
    sym (turn-kept c.step.ensures c.in_ok-stage.was _)
    ∙ sym (ap (λ rs. judged rs (stage_of c.loop-record.stage)) c.in-Some.ensures.steps)
    ∙ c.loop-record.invariant

pub returns-in-End : goal.returns-in-End
unfolding told_verdict told records_from
returns-in-End c =
    sym judged_end ∙ ap (λ s. judged [] (stage_of s)) (sym c.in-End.is)
    ∙ sym (ap (λ rs. judged rs (stage_of c.loop-record.stage)) c.in-None.ensures.steps.0)
    ∙ c.loop-record.invariant ∙ sym (judged-walk c.args.file.now 0 at_start)

pub returns-in_default : goal.returns-in_default
unfolding told_verdict told number_of records_from
returns-in_default c =
    sym (judged_early c.loop-record.stage c.in_default.not-End)
    ∙ sym (ap (λ rs. judged rs (stage_of c.loop-record.stage)) c.in-None.ensures.steps.0)
    ∙ c.loop-record.invariant ∙ sym (judged-walk c.args.file.now 0 at_start)
