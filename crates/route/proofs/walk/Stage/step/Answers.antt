-- `Stage::step` meets its contract: each way out is a law of the verdict.
-- Assumes nothing.
use Rattle.std.proofs.Common.{sym, ◌∙◌, ap}
use Rattle.std.proofs.lemmas.Result.{err_from_is_err_and}
use Rattle.meaning.specs.Answers.{number_of}
use Rattle.meaning.specs.Route.{look_up, body_lengths, admitted}
use Rattle.route.specs.framing.Iterating.{read}
use Rattle.route.specs.walk.Walking.{stage_of, stepped}
use Rattle.route.proofs.walk.Judging.{judged_unknown, judged_cut, judged_after}
use Rattle.route.proofs.walk.Stage.step.Goals as goal

pub returns-in_err-kind : goal.returns-in_err-kind
unfolding stepped number_of
returns-in_err-kind c =
    let p = err_from_is_err_and c.from_residual.result c.from_residual.ensures.1 in
    rw (p.1, p.2, c.in_err-kind.ensures.0)
    (record { rest = λ rs. judged_unknown (read c.args.next) rs _ c.in_err-kind.ensures.1 })

pub returns-then-next-body_length : goal.returns-then-next-body_length
unfolding stepped number_of
returns-then-next-body_length c =
    let e = ap (λ k. look_up k body_lengths) c.in_ok-kind.ensures ∙ c.body_length.ensures in
    record { rest = λ rs. judged_cut (read c.args.next) rs _ e c.if-next-body_length.true }

pub returns : goal.returns
returns c =
    let e = ap (λ k. look_up k body_lengths) c.in_ok-kind.ensures ∙ c.body_length.ensures in
    let a = ap (λ k. look_up k (admitted (stage_of c.args.self))) c.in_ok-kind.ensures in
    rw c.ok_or.ensures.value
    (judged_after (read c.args.next) c.args.self e c.if-next-body_length.false c.after.result
    (c.after.ensures ∙ sym a))
