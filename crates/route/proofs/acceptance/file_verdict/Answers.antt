-- `acceptance::file_verdict` meets its contract: each way out is a law of the records.
-- Assumes nothing.
use mathlib.Core.Path.{sym, ap, ◌∙◌}
use Rattle.meaning.proofs.Replies.{handed_on}
use Rattle.meaning.specs.Answers.{number_of, told}
use Rattle.route.specs.walk.Walking.{told_verdict}
use Rattle.route.proofs.acceptance.Accepting.{verdict_long, verdict_refused, verdict_unsuited}
use Rattle.route.proofs.acceptance.Accepting.{verdict_suited}
use Rattle.route.proofs.acceptance.file_verdict.Goals as goal

pub returns-then-file-gt-MOST_BYTES : goal.returns-then-file-gt-MOST_BYTES
unfolding told_verdict told number_of
returns-then-file-gt-MOST_BYTES c = verdict_long _ c.if-file-gt-MOST_BYTES.true

pub returns-in_err-walk_file : goal.returns-in_err-walk_file
unfolding told_verdict told number_of
returns-in_err-walk_file c =
    let q = handed_on c.from_residual.result c.from_residual.ensures in
    rw q
    (verdict_refused _ c.if-file-gt-MOST_BYTES.false c.walk_file.ensures
    (ap told_verdict c.in_err-walk_file.was))

pub returns-then-mode_unsuited : goal.returns-then-mode_unsuited
unfolding told_verdict told number_of
returns-then-mode_unsuited c =
    verdict_unsuited _ c.if-file-gt-MOST_BYTES.false c.walk_file.ensures
    (ap told_verdict c.in_ok-walk_file.was)
    (sym c.mode_unsuited.ensures ∙ c.if-mode_unsuited.true)

pub returns : goal.returns
unfolding told_verdict told number_of
returns c =
    verdict_suited _ c.if-file-gt-MOST_BYTES.false c.walk_file.ensures
    (ap told_verdict c.in_ok-walk_file.was)
    (sym c.mode_unsuited.ensures ∙ c.if-mode_unsuited.false)
