-- `reader::record` meets its contract.
-- Assumes nothing.
use mathlib.Core.Path.{ap}
use Rattle.meaning.specs.Answers.{told, told_record}
use Rattle.meaning.specs.Calls.{body_after}
use Rattle.meaning.specs.Result.{map_result}
use Rattle.meaning.proofs.Replies.{handed_on}
use Rattle.route.specs.walk.Walking.{told_verdict}
use Rattle.route.proofs.reader.Readings.{read_refused, read_found}
use Rattle.route.proofs.reader.record.Goals as goal

pub returns-in_err-file_verdict : goal.returns-in_err-file_verdict
unfolding told_record body_after told_verdict told map_result
returns-in_err-file_verdict c =
    let v = ap told_verdict c.in_err-file_verdict.was in
    let e = read_refused c.args.file.now c.args.n c.file_verdict.ensures v in
    let q = handed_on c.from_residual.result c.from_residual.ensures in
    rw q (record { found = rw e; part = rw e })

pub returns : goal.returns
unfolding told_record body_after told_verdict told map_result
returns c =
    let v = ap told_verdict c.in_ok-file_verdict.was in
    let e = read_found c.args.file.now c.args.n c.file_verdict.ensures v c.record_at.ensures in
    record { found = rw e; part = rw e }
