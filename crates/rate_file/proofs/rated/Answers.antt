-- `rated` meets its contract: the file is refused, or what it holds is rated.
-- Assumes nothing.
use mathlib.Core.Path.{sym, refl, ap, ◌∙◌}
use Rattle.meaning.specs.Answers.{told}
use Rattle.meaning.proofs.Replies.{handed_on}
use Rattle.route.specs.walk.Walking.{told_verdict}
use Rattle.rate_file.proofs.records.Terms.{gathered_cut}
use Rattle.rate_file.proofs.modes.Calls.{rated_as, refused_rated}
use Rattle.rate_file.proofs.Ratings.{file-accepted, file-rated, file_refused, file-number}
use Rattle.rate_file.proofs.rated.Goals as goal

pub rate_records-requires : goal.rate_records-requires
unfolding told_verdict told
rate_records-requires c = (
  file-accepted _ (sym (ap told_verdict c.in_ok-file_verdict.was) ∙ c.file_verdict.ensures),
  gathered_cut c.gather_terms-count.ensures refl c.part.ensures,
)

pub returns-in_err-file_verdict : goal.returns-in_err-file_verdict
unfolding told_verdict told
returns-in_err-file_verdict c =
    let e = sym (ap told_verdict c.in_err-file_verdict.was) ∙ c.file_verdict.ensures in
    refused_rated (handed_on c.from_residual.result c.from_residual.ensures) (file_refused _ _ _ e)
    (file-number _ e)

pub returns : goal.returns
unfolding told_verdict told
returns c =
    let e = sym (ap told_verdict c.in_ok-file_verdict.was) ∙ c.file_verdict.ensures in
    rated_as (file-rated _ _ _ e) c.rate_records.ensures
