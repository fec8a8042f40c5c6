-- `modes::rate_free_file` meets its contract.
-- Assumes nothing.
use mathlib.Core.Path.{sym, ap, ◌∙◌}
use lib.ListN.{length}
use Rattle.std.specs.Prelude.{Ok}
use Rattle.meaning.proofs.Replies.{handed_on}
use Rattle.rate_file.proofs.modes.Calls.{file_of_free, free-rated}
use Rattle.rate_file.proofs.modes.rate_free_file.Goals as goal

pub returns-in_err-degree : goal.returns-in_err-degree
returns-in_err-degree c =
    let m = length c.args.terms.now in
    free-rated m c.rate_checked.ensures
    (handed_on c.from_residual.result c.from_residual.ensures ∙ sym (ap (file_of_free m) c.in_err-degree.was))

pub returns-in-Unique : goal.returns-in-Unique
returns-in-Unique c =
    let m = length c.args.terms.now in
    free-rated m c.rate_checked.ensures
    (sym (ap (file_of_free m) (c.in_ok-degree.was ∙ ap Ok c.in-Unique.is)))

pub returns-in-Several : goal.returns-in-Several
returns-in-Several c =
    let m = length c.args.terms.now in
    free-rated m c.rate_checked.ensures
    (sym (ap (file_of_free m) (c.in_ok-degree.was ∙ ap Ok c.in-Several.is)))
