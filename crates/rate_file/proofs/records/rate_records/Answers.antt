-- `rate_records` meets its contract: the name of the field is refused, or the records are rated in it.
-- Assumes nothing.
use Rattle.meaning.proofs.Replies.{handed_on}
use Rattle.rate_file.proofs.records.Rates.{name_refused, name-made}
use Rattle.rate_file.proofs.records.rate_records.Goals as goal

pub returns-in_err-field : goal.returns-in_err-field
returns-in_err-field c =
    name_refused c.try_from.ensures _ c.field_name.ensures c.requires.0 c.in_err-field.was
    (handed_on c.from_residual.result c.from_residual.ensures)

pub returns : goal.returns
returns c =
    name-made c.try_from.ensures _ c.field_name.ensures c.requires.0 c.in_ok-field.was c.rate_in.ensures
