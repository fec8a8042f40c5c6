-- `gobashe_record` meets its contract: a record is found, or the file is refused.
-- Assumes nothing.
use Rattle.exports.proofs.Records.{record_found, record_refused}
use Rattle.exports.proofs.reader.gobashe_record.Goals as goal

pub returns-in-Ok : goal.returns-in-Ok
returns-in-Ok c = record_found c.in-Ok.ensures c.into.ensures c.body_start.ensures

pub returns-in-Err : goal.returns-in-Err
returns-in-Err c = record_refused c.in-Err.ensures c.into-in-Err.ensures
