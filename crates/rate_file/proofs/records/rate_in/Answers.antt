-- `rate_in` meets its contract: the terms are refused, or else the rest decides.
-- Assumes nothing.
use Rattle.arith.proofs.Represented.{field-is_field}
use Rattle.meaning.proofs.Replies.{handed_on}
use Rattle.rate_file.proofs.modes.Calls.{refused_rated}
use Rattle.rate_file.proofs.records.Rates.{terms-number, rateable, records-terms}
use Rattle.rate_file.proofs.records.rate_in.Goals as goal

pub rate_accepted-requires : goal.rate_accepted-requires
rate_accepted-requires c =
    rateable (field-is_field c.args.field) _ _ c.requires.0 c.requires.1 c.terms_verdict.ensures
    c.in_ok-terms_verdict.was

pub returns-in_err-terms_verdict : goal.returns-in_err-terms_verdict
returns-in_err-terms_verdict c =
    let q = c.in_err-terms_verdict.was in
    refused_rated (handed_on c.from_residual.result c.from_residual.ensures)
    (records-terms (field-is_field c.args.field) _ _ c.requires.0 c.requires.1 c.terms_verdict.ensures _ _ q)
    (terms-number _ _ c.terms_verdict.ensures q)
