-- `rate_accepted` meets its contract: a law of the records at each way out.
-- Assumes nothing.
use mathlib.Core.Path.{sym, ap, ◌∙◌}
use Rattle.meaning.specs.Route.{mode_of}
use Rattle.meaning.proofs.Replies.{handed_on}
use Rattle.arith.proofs.Represented.{field-is_field}
use Rattle.rate_file.proofs.records.Suited.{some-mode}
use Rattle.rate_file.proofs.records.Rates.{mode-asked, records-free, period_refused, set_refused}
use Rattle.rate_file.proofs.records.Rates.{factors-number, records-period, records-set, one_checked}
use Rattle.rate_file.proofs.records.Rates.{all_checked}
use Rattle.rate_file.proofs.modes.Calls.{rated_as, refused_rated}
use Rattle.rate_file.proofs.records.rate_accepted.Goals as goal

-- an accepted file has a mode
pub returns-in_err-try_from : goal.returns-in_err-try_from
returns-in_err-try_from c =
    let unknown = sym (ap mode_of c.byte_of.ensures) ∙ c.in_err-try_from.ensures.1 in
    absurd (some-mode _ c.requires.accepted.suited unknown)

pub returns-in-Free : goal.returns-in-Free
returns-in-Free c =
    let m = mode-asked _ c.byte_of.ensures c.in_ok-try_from.ensures c.in-Free.is in
    rated_as (records-free (field-is_field c.args.field) _ _ _ _ c.requires m) c.rate_free_file.ensures

pub returns-in_err-written_factors_verdict-in-Period : goal.returns-in_err-written_factors_verdict-in-Period
returns-in_err-written_factors_verdict-in-Period c =
    let m = mode-asked _ c.byte_of.ensures c.in_ok-try_from.ensures c.in-Period.is in
    let v = c.written_factors_verdict.ensures in
    let q = c.in_err-written_factors_verdict-in-Period.was in
    let I = field-is_field c.args.field in
    refused_rated
    (handed_on c.from_residual-in_err-written_factors_verdict-in-Period.result
    c.from_residual-in_err-written_factors_verdict-in-Period.ensures)
    (period_refused I _ _ _ _ c.requires v m q)
    (factors-number I _ _ 0 0 c.requires v q)

pub rate_period_file-requires : goal.rate_period_file-requires
rate_period_file-requires c =
    let m = mode-asked _ c.byte_of.ensures c.in_ok-try_from.ensures c.in-Period.is in
    one_checked (field-is_field c.args.field) _ _ 0 0 c.requires c.written_factors_verdict.ensures
    c.in_ok-written_factors_verdict-in-Period.was
    m

pub returns-in_ok-written_factors_verdict-in-Period : goal.returns-in_ok-written_factors_verdict-in-Period
returns-in_ok-written_factors_verdict-in-Period c =
    let m = mode-asked _ c.byte_of.ensures c.in_ok-try_from.ensures c.in-Period.is in
    rated_as
    (records-period (field-is_field c.args.field) _ _ _ _ c.requires c.written_factors_verdict.ensures
    c.in_ok-written_factors_verdict-in-Period.was
    m)
    c.rate_period_file.ensures

pub returns-in_err-written_factors_verdict-in-Set : goal.returns-in_err-written_factors_verdict-in-Set
returns-in_err-written_factors_verdict-in-Set c =
    let m = mode-asked _ c.byte_of.ensures c.in_ok-try_from.ensures c.in-Set.is in
    let v = c.written_factors_verdict-in-Set.ensures in
    let q = c.in_err-written_factors_verdict-in-Set.was in
    let I = field-is_field c.args.field in
    refused_rated
    (handed_on c.from_residual-in_err-written_factors_verdict-in-Set.result
    c.from_residual-in_err-written_factors_verdict-in-Set.ensures)
    (set_refused I _ _ _ _ c.requires v m q)
    (factors-number I _ _ 0 0 c.requires v q)

pub rate_set_file-requires : goal.rate_set_file-requires
rate_set_file-requires c =
    let m = mode-asked _ c.byte_of.ensures c.in_ok-try_from.ensures c.in-Set.is in
    all_checked (field-is_field c.args.field) _ _ 0 0 c.requires c.written_factors_verdict-in-Set.ensures
    c.in_ok-written_factors_verdict-in-Set.was
    m

pub returns-in_ok-written_factors_verdict-in-Set : goal.returns-in_ok-written_factors_verdict-in-Set
returns-in_ok-written_factors_verdict-in-Set c =
    let m = mode-asked _ c.byte_of.ensures c.in_ok-try_from.ensures c.in-Set.is in
    rated_as
    (records-set (field-is_field c.args.field) _ _ _ _ c.requires c.written_factors_verdict-in-Set.ensures
    c.in_ok-written_factors_verdict-in-Set.was
    m)
    c.rate_set_file.ensures
