-- `find_entry` meets its contract: the verdict refuses, or the entries are searched and the work bytes
-- cleared. Assumes nothing.
use mathlib.Core.Path.{ap, ◌∙◌}
use lib.ListN.{replicate}
use Rattle.meaning.proofs.Replies.{handed_on}
use Rattle.find_entry.proofs.Call.{entry_refused, work-enough, searched-period, entry_call}
use Rattle.find_entry.proofs.find_entry.Goals as goal

pub returns-in_err-free_verdict : goal.returns-in_err-free_verdict
returns-in_err-free_verdict c =
    entry_refused c.two-field.ensures _ _ c.free_verdict.ensures c.in_err-free_verdict.was
    (handed_on _ c.from_residual.ensures)

pub unwrap-halves-requires : goal.unwrap-halves-requires
unwrap-halves-requires c =
    c.first_chunk_mut.ensures.variant.1
    (work-enough c.two-field.ensures _ _ c.free_verdict.ensures c.in_ok-free_verdict.was)

pub first_entry-found-requires-clause-binary_period :
    goal.first_entry-found-requires-clause-binary_period
first_entry-found-requires-clause-binary_period c =
    searched-period c.two-field.ensures _ c.args.work.now c.free_verdict.ensures c.in_ok-free_verdict.was

pub returns : goal.returns
returns c =
    entry_call c.two-field.ensures _ _ c.free_verdict.ensures c.in_ok-free_verdict.was
    c.first_entry-found.result c.first_entry-found.ensures c.ok_or.ensures.value
    (c.fill.ensures.after (λ y h. h) ∙ ap (λ n. replicate n 0) c.first_entry-found.array_long)
