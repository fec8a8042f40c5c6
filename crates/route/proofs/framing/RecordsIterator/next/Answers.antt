-- `Records::next` meets its contract: the first record, and what is left after it.
-- Assumes nothing.
use Rattle.route.specs.framing.Iterating.{left}
use Rattle.route.proofs.framing.Frames.{framed_nil, framed_first, progress}
use Rattle.route.proofs.framing.RecordsIterator.next.Goals as goal

pub returns-in_err-first-clause-steps : goal.returns-in_err-first-clause-steps
returns-in_err-first-clause-steps c =
    let e = framed_nil c.args.self.now.rest.now c.in_err-first.ensures.cases in
    rw c.from_residual.ensures (e, e)

pub returns-clause-steps : goal.returns-clause-steps
returns-clause-steps c =
    let k = c.in_ok-first.first.now in
    rw (c.split_at.ensures.front, c.split_at.ensures.back, c.min.ensures)
    (framed_first c.args.self.now.rest.now k c.body_length.result c.in_ok-first.after.now
    c.in_ok-first.ensures.cases.0 c.body_length.ensures)

pub returns-clause-goes : goal.returns-clause-goes
returns-clause-goes c =
    progress left _ _ _ _ (returns-clause-steps c)
