-- `Bodies::next` meets its contract: the first record of the kind among those that are left.
-- Assumes nothing.
use Rattle.std.proofs.Common.{Some, None, rules, tests}
use Rattle.route.specs.framing.Iterating.{read, left, bodies_left}
use Rattle.route.proofs.framing.Frames.{found, progress}
use Rattle.route.proofs.framing.BodiesIterator.next.Goals as goal

pub returns-in_err-record-clause-steps : goal.returns-in_err-record-clause-steps
returns-in_err-record-clause-steps c =
    rw c.from_residual.ensures
    (found read left c.args.self.now.kind _ _ (λ x b q k. search (rules, tests))
    c.args.self.now.records None c.find.new.self c.in_err-record.ensures.ran)

pub returns-clause-steps : goal.returns-clause-steps
returns-clause-steps c =
    found read left c.args.self.now.kind _ _ (λ x b q k. search (rules, tests))
    c.args.self.now.records (Some c.in_ok-record.record) c.find.new.self c.in_ok-record.ensures.ran

pub returns-clause-goes : goal.returns-clause-goes
returns-clause-goes c = progress bodies_left _ _ _ _ (returns-clause-steps c)
