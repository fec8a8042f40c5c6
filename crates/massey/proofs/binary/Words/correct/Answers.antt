-- `binary::Words::correct` meets its contract: the degree stays, or it changes. Assumes nothing.
use Rattle.massey.proofs.binary.Standing.{hold_kept, hold_changed}
use native.Mathlib.Omega.{arith}
use Rattle.massey.proofs.binary.Words.correct.Goals as goal

pub returns-then-m-l-clause-stepped : goal.returns-then-m-l-clause-stepped
returns-then-m-l-clause-stepped c ts h q =
    hold_kept ts h q (omega arith) c.if-m-l.true c.add_moved.ensures c.reached-self.ensures

pub returns-clause-stepped : goal.returns-clause-stepped
returns-clause-stepped c ts h q =
    hold_changed ts h q (omega arith) c.if-m-l.false c.exchange.ensures c.changed-self.ensures
