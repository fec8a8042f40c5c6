-- Sums that are elements meet the contract of `Summation::add`: nothing is added where c is 0. Assumes
-- nothing.
use mathlib.Core.List.{◌++◌}
use native.Mathlib.Omega.{arith}
use lib.ListN.{length-append}
use Rattle.arith.specs.Represented.{field_of}
use Rattle.arith.proofs.Represented.{field-is_field}
use Rattle.arith.proofs.sums.Runs.{runs_added}
use Rattle.lent.proofs.sums.Bounded.{combined-zero, bounded_combined}
use Rattle.lent.proofs.elements.ElementSumsSummation.add.Goals as goal

pub returns-then-c-eq0-clause-values : goal.returns-then-c-eq0-clause-values
returns-then-c-eq0-clause-values c =
    let a = c.args in
    combined-zero (field-is_field a.self.field) (a.first.now ++ a.second.now) c.requires.room c.if-c-eq0.true
    (omega (arith, length-append a.first.now a.second.now))

pub returns-clause-values : goal.returns-clause-values
returns-clause-values c =
    let a = c.args in
    runs_added (field_of a.self.field) a.sums.now a.c a.first.now a.second.now c.requires.second_len
    c.add_run.ensures
    c.add_run-2.ensures

pub returns-clause-room : goal.returns-clause-room
returns-clause-room c =
    let a = c.args in
    bounded_combined (field-is_field a.self.field) a.sums.now a.c (a.first.now ++ a.second.now)
    (omega (arith, length-append a.first.now a.second.now))
    (runs_added (field_of a.self.field) a.sums.now a.c a.first.now a.second.now c.requires.second_len
    c.add_run.ensures
    c.add_run-2.ensures)
