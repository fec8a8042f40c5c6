-- `walk::walk_file` meets its contract. The records that are left have the verdict of all.
-- Assumes nothing.
use mathlib.Core.Path.{◌≡◌}
use Rattle.meaning.specs.Route.{at_start}
use Rattle.route.specs.framing.Framing.{records_from}
use Rattle.route.specs.framing.Iterating.{left}
use Rattle.route.specs.walk.Walking.{stage_of, judged}
use Rattle.route.proofs.walk.walk_file.Given as goal

abbrev pub invariant-loop-record : goal.invariant-loop-record
invariant-loop-record l =
    judged (left l.record-iterator) (stage_of l.stage) ≡ judged (records_from l.file 0) at_start
