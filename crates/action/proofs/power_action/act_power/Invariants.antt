-- `power_action::act_power` meets its contract. The invariant: f^(rest·q) on the terms at `at` is f^u on the
-- n terms, and q is a power of the characteristic. The measure is the rest. Assumes nothing.
use Prim.Native.Nat.{◌*◌, ◌-◌}
use Rattle.meaning.specs.Polynomial.{degree}
use Rattle.lent.specs.halves.Halves.{half}
use Rattle.action.proofs.power_action.Raising.{Raising}
use Rattle.action.proofs.power_action.act_power.Given as goal

abbrev pub invariant-loop-rest : goal.invariant-loop-rest
invariant-loop-rest l = Raising l.field l.f l.u (l.initial.at.count - l.u * degree l.f)
    (half l.initial.work l.initial.at.half l.initial.at.count) l.initial.work l.work l.at l.rest l.level

abbrev pub decreases-loop-rest : goal.decreases-loop-rest
decreases-loop-rest l = l.rest
