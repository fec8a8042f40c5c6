-- The invariant of the levels: `power` and the digits below the level of what stands at `at` make the power
-- of the n terms; the measure is the exponent of the level. The invariant of one digit: `digit`, and the
-- digit of what stands at `at`, make the digit of what was there when the level began; the measure is the
-- number of tries that are left.
use Prim.Native.Nat.{◌-◌}
use Rattle.lent.specs.halves.Halves.{half, Halves}
use Rattle.lent.specs.halves.Kept.{Kept}
use Rattle.powers.proofs.digit_search.Trying.{Trying}
use Rattle.powers.proofs.digit_search.Seeking.{step_of, Seeking}
use Rattle.powers.proofs.digit_search.least_power.Given as goal

abbrev pub invariant-loop-digit : goal.invariant-loop-digit
invariant-loop-digit l =
    record {
      tried :
          Trying (step_of l.field l.f) (l.level.base - 1) l.level.power
          (half l.initial.work l.initial.at.half l.initial.at.count)
          l.digit
          (half l.work l.at.half l.at.count);
      halves : Halves l.work l.at.half l.at.count;
      kept : Kept l.initial.work l.work;
    }

abbrev pub decreases-loop-digit : goal.decreases-loop-digit
decreases-loop-digit l = l.level.base - 1 - l.digit

abbrev pub invariant-levels : goal.invariant-levels
invariant-levels l =
    Seeking l.field l.f l.initial.level.exponent l.initial.level.power
    (half l.initial.work l.initial.at.half l.initial.at.count) l.initial.work l.work l.at.half l.at.count
    l.level l.power

abbrev pub decreases-levels : goal.decreases-levels
decreases-levels l = l.level.exponent
