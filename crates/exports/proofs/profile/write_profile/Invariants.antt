-- `write_profile` meets its contract. The invariant: the first i terms were handed in and their entries
-- written. The measure is the number of terms that are left. Assumes nothing.
use Prim.Native.Nat.{◌-◌, ◌/◌, ◌≤◌, min}
use mathlib.Core.Path.{◌≡◌}
use lib.ListN.{length}
use Rattle.exports.proofs.profile.Profiles.{Entered}
use Rattle.exports.proofs.profile.write_profile.Given as goal

abbrev pub invariant-loop-i : goal.invariant-loop-i
invariant-loop-i l = (l.i ≤ l.i-end)
    × (l.i-end ≡ min (length l.terms) (length l.initial.profile / 4))
    × Entered l.initial.known l.terms l.initial.held l.initial.work l.initial.profile l.i l.known l.held
    l.work l.profile

abbrev pub decreases-loop-i : goal.decreases-loop-i
decreases-loop-i l = l.i-end - l.i
