-- `binary::Words::align` meets its contract. The invariant: g is moved down by the bits between the two
-- numbers. The measure is the number of bits left. Assumes nothing.
use Prim.Native.Nat.{◌+◌, ◌-◌}
use mathlib.Core.Path.{◌≡◌}
use Rattle.massey.proofs.binary.Aligning.{Aligning}
use Rattle.massey.proofs.binary.Words.align.Given as goal

abbrev pub invariant-loop-self : goal.invariant-loop-self
invariant-loop-self l =
    Aligning l.initial.self.known l.initial.self.g l.initial.self.lowest l.self.known l.self.g
    × (l.self.f ≡ l.initial.self.f) × (l.self.lowest ≡ l.initial.self.lowest)

abbrev pub decreases-loop-self : goal.decreases-loop-self
decreases-loop-self l = l.initial.self.known.seen + 1 - l.self.known.aligned
