-- `binary::Words::reduce` meets its contract. The invariant: reduced by s turns more, what stands in the
-- place of f is the first polynomial that fits. Assumes nothing.
use mathlib.Core.Path.{◌≡◌}
use Rattle.massey.proofs.binary.Turning.{WordsTurning}
use Rattle.massey.proofs.binary.Words.reduce.Given as goal

abbrev pub invariant-loop : goal.invariant-loop
invariant-loop l =
    (l.counter ≡ l.self.known.seen)
    × (l.self.known.degree ≡ l.l)
    × WordsTurning l.terms l.self.known l.self.f l.self.g l.self.lowest
