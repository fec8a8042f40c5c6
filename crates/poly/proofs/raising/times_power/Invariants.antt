-- `raising::times_power` meets its contract. The invariant is `Raised`.
-- Assumes nothing.
use Rattle.poly.proofs.raising.Raising.{Raised}
use Rattle.poly.proofs.raising.times_power.Given as goal

abbrev pub invariant-loop-rest : goal.invariant-loop-rest
invariant-loop-rest l = Raised l.field l.f l.r l.initial.answer l.initial.n l.answer l.n l.level l.rest

abbrev pub decreases-loop-rest : goal.decreases-loop-rest
decreases-loop-rest l = l.rest
