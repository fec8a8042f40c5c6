-- `extension::plane` meets its contract. The invariant: x and the plane from the next place on make the
-- whole. Assumes nothing.
use Rattle.arith.specs.extension.Planes.{Collecting}
use Rattle.arith.proofs.extension.plane.Given as goal

abbrev pub invariant-loop-i : goal.invariant-loop-i
invariant-loop-i l = Collecting l.bit l.c l.s l.i l.x
