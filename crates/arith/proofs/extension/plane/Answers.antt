-- `extension::plane` meets its contract. The invariant: x and the plane from the next place on make the
-- whole. Assumes nothing.
use native.Mathlib.Omega.{arith}
use Rattle.arith.proofs.extension.Planes.{collecting_more, collecting_end}
use Rattle.arith.proofs.extension.plane.Goals as goal

pub loop-i-preserved : goal.loop-i-preserved
loop-i-preserved c =
    let a = c.args in
    collecting_more a.bit a.c.now a.s.now c.loop-i.i c.loop-i.x c.pick-x.result c.loop-i.invariant
    (omega arith)
    c.pick-x.ensures

pub returns : goal.returns
returns c =
    let a = c.args in
    collecting_end a.bit a.c.now a.s.now c.loop-i.i c.loop-i.x c.loop-i.invariant (omega arith)
