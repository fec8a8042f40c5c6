-- `vectors::add_multiple` meets its contract. The invariant: the first i numbers of a + c·b are
-- written over a. The measure is what is left of b. Assumes nothing.
use mathlib.Core.Path.{refl}
use native.Mathlib.Omega.{arith}
use Rattle.arith.proofs.Writing.{combined-front, combined-end}
use Rattle.arith.proofs.vectors.add_multiple.Goals as goal

pub loop-i-preserved : goal.loop-i-preserved
loop-i-preserved g c =
    let a = c.args in
    let m = g.M.Multiples in (
      omega arith,
      refl,
      combined-front (m.field a.multiples) a.a.now (m.factor a.multiples) a.b.now (omega arith) (omega arith)
          c.loop-i.invariant.2
          c.plus_times.ensures,
    )

pub returns : goal.returns
returns g c =
    let a = c.args in
    let m = g.M.Multiples in
    combined-end (m.field a.multiples) a.a.now (m.factor a.multiples) a.b.now (omega arith) (omega arith)
    c.loop-i.invariant.2
