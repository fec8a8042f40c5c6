-- `fill_rows` meets its contract. The invariant is `Filling`. Assumes nothing.
use Rattle.irreducible.proofs.frobenius.Filling.{filling-start, filling-next, filling-end}
use native.Mathlib.Omega.{arith}
use Rattle.irreducible.proofs.frobenius.fill_rows.Goals as goal

pub loop-j-init : goal.loop-j-init
loop-j-init c = (
  c.degree-d.ensures,
  filling-start c.args.ring.now.field c.args.y.now c.args.ring.now.modulus c.requires.table_len,
)

pub loop-j-preserved : goal.loop-j-preserved
loop-j-preserved c =
    let i = c.loop-j.invariant in (
      i.0,
      filling-next c.args.ring.now.field c.args.y.now c.args.ring.now.modulus i.0 i.1 (omega arith)
          c.copy_from_slice.ensures.after c.next_row.ensures,
    )

pub returns : goal.returns
returns c =
    let i = c.loop-j.invariant in
    filling-end c.args.ring.now.field c.args.y.now c.args.ring.now.modulus i.1 (omega (arith, i.0))
