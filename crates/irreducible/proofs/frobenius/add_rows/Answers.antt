-- `add_rows` meets its contract. The invariant is `Summing`. Assumes nothing.
use mathlib.Core.Path.{refl}
use Rattle.irreducible.proofs.frobenius.Summing.{summing_start, summing_next, summing_end}
use native.Mathlib.Omega.{arith}
use Rattle.irreducible.proofs.frobenius.add_rows.Goals as goal

pub loop-j-init : goal.loop-j-init
loop-j-init c = (
  refl,
  summing_start c.args.field c.args.table.now c.args.h.now c.requires.table_len.0
      c.requires.table_len.1 c.requires.table_len.2 c.requires.sum_value,
)

pub loop-j-preserved : goal.loop-j-preserved
loop-j-preserved c = (
  refl,
  summing_next c.args.field c.args.table.now c.args.h.now c.requires.table_len.0
      c.requires.table_len.1
      c.loop-j.invariant.1 (omega arith)
      c.add_multiple.ensures,
)

pub returns : goal.returns
returns c =
    summing_end c.args.field c.args.table.now c.args.h.now c.requires.table_len.0
    c.requires.table_len.1
    c.loop-j.invariant.1 (omega arith)
