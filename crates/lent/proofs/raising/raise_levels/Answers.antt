-- `raising::raise_levels` meets its contract. The invariant: the elements are raised to p^i. The measure is
-- the number of levels that are left. Assumes nothing.
use native.Mathlib.Omega.{arith}
use Rattle.arith.proofs.Represented.{field-is_field}
use Rattle.lent.proofs.raising.Levels.{raised-none, raised-more}
use Rattle.lent.proofs.raising.raise_levels.Goals as goal

pub loop-i-init : goal.loop-i-init
loop-i-init c =
    (omega arith, raised-none (field-is_field c.args.field) c.args.a.now c.requires)

pub loop-i-preserved : goal.loop-i-preserved
loop-i-preserved c = (
  omega arith,
  raised-more (field-is_field c.args.field) c.loop-i.i c.loop-i.invariant.1
      c.frobenius.ensures,
)
