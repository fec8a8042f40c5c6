-- `raising::times_spreads` meets its contract. The invariant: the product with k of the factors.
-- Assumes nothing.
use Rattle.arith.proofs.Represented.{field-is_field}
use Rattle.poly.proofs.raising.Repeating.{repeat_none, repeat_more, repeat_growing}
use native.Mathlib.Omega.{arith}
use Rattle.poly.proofs.raising.times_spreads.Goals as goal

pub loop-k-init : goal.loop-k-init
loop-k-init c =
    (omega arith, repeat_none (field-is_field c.args.field) c.requires.growing c.requires.t)

pub times_spread-n-requires : goal.times_spread-n-requires
times_spread-n-requires c =
    repeat_growing (field-is_field c.args.field) c.requires.growing
    c.loop-k.invariant.0 c.loop-k.invariant.1
    (omega arith)

pub loop-k-preserved : goal.loop-k-preserved
loop-k-preserved c = (
  omega arith,
  repeat_more (field-is_field c.args.field) c.requires.growing c.loop-k.invariant.0
      c.loop-k.invariant.1
      c.times_spread-n.ensures,
)
