-- `products::multiply` meets its contract. The invariant is `Multiplying`. Assumes nothing.
use native.Mathlib.Omega.{arith}
use Rattle.arith.proofs.Represented.{field-is_field}
use Rattle.poly.proofs.products.Growing.{multiplying_next}
use Rattle.poly.proofs.products.Growing.{multiplying_end}
use Rattle.poly.proofs.products.multiply.Goals as goal

pub loop-b-preserved : goal.loop-b-preserved
loop-b-preserved c =
    multiplying_next (field-is_field c.args.field) c.requires c.loop-b.invariant
    (omega arith)
    c.min-back.ensures
    c.min-count.ensures
    c.convolve.ensures

pub returns : goal.returns
returns c =
    multiplying_end (field-is_field c.args.field) c.requires c.loop-b.invariant (omega arith)
