-- The multiples of 1 meet the contract of `Multiples::times`. Assumes nothing.
use Rattle.arith.proofs.field.ExclusiveOr.{product-bits}
use Rattle.arith.proofs.multiples.BitMultiplesMultiples.times.Goals as goal

pub returns : goal.returns
returns c =
    let m = c.args.self in product-bits m.field m.in_characteristic_two m.mask m.masks c.args.b
