-- The multiples of 1 meet the contract of `Multiples::plus_times`. Assumes nothing.
use Rattle.arith.proofs.field.ExclusiveOr.{sum-bits}
use Rattle.arith.proofs.multiples.BitMultiplesMultiples.plus_times.Goals as goal

pub returns : goal.returns
returns c =
    let m = c.args.self in sum-bits m.field m.in_characteristic_two m.mask m.masks c.args.a c.args.b
