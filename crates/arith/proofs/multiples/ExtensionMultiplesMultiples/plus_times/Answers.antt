-- The multiples of an element meet the contract of `Multiples::plus_times`. Assumes nothing.
use mathlib.Core.Path.{ap₂, ◌∙◌}
use lib.Bits.{bit_xor}
use Rattle.arith.proofs.extension.Elements.{product_byte, add-element}
use Rattle.arith.proofs.multiples.ExtensionMultiplesMultiples.plus_times.Goals as goal

pub returns : goal.returns
returns c =
    let m = c.args.self in
    ap₂ bit_xor c.element.ensures c.times.ensures
    ∙ add-element m.field c.args.a _ (product_byte m.field m.m0 c.args.b)
