-- `product::write_product` meets its contract. The invariant: the product of the powers of the factors that
-- have come is written, and n is its degree. Assumes nothing.
use mathlib.Core.Path.{◌≡◌}
use lib.ListN.{length}
use Rattle.arith.specs.Represented.{field_of}
use Rattle.meaning.specs.Slices.{lists_of}
use Rattle.powers.proofs.product.Products.{Multiplying}
use Rattle.powers.proofs.product.write_product.Given as goal

abbrev pub invariant-loop-f : goal.invariant-loop-f
invariant-loop-f l = Multiplying (field_of l.field) (lists_of l.set.factors.now)
    l.set.powers.now l.initial.answer l.answer
    (length l.yielded) l.n
    × (length l.answer ≡ length l.initial.answer)
