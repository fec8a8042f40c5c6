-- `products::times_spread` meets its contract: zeros are written after the polynomial, and then it is
-- multiplied. Assumes nothing.
use Rattle.arith.proofs.Represented.{field-is_field}
use Rattle.poly.proofs.products.Zeros.{padded_grown}
use Rattle.poly.proofs.products.times_spread.Goals as goal

pub returns : goal.returns
returns c =
    padded_grown c.requires (c.fill.ensures.after (λ y e. e)) (field-is_field c.args.field) c.multiply.ensures
