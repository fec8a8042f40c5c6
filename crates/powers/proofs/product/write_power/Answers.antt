-- `product::write_power` meets its contract. Assumes nothing.
use Rattle.arith.proofs.Represented.{field-is_field}
use Rattle.meaning.specs.Slices.{lists_of}
use Rattle.powers.proofs.product.Products.{one_input, one_written}
use Rattle.powers.proofs.product.write_power.Goals as goal

pub write_product-requires-clause-product_input : goal.write_product-requires-clause-product_input
unfolding lists_of
write_product-requires-clause-product_input c = one_input c.requires.power_input

pub returns : goal.returns
unfolding lists_of
returns c =
    one_written (field-is_field c.args.field) c.requires.power_input c.write_product.ensures
