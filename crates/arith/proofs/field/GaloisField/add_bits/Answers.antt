-- `arith::GaloisField::add_bits` meets its contract. Assumes nothing.
use native.Mathlib.Omega.{arith}
use Rattle.arith.proofs.Represented.{size-least, size_most}
use Rattle.arith.proofs.field.GaloisField.add_bits.Goals as goal

pub overflow_sub-once : goal.overflow_sub-once
overflow_sub-once c = omega (arith, c.size.ensures, size-least c.args.self)

pub overflow_cast-once : goal.overflow_cast-once
overflow_cast-once c = omega (arith, c.size.ensures, size_most c.args.self)

pub invariant_of-once : goal.invariant_of-once
invariant_of-once c =
    record {
      in_characteristic_two = c.requires.characteristic;
      masks = omega (arith, c.size.ensures, size-least c.args.self);
    }
