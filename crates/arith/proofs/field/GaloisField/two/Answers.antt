-- `arith::GaloisField::two` meets its contract. Assumes nothing.
use Rattle.bridge.proofs.Binary.Bits.{two-prime}
use Rattle.arith.proofs.Sorts.{prime-made}
use Rattle.arith.proofs.field.GaloisField.two.Goals as goal

pub new-requires : goal.new-requires
new-requires c = two-prime

pub returns : goal.returns
returns c = prime-made 2 _ two-prime c.new.ensures
