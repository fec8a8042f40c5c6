-- `raise` meets its contract. The sum is made beside h, and copied into its place.
-- Assumes nothing.
use lib.ListN.{length}
use Rattle.lent.proofs.Parts.{zeros-length, zeros-lent}
use Rattle.irreducible.proofs.frobenius.raise.Goals as goal

pub add_rows-requires : goal.add_rows-requires
add_rows-requires c =
    let d = length c.args.h.now in
    let short = c.requires.table_len.1 in record {
      table_len = (c.requires.table_len.0, short, zeros-length d 32 short);
      sum_value = zeros-lent d 32 short;
    }
