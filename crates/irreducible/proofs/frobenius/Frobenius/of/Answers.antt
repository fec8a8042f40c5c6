-- `of` meets its contract. x^q without the zeros at its end, and the rows of it.
-- Assumes nothing.
use Prim.Native.Nat.{◌-◌}
use mathlib.Core.Path.{refl}
use lib.ListN.{drop, replicate}
use Rattle.irreducible.proofs.frobenius.Filling.{short-elements, short-length, power_trimmed}
use Rattle.irreducible.proofs.frobenius.Keeping.{rows-powers}
use Rattle.irreducible.proofs.frobenius.Frobenius.of.Goals as goal

pub fill_rows-requires : goal.fill_rows-requires
fill_rows-requires c =
    let zeros = drop {A = _} (c.degree-d.result - 0) (replicate 32 0) in
    record {
      t = (
        short-elements c.args.ring.modulus zeros c.degree-d.ensures c.power_of_x.ensures c.size.ensures
            c.trimmed_length-n.ensures,
        short-length c.args.ring.modulus zeros c.degree-d.ensures c.power_of_x.ensures c.size.ensures
            c.trimmed_length-n.ensures,
      );
      table_len = refl;
    }

pub invariant_of-result : goal.invariant_of-result
invariant_of-result c =
    record {
      powers = rows-powers c.args.ring.field c.args.ring.modulus
          (c.fill_rows.ensures.rows
          (power_trimmed c.args.ring.modulus (drop (c.degree-d.result - 0) (replicate 32 0))
          c.degree-d.ensures
          c.power_of_x.ensures
          c.size.ensures
          c.trimmed_length-n.ensures));
    }
