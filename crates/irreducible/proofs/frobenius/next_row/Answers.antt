-- `next_row` meets its contract. The row is copied, and multiplied into its own place.
-- Assumes nothing.
use Rattle.irreducible.proofs.frobenius.Filling.{old-back}
use Rattle.poly.specs.residues.Residues.{Residue}
use Rattle.arith.specs.Represented.{field_of}
use Rattle.meaning.specs.Polynomial.{times}
use lib.ListN.{length, take, replicate}
use mathlib.Core.Path.{refl, ap, subst, ◌∙◌}
use Rattle.poly.proofs.multiples.MonicMultiples.{copied-front}
use Prim.Native.Nat.{◌-◌}
use Rattle.irreducible.proofs.frobenius.next_row.Goals as goal

pub returns : goal.returns
returns c =
    let F = field_of c.args.ring.now.field in
    let r = c.args.row.now in
    subst
    (λ u. Residue c.args.ring.now.field c.args.ring.now.f.now (times F c.args.y.now u)
    c.multiply.new.out)
    (ap (take (length r - 0)) (copied-front r (replicate 32 0) refl c.copy_from_slice.ensures.after)
    ∙ old-back c.args.ring.now.field c.args.y.now r c.args.ring.now.modulus c.requires.y_len_bound.1
    c.requires.t.1
    c.requires.t.0)
    c.multiply.ensures
