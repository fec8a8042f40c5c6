-- `binary::Words::after_all` meets its contract. The invariant: what is known holds after the terms seen. The
-- measure is the number of terms that are left. Assumes nothing.
use mathlib.Core.Path.{refl}
use lib.ListN.{replicate}
use Rattle.bridge.proofs.Lists.Coefficients.{get_or-zeros}
use Rattle.massey.proofs.binary.Standing.{hold_start}
use native.Mathlib.Omega.{arith}
use Rattle.massey.proofs.binary.Words.after_all.Goals as goal

pub pack-requires : goal.pack-requires
pack-requires c = (c.requires, refl, get_or-zeros 66)

pub loop-words-init : goal.loop-words-init
loop-words-init c = (
  omega arith,
  omega (arith, c.requires),
  hold_start c.args.terms.now c.pack.new.f (replicate 66 0) c.pack.ensures refl (get_or-zeros 66) _,
)
