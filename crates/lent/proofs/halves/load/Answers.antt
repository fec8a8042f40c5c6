-- `halves::halves::load` meets its contract: the terms come back in the place of the part that was lent.
-- Assumes nothing.
use Prim.Native.Nat.{◌*◌, ◌-◌}
use mathlib.Core.Path.{refl, ap, ◌∙◌}
use native.Mathlib.Omega.{arith}
use lib.ListN.{length}
use lib.Seq.{paste}
use Rattle.lent.proofs.Parts.{put_paste}
use Rattle.lent.proofs.halves.Places.{placed}
use Rattle.lent.proofs.halves.load.Goals as goal

pub returns : goal.returns
returns c =
    let w = c.args.work.now in
    let t = c.args.terms.now in
    let x = 4096 * c.args.h in
    let n = length t in
    let e = c.overwrite.ensures in
    placed w c.args.h (1 - c.args.h) (omega arith) (omega arith) refl t (omega arith)
    (put_paste w x n _ (ap length e) ∙ ap (λ y. paste w x y n) e)
