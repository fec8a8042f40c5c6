-- `arith::ExtensionField::square` meets its contract. The invariant: the first i numbers are squared.
-- Assumes nothing.
use mathlib.Core.Path.{refl, sym, ap, ◌∙◌}
use lib.ListN.{length-map}
use Rattle.bridge.proofs.Lists.Spread.{raise}
use Rattle.bridge.proofs.Lists.Monics.{get_or_mapped}
use Rattle.arith.specs.extension.Extension.{extension_of}
use Rattle.arith.proofs.Writing.{front-more, front_read}
use Rattle.arith.proofs.extension.Elements.{square-raise}
use native.Mathlib.Omega.{arith}
use Rattle.arith.proofs.extension.ExtensionField.square.Goals as goal

pub loop-x-preserved : goal.loop-x-preserved
loop-x-preserved c =
    let a = c.args.a.now in
    let h = raise (extension_of c.args.self) 2 in (
      omega arith,
      refl,
      front-more c.loop-x.invariant.2 (omega arith) (omega (arith, length-map a h))
          (c.product.ensures
          ∙ square-raise c.args.self _
          ∙ ap h (front_read c.loop-x.invariant.2)
          ∙ sym (get_or_mapped h a c.loop-x.x-index 0 0 (omega arith))),
    )
