-- `multiples::ExtensionMultiples::pick_all` meets its contract. Assumes nothing.
use mathlib.Core.Path.{sym, ap₂, ◌∙◌}
use lib.Bits.{bit_xor, xor_zero_r}
use Rattle.bridge.proofs.Binary.BinaryNumbers.{picks}
use Rattle.arith.specs.multiples.Multiples.{list_of}
use Rattle.arith.proofs.multiples.ExtensionMultiples.pick_all.Goals as goal

pub returns : goal.returns
unfolding picks list_of
returns c =
    ap₂ bit_xor c.pick-5.ensures
    (ap₂ bit_xor c.pick-6.ensures
    (ap₂ bit_xor c.pick-7.ensures
    (ap₂ bit_xor c.pick-8.ensures
    (ap₂ bit_xor c.pick.ensures
    (ap₂ bit_xor c.pick-2.ensures
    (ap₂ bit_xor c.pick-3.ensures
    (c.pick-4.ensures ∙ sym (xor_zero_r _))))))))
