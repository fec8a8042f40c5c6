-- The multiples of an element meet the contract of `Multiples::times`. Assumes nothing.
use mathlib.Core.Path.{ap, ◌∙◌}
use Rattle.bridge.proofs.Binary.BinaryNumbers.{picks}
use Rattle.arith.specs.multiples.Multiples.{list_of}
use Rattle.arith.proofs.extension.Elements.{picks-eight}
use Rattle.arith.proofs.multiples.ExtensionMultiplesMultiples.times.Goals as goal

pub returns : goal.returns
unfolding list_of
returns c =
    let m = c.args.self in
    c.pick_all.ensures
    ∙ ap (picks (list_of m)) c.element.ensures
    ∙ picks-eight m.field m.is_element m.are_multiples c.args.b
