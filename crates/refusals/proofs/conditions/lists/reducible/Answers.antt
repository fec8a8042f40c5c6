-- `lists::reducible` meets its contract. Assumes nothing.
use mathlib.Core.Path.{sym, ap, ◌∙◌}
use mathlib.Core.Bool.{not}
use Rattle.bridge.proofs.Lists.Irreducibles.{reducible_asked}
use Rattle.refusals.proofs.conditions.lists.reducible.Goals as goal

pub returns : goal.returns
returns c =
    ap not c.is_irreducible.ensures
    ∙ sym (reducible_asked _ _ c.requires.degree_in_range c.requires.monic_over)
