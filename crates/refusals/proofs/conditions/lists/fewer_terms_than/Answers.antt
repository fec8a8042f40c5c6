-- `lists::fewer_terms_than` meets its contract.
-- Assumes nothing.
use mathlib.Core.Path.{refl}
use Rattle.meaning.specs.Conditions.{fewer_terms_than}
use Rattle.refusals.proofs.conditions.lists.fewer_terms_than.Goals as goal

pub returns : goal.returns
unfolding fewer_terms_than
returns c = refl
