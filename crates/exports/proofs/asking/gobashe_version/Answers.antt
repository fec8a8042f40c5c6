-- `gobashe_version` meets its contract.
-- Assumes nothing.
use mathlib.Core.Path.{refl}
use Rattle.meaning.specs.Exports.{version}
use Rattle.exports.proofs.asking.gobashe_version.Goals as goal

pub returns : goal.returns
unfolding version
returns c = refl
