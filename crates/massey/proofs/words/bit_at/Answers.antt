-- `words::bit_at` meets its contract. Assumes nothing.
use mathlib.Core.Path.{refl}
use Rattle.bridge.proofs.Lists.Monics.{digit}
use Rattle.massey.proofs.words.bit_at.Goals as goal

pub returns : goal.returns
unfolding digit
returns c = refl
