-- `clear` meets its contract: the part that is lent on has 8,192 bytes. Assumes nothing.
use native.Mathlib.Omega.{arith}
use Rattle.lent.proofs.Parts.{cleared-part}
use Rattle.lent.proofs.clear.Goals as goal

pub returns : goal.returns
returns c = cleared-part _ (omega arith) (c.fill.ensures.after (λ y e. e))
