-- `words::window` meets its contract. Assumes nothing.
use Rattle.massey.proofs.words.Moving.{window-bits}
use native.Mathlib.Omega.{arith}
use Rattle.massey.proofs.words.window.Goals as goal

pub returns : goal.returns
returns c = window-bits c.args.lower c.args.upper c.args.k (omega arith) (omega arith)
