-- `unpack` meets its contract. The invariant: the coefficients so far, and those of the rest after them, are
-- those of n. Assumes nothing.
use mathlib.Core.Logic.{inl, inr}
use mathlib.Core.Path.{◌≡◌}
use native.Mathlib.Omega.{arith}
use borrow.Author.Rules.{rules}
use lib.Seq.{set-get_or}
use Rattle.find_entry.proofs.Unpacking.{unpacking_none, unpacking_more, unpacking_done}
use Rattle.find_entry.proofs.unpack.Goals as goal

pub loop-i-init : goal.loop-i-init
loop-i-init c = unpacking_none _ c.told-coefficients

pub returns-then-rest-eq0 : goal.returns-then-rest-eq0
returns-then-rest-eq0 c =
    rw set-get_or (unpacking_done c.loop-i.invariant (inl (search rules)))

pub loop-i-preserved : goal.loop-i-preserved
loop-i-preserved c = unpacking_more c.loop-i.invariant (omega arith) (λ z. omega arith)

pub returns : goal.returns
returns c =
    let e : c.loop-i.i ≡ 11 = omega arith in rw (← e) (unpacking_done c.loop-i.invariant (inr (omega arith)))
