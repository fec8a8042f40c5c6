-- `parts::nine_parts` meets its contract. The invariant is `Parted`.
-- Assumes nothing.
use mathlib.Core.Path.{sym}
use native.Mathlib.Omega.{arith}
use Rattle.poly.proofs.parts.Splitting.{parted_start, parted_next, parted}
use Rattle.poly.proofs.parts.nine_parts.Goals as goal

pub loop-i-init : goal.loop-i-init
loop-i-init c = parted_start _ _ _ (sym c.told-lengths)

pub loop-i-preserved : goal.loop-i-preserved
loop-i-preserved c =
    parted_next c.loop-i.invariant c.split_at.result.0 (omega arith) c.min-length.ensures
    c.split_at.ensures.front
    c.split_at.ensures.back

pub returns : goal.returns
returns c = parted c.loop-i.invariant (omega arith)
