-- `payload::lay` meets its contract: what fits of the stores is a part of the bytes.
-- Assumes nothing.
use Prim.Native.Nat.{◌+◌, ◌-◌}
use mathlib.Core.Path.{◌≡◌, sym}
use native.Mathlib.Omega.{arith}
use Rattle.route.proofs.payload.Stores.{sets_part, sets_out}
use Rattle.route.proofs.payload.lay.Goals as goal

pub returns-then-at-to : goal.returns-then-at-to
returns-then-at-to c =
    let k : c.args.at + c.min-count.result - c.args.at ≡ c.min-count.result = omega arith in
    rw (k, c.copy_from_slice.ensures.after)
    (sets_part c.args.to.now c.args.from.now c.args.at c.min-count.result (omega arith) c.min-count.ensures)

pub returns-else-at-to : goal.returns-else-at-to
returns-else-at-to c = sym (sets_out c.args.from.now c.args.to.now c.args.at c.if-at-to.false)
