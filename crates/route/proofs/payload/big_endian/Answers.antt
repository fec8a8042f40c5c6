-- `payload::big_endian` meets its contract. n is below 256^i, so it does not wrap.
-- Assumes nothing.
use Prim.Native.Nat.{◌<◌}
use mathlib.Core.Path.{sym, ◌∙◌}
use native.Mathlib.Omega.{arith}
use borrow.Author.Rules.{rules}
use Rattle.bridge.proofs.Basics.Bytes.{number-below}
use Rattle.route.proofs.payload.Numbers.{number-start, number_more, number-end}
use Rattle.route.proofs.payload.big_endian.Goals as goal

pub loop-byte-init : goal.loop-byte-init
loop-byte-init c = (search rules, number-start c.args.bytes.now)

pub loop-byte-preserved : goal.loop-byte-preserved
loop-byte-preserved c =
    let i = c.loop-byte.byte-index in
    let byte : c.from.result < 256 = omega (arith, c.type_inv.bytes i, c.from.ensures) in (
      number-below c.loop-byte.n _ i c.loop-byte.invariant.0 byte,
      rw c.from.ensures (sym (number_more c.args.bytes.now c.loop-byte.n i c.loop-byte-test.true)
          ∙ c.loop-byte.invariant.1),
    )

pub returns : goal.returns
returns c =
    sym (number-end c.args.bytes.now c.loop-byte.n c.loop-byte.byte-index c.loop-byte-test.false)
    ∙ c.loop-byte.invariant.1
