-- `multiples::first_multiple` meets its contract. The invariant is `Trying`. Assumes nothing.
use native.Mathlib.Omega.{arith}
use Rattle.repeat.proofs.multiples.Trying.{trying_start, trying_next, trying_found}
use Rattle.repeat.proofs.multiples.Trying.{trying_missing}
use Rattle.repeat.proofs.multiples.first_multiple.Goals as goal

pub loop-k-init : goal.loop-k-init
loop-k-init c = (omega arith, trying_start c.args.n c.requires.0)

pub returns-then-k-n-eq0 : goal.returns-then-k-n-eq0
returns-then-k-n-eq0 c =
    trying_found c.args.limit c.loop-k.invariant.1 (omega arith) c.if-k-n-eq0.true

pub loop-k-preserved : goal.loop-k-preserved
loop-k-preserved c =
    (omega arith, trying_next c.requires.0 c.loop-k.invariant.1 c.if-k-n-eq0.false)

pub returns : goal.returns
returns c = trying_missing c.args.limit c.loop-k.invariant.1 (omega arith)

pub returns-else-k-n-eq0 : goal.returns-else-k-n-eq0
returns-else-k-n-eq0 c =
    trying_missing c.args.limit (trying_next c.requires.0 c.loop-k.invariant.1 c.if-k-n-eq0.false)
    (omega arith)
