-- `two_equal` meets its contract. The invariant: the factors from i on decide.
-- Assumes nothing.
use mathlib.Core.Path.{sym, ◌∙◌}
use Prim.Native.Nat.{◌+◌}
use Rattle.refusals.proofs.conditions.factors.Scan.{
  equal-scan,
  factor-found,
  factor-next,
  factors_over,
  rest_of,
}
use Rattle.refusals.proofs.conditions.factors.two_equal.Goals as goal

pub returns-then-occurs : goal.returns-then-occurs
returns-then-occurs c =
    factor-found equal-scan _ _
    c.loop-i.invariant
    c.loop-i-test.true
    (sym (c.occurs.ensures ∙ rest_of _ c.args.factors.now (c.loop-i.i + 1)) ∙ c.if-occurs.true)

pub loop-i-preserved : goal.loop-i-preserved
loop-i-preserved c =
    factor-next equal-scan _ _
    c.loop-i.invariant
    c.loop-i-test.true
    (sym (c.occurs.ensures ∙ rest_of _ c.args.factors.now (c.loop-i.i + 1)) ∙ c.if-occurs.false)

pub returns : goal.returns
returns c = factors_over equal-scan _ _ c.loop-i.invariant c.loop-i-test.false
