-- `total_degree` meets its contract. The invariant: sum, at most 4,096, and the total degree from i on are
-- the whole.
-- Assumes nothing.
use Rattle.poly.proofs.factors.Totals.{total_over, total-beyond, total-next}
use Rattle.poly.proofs.factors.total_degree.Goals as goal

pub returns-then-sum-gt4096 : goal.returns-then-sum-gt4096
returns-then-sum-gt4096 c =
    total-beyond _ _ _ _
    c.loop-i.invariant.1
    c.loop-i-test.true
    c.capped_product-sum.ensures
    c.upper_at.ensures
    c.degree.ensures
    c.if-sum-gt4096.true

pub loop-i-preserved : goal.loop-i-preserved
loop-i-preserved c = (
  c.if-sum-gt4096.false,
  total-next _ _ _ _
      c.loop-i.invariant.1
      c.loop-i-test.true
      c.capped_product-sum.ensures
      c.upper_at.ensures
      c.degree.ensures
      c.if-sum-gt4096.false,
)

pub returns : goal.returns
returns c = total_over _ _ _ _ c.loop-i.invariant.1 c.loop-i-test.false c.loop-i.invariant.0
