-- `some_upper_zero` meets its contract. The invariant: the factors from i on decide.
-- Assumes nothing.
use mathlib.Core.Path.{sym, ◌∙◌}
use Rattle.refusals.proofs.conditions.factors.Uppers.{zero-found, zero-next, zeros_over}
use Rattle.refusals.proofs.conditions.factors.some_upper_zero.Goals as goal

pub returns-then-upper_at-eq0 : goal.returns-then-upper_at-eq0
returns-then-upper_at-eq0 c =
    zero-found _ _ _
    c.loop-i.invariant
    c.loop-i-test.true
    (sym c.upper_at.ensures ∙ c.if-upper_at-eq0.true)

pub loop-i-preserved : goal.loop-i-preserved
loop-i-preserved c =
    zero-next _ _ _
    c.loop-i.invariant
    c.loop-i-test.true
    (λ z. c.if-upper_at-eq0.false (c.upper_at.ensures ∙ z))

pub returns : goal.returns
returns c = zeros_over _ _ _ c.loop-i.invariant c.loop-i-test.false
