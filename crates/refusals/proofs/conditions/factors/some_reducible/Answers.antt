-- `some_reducible` meets its contract. The invariant: the factors from f on decide.
-- Assumes nothing.
use native.Mathlib.Omega.{arith}
use mathlib.Core.Path.{sym, ◌∙◌, subst}
use Rattle.meaning.proofs.Slices.{lists_length, lists_at}
use Rattle.irreducible.specs.Accepted.{Accepted}
use Rattle.arith.specs.Represented.{field_of}
use Rattle.refusals.proofs.conditions.factors.Scan.{some-scan, factor-found, factor-next, factors_over}
use Rattle.refusals.proofs.conditions.factors.some_reducible.Goals as goal

pub reducible-requires : goal.reducible-requires
reducible-requires c =
    let fs = c.args.factors.now in
    subst (Accepted (field_of c.args.field)) (lists_at fs c.loop-f.f-index)
    (c.requires c.loop-f.f-index (omega (arith, lists_length fs)))

pub returns-then-reducible : goal.returns-then-reducible
returns-then-reducible c =
    factor-found (some-scan _) _ _
    c.loop-f.invariant
    c.loop-f-test.true
    (sym c.reducible.ensures ∙ c.if-reducible.true)

pub loop-f-preserved : goal.loop-f-preserved
loop-f-preserved c =
    factor-next (some-scan _) _ _
    c.loop-f.invariant
    c.loop-f-test.true
    (sym c.reducible.ensures ∙ c.if-reducible.false)

pub returns : goal.returns
returns c = factors_over (some-scan _) _ _ c.loop-f.invariant c.loop-f-test.false
