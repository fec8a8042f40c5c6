-- `orders_within` meets its contract. The invariant: the common multiple of the orders of the factors before
-- i. Assumes nothing.
use Prim.Native.Nat.{◌+◌}
use mathlib.Core.Path.{◌∙◌}
use lib.ListN.{get_or, take}
use Rattle.meaning.specs.Conditions.{named}
use Rattle.meaning.specs.Slices.{lists_of}
use Rattle.meaning.proofs.Slices.{nowhere}
use Rattle.arith.specs.Represented.{field_of}
use Rattle.arith.proofs.Represented.{field-is_field}
use Rattle.repeat.proofs.Factors.{common_start, common_skip, common_more, common_stop, common_end}
use Rattle.repeat.proofs.Factors.{orders-small, orders-zero, order_small, factor-suited}
use Rattle.repeat.proofs.Factors.{powers-enough}
use native.Mathlib.Omega.{arith}
use Rattle.repeat.proofs.orders_within.Goals as goal
use Rattle.repeat.proofs.orders_within.Goals.{then-powers-i-ne0+else-common-eq0, else-powers-i-ne0}

pub returns-then-limit-eq0 : goal.returns-then-limit-eq0
returns-then-limit-eq0 c = orders-zero _ _ c.if-limit-eq0.true

pub loop-i-init : goal.loop-i-init
loop-i-init c =
    let fs = c.args.set.factors.now in
    let rs = c.args.set.powers.now in
    let I = field-is_field c.args.field in
    (omega arith, common_start fs rs c.requires.powered_factors I c.args.limit (omega arith))

pub bounds-powers-i : goal.bounds-powers-i
bounds-powers-i c =
    omega (arith, powers-enough c.args.set.factors.now c.args.set.powers.now c.requires.powered_factors)

pub order_within-requires : goal.order_within-requires
order_within-requires c =
    let fs = c.args.set.factors.now in
    let rs = c.args.set.powers.now in
    factor-suited fs rs c.requires.powered_factors _ (omega arith)

pub common_within-common-requires : goal.common_within-common-requires
common_within-common-requires c =
    let F = field_of c.args.field in
    let fs = c.args.set.factors.now in
    let first = take c.loop-i.i (named (lists_of fs) c.args.set.powers.now) in
    let common = orders-small F first c.args.limit in
    let order = order_small F (get_or fs c.loop-i.i nowhere).now c.args.limit in (
      omega (arith, c.loop-i.invariant.1, c.requires.limit_bound),
      omega (arith, c.order_within.ensures, c.requires.limit_bound),
      c.requires.limit_bound,
    )

pub returns-then-common-eq0 : goal.returns-then-common-eq0
returns-then-common-eq0 c =
    let fs = c.args.set.factors.now in
    let rs = c.args.set.powers.now in
    let I = field-is_field c.args.field in
    common_stop fs rs c.requires.powered_factors I c.args.limit (c.loop-i.i + 1)
    (common_more fs rs c.requires.powered_factors I c.args.limit c.loop-i.i (omega arith) c.loop-i.invariant.1
    c.if-powers-i-ne0.true c.order_within.ensures c.common_within-common.ensures)
    c.if-common-eq0.true

pub loop-i-preserved : goal.loop-i-preserved
loop-i-preserved c =
    let fs = c.args.set.factors.now in
    let rs = c.args.set.powers.now in
    let I = field-is_field c.args.field in (
      omega arith,
      elim c.if-powers-i-ne0.branch [
        | then-powers-i-ne0+else-common-eq0 w ↦
            w.common-is
            ∙ common_more fs rs c.requires.powered_factors I c.args.limit c.loop-i.i (omega arith)
            c.loop-i.invariant.1 w.if-powers-i-ne0.true w.order_within.ensures
            w.common_within-common.ensures
        | else-powers-i-ne0 w ↦
            w.common-is
            ∙ common_skip fs rs c.requires.powered_factors I c.args.limit c.loop-i.i (omega arith)
            c.loop-i.invariant.1 w.if-powers-i-ne0.false
      ],
    )

pub returns : goal.returns
returns c =
    common_end c.args.set.factors.now c.args.set.powers.now c.requires.powered_factors
    (field-is_field c.args.field)
    c.args.limit c.loop-i.i c.loop-i.invariant.1 (omega arith)
