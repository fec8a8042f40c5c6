-- `power_action::act_power` meets its contract. The invariant: f^(rest·q) on the terms at `at` is f^u on the
-- n terms, and q is a power of the characteristic. The measure is the rest. Assumes nothing.
use mathlib.Core.Path.{refl}
use native.Mathlib.Nat as ℕ
use native.Mathlib.Omega.{arith}
use Rattle.meaning.specs.Polynomial.{degree}
use Rattle.arith.proofs.Represented.{characteristic_least, characteristic_most}
use Rattle.action.proofs.power_action.Raising.{raising_level, raising_stride}
use Rattle.action.proofs.power_action.Raising.{raising_enough, raising_act, raising_end}
use Rattle.action.proofs.power_action.act_power.Goals as goal

pub first-level-requires : goal.first-level-requires
first-level-requires c = (
  omega (arith, c.characteristic.ensures, characteristic_least c.args.field),
  omega (arith, c.characteristic.ensures, characteristic_most c.args.field),
)

pub next-level-requires : goal.next-level-requires
next-level-requires c =
    omega (
      arith,
      raising_stride c.args.field c.args.f.now c.args.u c.loop-rest.invariant c.loop-rest-test.true,
      c.requires.actable.few,
    )

pub loop-rest-smaller-then-rest-level-eq0 : goal.loop-rest-smaller-then-rest-level-eq0
loop-rest-smaller-then-rest-level-eq0 c = ℕ.div-lt_self c.loop-rest-test.true c.loop-rest.level.base_least

pub loop-rest-preserved-then-rest-level-eq0 : goal.loop-rest-preserved-then-rest-level-eq0
loop-rest-preserved-then-rest-level-eq0 c =
    raising_level c.args.field c.args.f.now c.args.u c.loop-rest.invariant c.if-rest-level-eq0.true
    c.next-level.ensures.0
    c.next-level.ensures.2

pub act_at_level-requires-clause-levelled : goal.act_at_level-requires-clause-levelled
act_at_level-requires-clause-levelled c =
    let q =
    raising_stride c.args.field c.args.f.now c.args.u c.loop-rest.invariant
    c.loop-rest-test.true in
    record {
      elements = c.requires.actable.elements;
      nonempty = c.requires.actable.nonempty;
      short = c.requires.actable.short;
      base = c.loop-rest.invariant.base;
      near = omega (arith, c.requires.actable.few);
    }

pub overflow_mul-at : goal.overflow_mul-at
unfolding degree
overflow_mul-at c =
    omega (
      arith,
      raising_enough c.args.field c.args.f.now c.args.u c.loop-rest.invariant c.loop-rest-test.true,
      c.loop-rest.invariant.halves.few,
    )

pub overflow_sub-at-else-rest-level-eq0-2 : goal.overflow_sub-at-else-rest-level-eq0-2
unfolding degree
overflow_sub-at-else-rest-level-eq0-2 c =
    raising_enough c.args.field c.args.f.now c.args.u c.loop-rest.invariant c.loop-rest-test.true

pub loop-rest-preserved : goal.loop-rest-preserved
unfolding degree
loop-rest-preserved c =
    raising_act c.args.field c.args.f.now c.args.u c.loop-rest.invariant c.loop-rest-test.true
    c.requires.actable.nonempty
    c.act_at_level.ensures

pub returns : goal.returns
returns c =
    raising_end c.args.field c.args.f.now c.args.u c.loop-rest.invariant c.requires.actable.nonempty
    (omega arith) refl refl
