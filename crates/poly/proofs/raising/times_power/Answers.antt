-- `raising::times_power` meets its contract. The invariant is `Raised`.
-- Assumes nothing.
use mathlib.Core.Path.{◌∙◌}
use native.Mathlib.Nat.{div-lt_self}
use native.Mathlib.Omega.{arith}
use Rattle.arith.proofs.Represented.{characteristic_least, characteristic_most}
use Rattle.poly.proofs.raising.Raising.{raised-start, raised-next, raised-end, raised_growing}
use Rattle.poly.proofs.raising.Raising.{raised-elements, raised-length, raised_levelled}
use Rattle.poly.proofs.raising.Raising.{near}
use Rattle.poly.proofs.raising.times_power.Goals as goal

pub first-level-requires : goal.first-level-requires
first-level-requires c = (
  omega (arith, c.characteristic.ensures, characteristic_least c.args.field),
  omega (arith, c.characteristic.ensures, characteristic_most c.args.field),
)

pub loop-rest-init : goal.loop-rest-init
loop-rest-init c =
    raised-start c.args.field c.requires
    (c.first-level.ensures.0 ∙ c.characteristic.ensures)
    c.first-level.ensures.1

pub times_level-n-requires : goal.times_level-n-requires
times_level-n-requires c =
    record {
      levelled = raised_levelled c.args.field c.requires c.loop-rest.invariant (omega arith);
      growing = raised_growing c.args.field c.requires c.loop-rest.invariant (omega arith);
      t = raised-elements c.args.field c.requires c.loop-rest.invariant;
    }

pub next-level-requires : goal.next-level-requires
next-level-requires c = near c.args.field c.requires c.loop-rest.invariant c.loop-rest-test.true

pub loop-rest-smaller : goal.loop-rest-smaller
loop-rest-smaller c = div-lt_self c.loop-rest-test.true c.loop-rest.level.base_least

pub loop-rest-preserved : goal.loop-rest-preserved
loop-rest-preserved c =
    raised-next c.args.field c.requires c.loop-rest.invariant (omega arith)
    c.times_level-n.ensures
    c.next-level.ensures.0
    c.next-level.ensures.2

pub shape_of-answer : goal.shape_of-answer
shape_of-answer c =
    raised-length c.args.field c.requires c.loop-rest.invariant

pub returns : goal.returns
returns c =
    raised-end c.args.field c.requires c.loop-rest.invariant (omega arith)
