-- `repeat_length` meets its contract. Assumes nothing.
use Prim.Native.Nat.{ℕ}
use mathlib.Core.Path.{◌≡◌, sym, subst}
use Rattle.lent.specs.declared.levels.Level.{Level}
use Rattle.powers.specs.levels.Levels.{Base, Reaching}
use Rattle.powers.proofs.levels.Climbing.{field-base}
use Rattle.repeat.proofs.Factors.{powers-enough, largest-small, level-positive}
use Rattle.repeat.proofs.Factors.{repeat_fits, repeat_is}
use native.Mathlib.Omega.{arith}
use Rattle.repeat.proofs.repeat_length.Goals as goal

reached : {p q r : ℕ} {l : Level} → p ≡ q → Reaching p r l → Reaching q r l
reached {r = r} {l} e = subst (λ p. Reaching p r l) e

pub largest_power-largest-requires : goal.largest_power-largest-requires
largest_power-largest-requires c =
    powers-enough c.args.set.factors.now c.args.set.powers.now c.requires

pub level_reaching-q-requires : goal.level_reaching-q-requires
level_reaching-q-requires c =
    let small = largest-small c.args.set.factors.now c.args.set.powers.now c.requires in
    let base = subst Base (sym c.characteristic.ensures) (field-base c.args.field) in
    (base, omega (arith, c.largest_power-largest.ensures))

pub nonzero_div-q : goal.nonzero_div-q
nonzero_div-q c =
    let x = reached c.characteristic.ensures c.level_reaching-q.ensures in
    level-positive c.args.field x.least x.is_level.power

pub overflow_mul-result : goal.overflow_mul-result
overflow_mul-result c =
    let x = reached c.characteristic.ensures c.level_reaching-q.ensures in
    let b = repeat_fits c.args.field x.least x.is_level.power _ _ c.orders_within.ensures in
    omega arith

pub returns : goal.returns
returns c =
    let x = reached c.characteristic.ensures c.level_reaching-q.ensures in
    repeat_is c.args.field x.least x.is_level.power _ c.orders_within.ensures
    c.largest_power-largest.ensures
