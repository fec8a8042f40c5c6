-- `lent::levels::Level::next` meets its contract: an exponent is below its power. Assumes nothing.
use native.Mathlib.Omega.{arith}
use Rattle.bridge.proofs.Basics.Levels.{below_power}
use Rattle.lent.proofs.levels.Level.next.Goals as goal

pub overflow_add-result : goal.overflow_add-result
overflow_add-result c =
    let l = c.args.self in
    omega (arith, below_power l.base l.exponent l.base_least, l.is_power)
