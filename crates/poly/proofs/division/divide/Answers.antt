-- `division::divide` meets its contract. Assumes nothing.
use native.Mathlib.Omega.{arith}
use mathlib.Core.Path.{ap, ◌∙◌}
use Rattle.meaning.specs.Field.{negative}
use Rattle.meaning.specs.Polynomial.{degree}
use Rattle.bridge.proofs.Lists.Polynomials.{leading-nonempty}
use Rattle.arith.specs.Represented.{field_of}
use Rattle.poly.proofs.division.divide.Goals as goal

pub overflow_sub-e : goal.overflow_sub-e
overflow_sub-e c =
    omega (arith, leading-nonempty c.args.g.now c.requires.nonzero)

pub bounds-g-e : goal.bounds-g-e
bounds-g-e c =
    omega (arith, leading-nonempty c.args.g.now c.requires.nonzero)

pub divide_by-requires : goal.divide_by-requires
unfolding degree
divide_by-requires c =
    let F = field_of c.args.field in
    record {
      divisible = c.requires;
      c_value = c.negative.ensures ∙ ap (negative F) c.inverse.ensures;
    }
