-- `division::divide_by` meets its contract. The invariant is `Dividing`. Assumes nothing.
use native.Mathlib.Omega.{arith}
use Prim.Native.Nat.{◌-◌}
use mathlib.Core.Path.{ap, ◌∙◌}
use lib.ListN.{length, get_or}
use Rattle.meaning.specs.Field.{negative}
use Rattle.meaning.specs.Polynomial.{degree}
use Rattle.bridge.proofs.Basics.Interpretation.{number-mul_comm, number-mul-negative}
use Rattle.bridge.proofs.Lists.Polynomials.{leading-nonempty, get_or-below}
use Rattle.arith.specs.Represented.{field_of}
use Rattle.arith.specs.Inverse.{inverse}
use Rattle.arith.proofs.Represented.{field-is_field}
use Rattle.poly.proofs.division.Dividing.{dividing_start, dividing_next, dividing_end}
use Rattle.poly.proofs.division.Dividing.{reduced_put_at, inverse-digit}
use Rattle.poly.proofs.division.divide_by.Goals as goal

pub overflow_sub-e : goal.overflow_sub-e
overflow_sub-e c =
    omega (arith, leading-nonempty c.args.g.now c.requires.divisible.nonzero)

pub loop-i-init : goal.loop-i-init
loop-i-init c =
    dividing_start (field-is_field c.args.field) c.requires.divisible

pub loop-i-preserved : goal.loop-i-preserved
unfolding degree
loop-i-preserved c =
    let a = c.args in
    let F = field_of a.field in
    let I = field-is_field c.args.field in
    let i = c.loop-i.i - 1 in
    let b = get_or c.loop-i.f i 0 in
    let d = inverse F (get_or a.g.now (length a.g.now - 1) 0) in
    dividing_next I c.requires.divisible c.loop-i.invariant (omega arith)
    (inverse-digit I c.requires.divisible b (get_or-below I c.loop-i.f c.loop-i.invariant.elements i))
    (reduced_put_at F a.g.now (leading-nonempty a.g.now c.requires.divisible.nonzero) c.loop-i.f i
    (omega arith)
    (omega (arith, c.loop-i.invariant.within, c.loop-i.invariant.size))
    c.min-n.result
    (c.min-n.ensures ∙ omega arith)
    (F.mul d b)
    (c.product-q.ensures
    ∙ ap (λ u. F.mul u b) c.requires.c_value
    ∙ number-mul_comm I (negative F d) b
    ∙ number-mul-negative I b d
    ∙ ap (negative F) (number-mul_comm I b d))
    c.add_multiple.ensures)

pub returns : goal.returns
unfolding degree
returns c =
    dividing_end (field-is_field c.args.field) c.requires.divisible c.loop-i.invariant (omega arith)
