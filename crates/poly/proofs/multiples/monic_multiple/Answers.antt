-- `multiples::monic_multiple` meets its contract: the copy is the multiple where f is monic, and else it is
-- multiplied. Assumes nothing.
use mathlib.Core.Path.{refl}
use native.Mathlib.Omega.{arith}
use Rattle.arith.proofs.Represented.{field-is_field}
use Rattle.poly.proofs.multiples.MonicMultiples.{copied-front, factor-nonempty, left_as_copied}
use Rattle.poly.proofs.multiples.MonicMultiples.{left-multiplied}
use Rattle.poly.proofs.multiples.monic_multiple.Goals as goal

pub overflow_sub-c : goal.overflow_sub-c
overflow_sub-c c =
    omega (arith, factor-nonempty (field-is_field c.args.field) c.requires.leads)

pub bounds-f-n : goal.bounds-f-n
bounds-f-n c =
    omega (arith, factor-nonempty (field-is_field c.args.field) c.requires.leads)

pub returns-then-c-ne1 : goal.returns-then-c-ne1
returns-then-c-ne1 c =
    left-multiplied (field-is_field c.args.field) c.requires.leads c.args.to.now
    (copied-front c.args.f.now c.args.to.now refl c.overwrite.ensures)
    c.inverse-inverse.ensures c.multiply.ensures

pub returns-else-c-ne1 : goal.returns-else-c-ne1
returns-else-c-ne1 c =
    left_as_copied (field-is_field c.args.field) c.requires.leads c.args.to.now
    (copied-front c.args.f.now c.args.to.now refl c.overwrite.ensures)
    (omega (arith, c.if-c-ne1.false))
