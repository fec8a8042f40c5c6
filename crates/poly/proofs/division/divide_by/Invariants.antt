-- `division::divide_by` meets its contract. The invariant is `Dividing`. Assumes nothing.
use lib.ListN.{get_or}
use Rattle.meaning.specs.Polynomial.{degree}
use Rattle.arith.specs.Represented.{field_of}
use Rattle.arith.specs.Inverse.{inverse}
use Rattle.poly.proofs.division.Dividing.{Dividing}
use Rattle.poly.proofs.division.divide_by.Given as goal

abbrev pub invariant-loop-i : goal.invariant-loop-i
invariant-loop-i l = Dividing (field_of l.field) (inverse (field_of l.field) (get_or l.g (degree l.g) 0))
    l.g l.initial.f l.f l.i
