-- `multiples::pack_multiples` meets its contract. The invariant is `Packing`. Assumes nothing.
use mathlib.Core.List.{map}
use Rattle.meaning.specs.Polynomial.{monic_multiple}
use Rattle.meaning.specs.Slices.{lists_of}
use Rattle.arith.specs.Represented.{field_of}
use Rattle.poly.proofs.parts.Packing.{Packing}
use Rattle.poly.proofs.multiples.pack_multiples.Given as goal

abbrev pub invariant-loop-i : goal.invariant-loop-i
invariant-loop-i l = Packing (map (monic_multiple (field_of l.field)) (lists_of l.factors)) l.initial.to l.i
    l.at l.lengths l.to
