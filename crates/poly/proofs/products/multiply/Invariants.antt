-- `products::multiply` meets its contract. The invariant is `Multiplying`. Assumes nothing.
use Rattle.arith.specs.Represented.{field_of}
use Rattle.poly.proofs.products.Growing.{Multiplying}
use Rattle.poly.proofs.products.multiply.Given as goal

abbrev pub invariant-loop-b : goal.invariant-loop-b
invariant-loop-b l = Multiplying (field_of l.field) l.f l.q l.initial.answer l.n l.answer l.b l.k
