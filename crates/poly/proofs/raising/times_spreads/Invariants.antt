-- `raising::times_spreads` meets its contract. The invariant: the product with k of the factors.
-- Assumes nothing.
use Prim.Native.Nat.{◌≤◌}
use Rattle.meaning.specs.Polynomial.{power}
use Rattle.bridge.proofs.Lists.Spread.{spread}
use Rattle.arith.specs.Represented.{field_of}
use Rattle.poly.specs.products.Product.{Multiplied}
use Rattle.poly.proofs.raising.times_spreads.Given as goal

abbrev pub invariant-loop-k : goal.invariant-loop-k
invariant-loop-k l = (l._k ≤ l.count) × Multiplied (field_of l.field)
    (power (field_of l.field) (spread l.q l.f) l._k) l.initial.answer l.initial.n l.answer l.n
