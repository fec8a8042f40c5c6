-- `reducing::names_binary_field` meets its contract. Assumes nothing.
use Prim.Native.Nat.{ℕ, ◌+◌}
use mathlib.Core.Path.{sym, ap, ◌∙◌}
use mathlib.Core.Bool.{not}
use native.Mathlib.Omega.{arith}
use Rattle.bridge.proofs.Binary.ReducingPolynomials.{is_reducing, binary-low-degree, binary-high-degree}
use Rattle.bridge.proofs.Binary.ReducingPolynomials.{binary-large-low, binary-named}
use Rattle.arith.proofs.reducing.names_binary_field.Goals as goal

pub returns-then-degree-lt-LEAST_DEGREE : goal.returns-then-degree-lt-LEAST_DEGREE
returns-then-degree-lt-LEAST_DEGREE c =
    let a = c.args in
    sym (ap not (binary-low-degree a.degree a.low (omega arith)))

pub returns-then-degree-gt-LARGEST_DEGREE : goal.returns-then-degree-gt-LARGEST_DEGREE
returns-then-degree-gt-LARGEST_DEGREE c =
    let a = c.args in
    sym (ap not (binary-high-degree a.degree a.low (omega arith)))

pub returns-then-size-low : goal.returns-then-size-low
returns-then-size-low c =
    let a = c.args in
    let e = c.power_of_two-size.ensures.0 in
    sym (ap not (binary-large-low a.degree a.low (omega arith)))

pub returns : goal.returns
returns c =
    let a = c.args in
    let e = c.power_of_two-size.ensures.0 in
    c.is_reducing.ensures
    ∙ ap (λ (k : ℕ). is_reducing (k + a.low)) e
    ∙ sym (binary-named a.degree a.low (omega arith) (omega arith) (omega arith))
