-- `reducing::is_reducing` meets its contract. Assumes nothing.
use Prim.Native.Nat.{◌/◌, ◌%◌}
use mathlib.Core.Path.{ap, ◌∙◌}
use Rattle.bridge.proofs.Binary.ReducingPolynomials.{is_reducing}
use native.Mathlib.Omega.{arith}
use Rattle.arith.proofs.reducing.Words.{reducing-bits}
use Rattle.arith.proofs.reducing.is_reducing.Goals as goal

pub returns : goal.returns
returns c =
    let m = c.args.m in
    (reducing-bits (m / 64) (omega arith)).bit (m % 64) (omega arith) ∙ ap is_reducing (omega arith)
