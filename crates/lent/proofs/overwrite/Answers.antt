-- `overwrite` meets its contract. Assumes nothing.
use Prim.Native.Nat.{ℕ}
use mathlib.Core.Path.{◌≡◌, refl, ap, ◌∙◌}
use mathlib.Core.List.{List, ◌++◌}
use native.Mathlib.Nat.{zero-add}
use native.Mathlib.Omega.{arith}
use lib.ListN.{length, take, drop}
use lib.Seq.{take-length}
use Rattle.arith.proofs.Writing.{writing_none, front-more}
use Rattle.lent.proofs.Parts.{copied}
use Rattle.lent.proofs.overwrite.Goals as goal

pub loop-i-init : goal.loop-i-init
loop-i-init c = writing_none _ 0 _ (omega arith)

pub loop-i-preserved : goal.loop-i-preserved
loop-i-preserved c = front-more c.loop-i.invariant (omega arith) (omega arith) refl

pub returns : goal.returns
returns c =
    let f = c.args.from.now in
    let t = c.args.to.now in
    let e : c.loop-i.i ≡ length f = omega arith in
    c.loop-i.invariant.pasted
    ∙ ap (λ (k : ℕ). take c.loop-i.i f ++ drop k t) (zero-add c.loop-i.i)
    ∙ ap (λ (k : ℕ). take k f ++ drop k t) e
    ∙ ap (λ (u : List ℕ). u ++ drop (length f) t) (take-length f)
    ∙ copied t f (omega arith)
