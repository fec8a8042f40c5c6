-- `binary::Words::reduce` meets its contract. The invariant: reduced by s turns more, what stands in the
-- place of f is the first polynomial that fits. Assumes nothing.
use Prim.Native.Nat.{◌+◌}
use mathlib.Core.Path.{sym, ap, subst, ◌∙◌}
use Rattle.massey.specs.binary.Binary.{reached_with}
use Rattle.massey.proofs.binary.Turning.{WordsTurning, words_turning_end, words_turning_reducible}
use Rattle.massey.proofs.binary.Turning.{words_turning_cancelled, cancelled_numbers}
use native.Mathlib.Omega.{arith}
use Rattle.massey.proofs.binary.Words.reduce.Goals as goal

pub cancel-requires : goal.cancel-requires
cancel-requires c = words_turning_reducible _ c.loop.invariant.2 (omega arith)

pub loop-preserved : goal.loop-preserved
loop-preserved c =
    let i = c.loop.invariant in
    let k = c.cancel.ensures.cancelled in
    let w = c.cancel.new.self in (
      ap (λ n. n + 1) (i.0 ∙ sym (cancelled_numbers k).0),
      (cancelled_numbers k).1 ∙ i.1,
      subst (λ a. WordsTurning c.args.terms.now (reached_with w.known (w.known.seen + 1)) w.f w.g a)
          (sym c.cancel.ensures.kept) (words_turning_cancelled _ i.2 (omega (arith, i.1)) k),
    )

pub returns : goal.returns
returns c =
    words_turning_end _ _ c.loop.invariant.1 c.loop.invariant.2
    (omega (arith, c.loop.invariant.1))
