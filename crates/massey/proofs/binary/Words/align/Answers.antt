-- `binary::Words::align` meets its contract. The invariant: g is moved down by the bits between the two
-- numbers. The measure is the number of bits left. Assumes nothing.
use mathlib.Core.Path.{subst}
use Rattle.massey.specs.words.Words.{Moved}
use Rattle.massey.proofs.binary.Aligning.{aligning_more}
use Rattle.massey.proofs.binary.Words.align.Goals as goal

pub loop-self-preserved : goal.loop-self-preserved
loop-self-preserved c =
    let i = c.loop-self.invariant in
    let g = c.loop-self.self.g in (
      aligning_more i.0 c.loop-self-test.true
          (subst (λ a. Moved g a c.move_word.new.g) i.2 c.move_word.ensures),
      i.1,
      i.2,
    )
