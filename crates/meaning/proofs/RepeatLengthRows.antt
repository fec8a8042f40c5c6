-- Computed rows: how many terms the sequences of the marked rows take to repeat, and the longest repeat
-- length that is told. Row D stands with x for its factor, of which no power is in the answer.
--
--   RepeatLengthRows == the table: a field for each row      repeat_length-rows == every row holds
-- Assumes nothing.
use mathlib.Core.Path.{◌≡◌, refl}
use mathlib.Core.List.{[], ◌∷◌}
use Rattle.meaning.specs.Field.{prime}
use Rattle.meaning.specs.Polynomial.{product}
use Rattle.meaning.specs.Sequence.{periodic}
use Rattle.meaning.specs.RepeatLength.{longest_repeat, repeat_length}
use Rattle.meaning.specs.Portion.{onward}
use Rattle.meaning.proofs.Computed.{computed}

pub record RepeatLengthRows : Type 0 where
  pub longest : longest_repeat ≡ 65536
  pub A :
      repeat_length (product (prime 2) ((1 ∷ 1 ∷ 0 ∷ 1 ∷ [], 4) ∷ []))
      (onward (prime 2) ((1 ∷ 1 ∷ 0 ∷ 1 ∷ [], 6) ∷ [])
      (0 ∷ 1 ∷ 0 ∷ 1 ∷ 0 ∷ 0 ∷ 0 ∷ 0 ∷ 1 ∷ 0 ∷ 1 ∷ 1 ∷ 0 ∷ 1 ∷ 0 ∷ 1 ∷ 1 ∷ 0 ∷ []))
      ≡ 28
  pub B : repeat_length (1 ∷ 0 ∷ 0 ∷ 0 ∷ 1 ∷ []) (periodic (0 ∷ 0 ∷ 0 ∷ 1 ∷ [])) ≡ 4
  pub C : repeat_length (1 ∷ 1 ∷ []) (periodic (1 ∷ 1 ∷ 1 ∷ 1 ∷ [])) ≡ 1
  pub D : repeat_length (1 ∷ []) (onward (prime 2) ((0 ∷ 1 ∷ [], 3) ∷ []) (0 ∷ 0 ∷ 0 ∷ [])) ≡ 1
  pub E : repeat_length (1 ∷ 1 ∷ 1 ∷ []) (periodic (0 ∷ 1 ∷ 2 ∷ [])) ≡ 3
  pub G : repeat_length (1 ∷ 0 ∷ 1 ∷ []) (onward (prime 2) ((1 ∷ 1 ∷ [], 2) ∷ []) (1 ∷ 0 ∷ [])) ≡ 2
  pub J : repeat_length (0 ∷ 0 ∷ 1 ∷ []) (onward (prime 2) ((0 ∷ 1 ∷ [], 3) ∷ []) (1 ∷ 1 ∷ 0 ∷ [])) ≡ 0
  pub K :
      repeat_length (1 ∷ 1 ∷ 1 ∷ [])
      (onward (prime 2) ((1 ∷ 1 ∷ [], 1) ∷ (1 ∷ 1 ∷ 1 ∷ [], 1) ∷ []) (0 ∷ 1 ∷ 1 ∷ []))
      ≡ 3

pub repeat_length-rows : RepeatLengthRows
unfolding computed
repeat_length-rows =
    record {
      longest = refl;
      A = refl;
      B = refl;
      C = refl;
      D = refl;
      E = refl;
      G = refl;
      J = refl;
      K = refl;
    }
