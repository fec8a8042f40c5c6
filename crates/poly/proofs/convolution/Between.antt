-- Numbers of a sequence put into a list.
--
--   Between w to m s at w' == w' is w, but for the m places from `to` on, where it has the numbers of s from
--                       `at` on
--   between_paste     == so is the list in which they are pasted
--   between-pasted    == and there is no other
--
-- Assumes nothing.
use Prim.Native.Nat.{ℕ, ◌+◌, ◌-◌, ◌≤◌, ◌<◌}
use mathlib.Core.Path.{◌≡◌, sym, ap, ◌∙◌}
use mathlib.Core.List.{List}
use native.Mathlib.Decide.{dec_lt}
use native.Mathlib.Omega.{arith}
use lib.ListN.{length, get_or}
use lib.Seq.{ext_get_or, paste, length-paste}
use Rattle.meaning.specs.Sequence.{Sequence, cut}
use Rattle.bridge.proofs.Sequences.Actions.{length_cut, get_or-cut}
use Rattle.arith.proofs.Slices.{get_or_paste_inside, get_or_paste_before, get_or_paste_after}

pub record Between (w : List ℕ) (to m : ℕ) (s : Sequence) (at : ℕ) (w' : List ℕ) : Type 0 where
  pub size : length w' ≡ length w
  pub before : (j : ℕ) → j < to → get_or w' j 0 ≡ get_or w j 0
  pub inside : (j : ℕ) → to ≤ j → j < to + m → get_or w' j 0 ≡ s (at + (j - to))
  pub after : (j : ℕ) → to + m ≤ j → get_or w' j 0 ≡ get_or w j 0

module _ (w : List ℕ) (to m : ℕ) (s : Sequence) (at : ℕ) (l : to + m ≤ length w) where
  cut-enough : m ≤ length (cut s at m)
  cut-enough = omega (arith, length_cut s at m)

  pub between_paste : Between w to m s at (paste w to (cut s at m) m)
  between_paste =
      record {
        size = length-paste w to (cut s at m) m l cut-enough;
        before = get_or_paste_before w to (cut s at m) m l cut-enough;
        inside =
            λ j a b.
            let i : j ≡ to + (j - to) = omega arith in
            ap (λ n. get_or (paste w to (cut s at m) m) n 0) i
            ∙ get_or_paste_inside w to (cut s at m) m l cut-enough (j - to) (omega arith)
            ∙ get_or-cut s at m (j - to) (omega arith);
        after = get_or_paste_after w to (cut s at m) m l cut-enough;
      }

  pub between-pasted : {w' : List ℕ} → Between w to m s at w' → w' ≡ paste w to (cut s at m) m
  between-pasted {w'} b =
      ext_get_or 0 w' (paste w to (cut s at m) m) (b.size ∙ sym between_paste.size)
      (λ j h. elim (dec_lt j to) [
        | yes x ↦ b.before j x ∙ sym (between_paste.before j x)
        | no x ↦ elim (dec_lt j (to + m)) [
          | yes y ↦ b.inside j (omega arith) y ∙ sym (between_paste.inside j (omega arith) y)
          | no y ↦ b.after j (omega arith) ∙ sym (between_paste.after j (omega arith))
        ]
      ])
