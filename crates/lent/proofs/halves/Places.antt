-- Lists written into others, and what stands where afterwards.
--
--   writing_block     == a turn of a loop that writes m numbers of a list at once
--   kept_half, placed == numbers pasted at the front of a half: what stands in the two halves and beyond
--
-- Assumes nothing.
use Prim.Native.Nat.{ℕ, ◌+◌, ◌*◌, ◌-◌, ◌≤◌}
use mathlib.Core.Path.{◌≡◌, sym, ap, ap₂, subst, ◌∙◌}
use mathlib.Core.List.{List, ◌++◌, append_assoc}
use native.Mathlib.Decide.{dec_lt}
use native.Mathlib.Omega.{arith}
use lib.ListN.{length, take, drop}
use lib.Seq.{take-length, take-take, take-add, drop-drop}
use lib.Seq.{paste, take-paste, drop-paste, length-paste}
use Rattle.arith.specs.Slices.{part}
use Rattle.arith.proofs.Slices.{part_paste_inside, part_paste_before, part_paste_after}
use Rattle.arith.proofs.Writing.{Writing}
use Rattle.lent.specs.halves.Halves.{half, Placed}

-- A list written piece by piece
module _ (l : List ℕ) (x : ℕ) (t : List ℕ) (i m : ℕ) (h : x + i + m ≤ length l) (k : i + m ≤ length t) where
  paste_more : paste (paste l x t i) (x + i) (part t i m) m ≡ paste l x t (i + m)
  paste_more =
      ap₂ (λ a b. a ++ take m (part t i m) ++ b) (take-paste l x t i (omega arith) (omega arith)) paste_rest
      ∙ ap (λ a. take x l ++ take i t ++ a ++ drop (x + (i + m)) l) (take-take m m (drop i t) (omega arith))
      ∙ ap (λ a. a ++ drop (x + (i + m)) l)
      (append_assoc (take x l) (take i t) (part t i m) ∙ ap (λ a. take x l ++ a) (sym (take-add i m t)))
    where
      paste_rest : drop (x + i + m) (paste l x t i) ≡ drop (x + (i + m)) l
      paste_rest =
          let e : x + i + m ≡ x + (i + m) = omega arith in
          sym (drop-drop m (x + i) (paste l x t i))
          ∙ ap (drop m) (drop-paste l x t i (omega arith) (omega arith))
          ∙ drop-drop m (x + i) l
          ∙ ap (λ n. drop n l) e

  pub writing_block :
      {w w' : List ℕ}
      → Writing l x t w i
      → w' ≡ paste w (x + i) (part t i m) m
      → Writing l x t w' (i + m)
  writing_block {w} {w'} s e =
      record {
        within = omega arith;
        enough = k;
        size = ap length pasted ∙ length-paste l x t (i + m) (omega arith) k;
        pasted = pasted;
      }
    where
      pasted : w' ≡ paste l x t (i + m)
      pasted = e ∙ ap (λ v. paste v (x + i) (part t i m) m) s.pasted ∙ paste_more

-- Numbers pasted at the front of half h, the other half being k
drop-beyond :
    (l : List ℕ) (x : ℕ) (t : List ℕ) (n k : ℕ)
    → x + n ≤ k
    → x ≤ length l
    → n ≤ length t
    → drop k (paste l x t n) ≡ drop k l
drop-beyond l x t n k h a b =
    let e : k ≡ x + n + (k - (x + n)) = omega arith in
    ap (λ j. drop j (paste l x t n)) e
    ∙ sym (drop-drop (k - (x + n)) (x + n) (paste l x t n))
    ∙ ap (drop (k - (x + n))) (drop-paste l x t n a b)
    ∙ drop-drop (k - (x + n)) (x + n) l
    ∙ ap (λ j. drop j l) (sym e)

module _
    (w : List ℕ) (h k : ℕ) (size : 8192 ≤ length w) (which : h ≤ 1) (other : k ≡ 1 - h) (t : List ℕ)
  where
    pub kept_half :
        (n m : ℕ)
        → n ≤ 4096
        → n ≤ length t
        → m ≤ 4096
        → half (paste w (4096 * h) t n) k m ≡ half w k m
    kept_half n m a b l = elim (dec_lt k h) [
      | yes c ↦ part_paste_before w (4096 * h) t n (omega arith) b (4096 * k) m (omega arith)
      | no c ↦ part_paste_after w (4096 * h) t n (omega arith) b (4096 * k) m (omega arith) (omega arith)
    ]

    pub placed : {w' : List ℕ} → length t ≤ 4096 → w' ≡ paste w (4096 * h) t (length t) → Placed w h k t w'
    placed {w'} few e =
        subst (Placed w h k t) (sym e)
        record {
          made = part_paste_inside w (4096 * h) t (length t) (omega arith) (omega arith) ∙ take-length t;
          kept = kept_half (length t) 4096 few (omega arith) (omega arith);
          beyond = drop-beyond w (4096 * h) t (length t) 8192 (omega arith) (omega arith) (omega arith);
          size = length-paste w (4096 * h) t (length t) (omega arith) (omega arith);
        }
