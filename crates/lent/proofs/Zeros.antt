-- Whether all numbers of a list are 0, found by their bits and block by block.
--
--   Anything a l i    == what a loop keeps: a is 0 exactly where the first i numbers of l are
--   anything_more, anything_end == a turn, after the last
--   all_zero-append    == all zero in two parts
--   none_zero         == an empty list
--   zero-block, nonzero-block == a list that begins with a block that is all 0, or is not
--   zeros-none, zeros-more, zeros-end == the first i numbers are 0: before the first block, one block more,
--                        after the last
--   nonzero-part      == where a part is not all 0, the list is not
--
-- Assumes nothing.
use Prim.Native.Nat.{ℕ, ◌+◌, ◌≤◌, ◌<◌}
use mathlib.Core.Path.{◌≡◌, refl, sym, ap, ap₂, subst, ◌∙◌}
use mathlib.Core.Bool.{Bool, true, false, ◌&&◌}
use mathlib.Core.List.{List, [], ◌∷◌, ◌++◌}
use native.Mathlib.Decide.{dec_lt}
use native.Mathlib.Omega.{arith}
use lib.ListN.{length, get_or, take, drop, length-take}
use lib.Seq.{take_all, take-add}
use lib.Bits.{bit_or, or_add_and, or_zero_l, and_le_l, and_le_r}
use lib.Dec.{T, eqb, eqb→eq, eqb_refl}
use Rattle.meaning.specs.Search.{holds_for_all}
use Rattle.bridge.proofs.Basics.Searches.{T-same, T_true, true-T, T_false, false-T}
use Rattle.bridge.proofs.Sequences.KnownActions.{all_zero, all_zero-nil, all_zero-get_or, get_or-all_zero}
use Rattle.arith.specs.Slices.{part}
use Rattle.arith.proofs.Slices.{get_or-part}

-- Whether a number is not 0
pub record Anything (a : ℕ) (l : List ℕ) (i : ℕ) : Type 0 where
  pub none : a ≡ 0 → (j : ℕ) → j < i → get_or l j 0 ≡ 0
  pub some : ((j : ℕ) → j < i → get_or l j 0 ≡ 0) → a ≡ 0

module _ {a : ℕ} {l : List ℕ} {i : ℕ} (h : Anything a l i) where
  pub anything_more : (v : ℕ) → v ≡ get_or l i 0 → Anything (bit_or a v) l (i + 1)
  anything_more v e =
      record {
        none = λ z j b. elim (dec_lt j i) [
          | yes c ↦ h.none (omega (arith, or_add_and a v, and_le_l a v, and_le_r a v)) j c
          | no c ↦
              let k : j ≡ i = omega arith in
              ap (λ j. get_or l j 0) k
              ∙ sym e
              ∙ omega (arith, or_add_and a v, and_le_l a v, and_le_r a v)
        ];
        some = λ z.
            let x : a ≡ 0 = h.some (λ j b. z j (omega arith)) in
            let y : v ≡ 0 = e ∙ z i (omega arith) in
            ap₂ bit_or x y ∙ or_zero_l 0;
      }

  pub anything_end : length l ≤ i → eqb a 0 ≡ all_zero l
  anything_end b =
      T-same (λ t. get_or-all_zero l (λ j c. h.none (eqb→eq a 0 t) j (omega arith)))
      (λ t. subst (λ n. T (eqb n 0)) (sym (h.some (λ j _. all_zero-get_or l t j))) (eqb_refl 0))

-- Two parts
pub all_zero-append : (l m : List ℕ) → all_zero (l ++ m) ≡ (all_zero l && all_zero m)
unfolding all_zero holds_for_all
all_zero-append [] m = refl
all_zero-append (x ∷ l) m = go (eqb x 0) refl (all_zero-append l m)
  where
    go :
        (b : Bool)
        → eqb x 0 ≡ b
        → all_zero (l ++ m) ≡ (all_zero l && all_zero m)
        → all_zero (x ∷ l ++ m) ≡ (all_zero (x ∷ l) && all_zero m)
    go true e h = rw (e, holds_for_all) h
    go false e h = rw (e, holds_for_all)

pub none_zero : (l : List ℕ) → length l ≡ 0 → true ≡ all_zero l
none_zero [] e = sym (T_true all_zero-nil)
none_zero (x ∷ l) e = absurd (omega arith)

-- A block from the front
module _ {l : List ℕ} (b r : List ℕ) {z : Bool} (e : l ≡ b ++ r) (f : z ≡ all_zero b) where
  split : all_zero l ≡ (z && all_zero r)
  split = ap all_zero e ∙ all_zero-append b r ∙ ap (λ x. x && all_zero r) (sym f)

  pub zero-block : z ≡ true → all_zero r ≡ all_zero l
  zero-block t = sym (split ∙ ap (λ x. x && all_zero r) t)

  pub nonzero-block : z ≡ false → false ≡ all_zero l
  nonzero-block t = sym (split ∙ ap (λ x. x && all_zero r) t)

-- Block by block
module _ (l : List ℕ) where
  pub zeros-none : T (all_zero (take 0 l))
  zeros-none = all_zero-nil

  pub zeros-more :
      (i m : ℕ) {r : Bool}
      → T (all_zero (take i l))
      → r ≡ all_zero (part l i m)
      → r ≡ true
      → T (all_zero (take (i + m) l))
  zeros-more i m h e t =
      let a : all_zero (take i l) ≡ true = T_true h in
      true-T
      (ap all_zero (take-add i m l)
      ∙ all_zero-append (take i l) (part l i m)
      ∙ ap₂ ◌&&◌ a (sym e ∙ t))

  pub zeros-end : {i : ℕ} → length l ≤ i → T (all_zero (take i l)) → true ≡ all_zero l
  zeros-end {i} b h = sym (ap all_zero (sym (take_all i l b)) ∙ T_true h)

  pub nonzero-part : (i m : ℕ) {r : Bool} → r ≡ all_zero (part l i m) → r ≡ false → false ≡ all_zero l
  nonzero-part i m e b =
      sym
      (T_false
      (λ z.
      false-T (sym e ∙ b)
      (get_or-all_zero (part l i m)
      (λ j c. get_or-part l i m j (omega (arith, length-take m (drop i l))) ∙ all_zero-get_or l z (i + j)))))
