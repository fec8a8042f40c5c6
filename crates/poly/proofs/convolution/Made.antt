-- Blocks of coefficients of a product, made in the place of coefficients that they are made of.
--
--   blocks_none, blocks_more, blocks_all == no block, one block more below the others, all of them
--   blocks_next       == what the next block is made of stands there
--
-- Assumes nothing.
use Prim.Native.Nat.{ℕ, ◌+◌, ◌-◌, ◌%◌, ◌≤◌, ◌<◌}
use mathlib.Core.Path.{◌≡◌, refl, sym, ap, subst, ◌∙◌}
use mathlib.Core.Bool.{Bool}
use mathlib.Core.List.{List}
use native.Mathlib.Decide.{dec_lt}
use native.Mathlib.Omega.{arith}
use Rattle.meaning.specs.Field.{Field}
use Rattle.meaning.specs.Sequence.{Sequence, known}
use Rattle.bridge.proofs.Sequences.Actions.{known-get_or}
use Rattle.lent.specs.blocks.Blocks.{Block, BlockActed}
use Rattle.poly.specs.convolution.Convolution.{convolved, convolved_within, Below}
use Rattle.poly.proofs.convolution.Convolution.{convolved_local}
use Rattle.poly.proofs.convolution.Blocks.{below_block, acted-convolved}
use Rattle.poly.proofs.convolution.Between.{Between, between_paste, between-pasted}

module _ (F : Field) (f : List ℕ) (q : ℕ) (w₀ : List ℕ) where
  abbrev s : Sequence
  s = convolved F f q (known w₀)

  pub blocks_none : (to at : ℕ) {n : ℕ} → n ≡ 0 → Between w₀ to n s at w₀
  blocks_none to at e =
      record {
        size = refl;
        before = λ j l. refl;
        inside = λ j l k. absurd (omega arith);
        after = λ j l. refl;
      }

  module _ (to at m : ℕ) (b : Below f q w₀ at to m) {w : List ℕ} {left : ℕ} (l : left ≤ m)
      (d : Between w₀ (to + left) (m - left) s (at + left) w) where
    -- h places below the first of them, from to + k on
    module _ (k h : ℕ) (e : left ≡ k + h) where
      block_below : Below f q w (at + k) (to + k) h
      block_below =
          record {
            reach = omega (arith, b.reach);
            order = omega (arith, b.order);
            within = omega (arith, b.within, d.size);
          }

      pub blocks_next : 0 < h → h ≤ 256 → Block w 0 (at + left) (at + k) (to + k) h
      blocks_next = below_block block_below (omega arith)

      abbrev t : Sequence
      t = convolved F f q (known w)

      module _ {w' : List ℕ} {r : Bool} {n : ℕ} (o : n ≡ at + left)
          (a : BlockActed F w 0 n (at + k) f (n - q % n) (to + k) h w' r) where
        block_made : Between w (to + k) h t (at + k) w'
        block_made =
            subst (Between w (to + k) h t (at + k)) (sym (acted-convolved block_below (omega arith) a))
            (between_paste w (to + k) h t (at + k) block_below.within)

        -- the block is made of numbers that are as they were
        block_unchanged : (j : ℕ) → j < at + left → t j ≡ s j
        block_unchanged j c =
            convolved_local F f q (known w) (known w₀) j
            (λ i g. known-get_or w i ∙ d.before i (omega (arith, b.order)) ∙ sym (known-get_or w₀ i))

        pub blocks_more : Between w₀ (to + k) (m - k) s (at + k) w'
        blocks_more =
            record {
              size = block_made.size ∙ d.size;
              before = λ j a. block_made.before j a ∙ d.before j (omega arith);
              inside =
                  λ j a c. elim (dec_lt j (to + left)) [
                    | yes z ↦
                        block_made.inside j a (omega arith)
                        ∙ block_unchanged (at + k + (j - (to + k))) (omega arith)
                    | no z ↦
                        let g : at + left + (j - (to + left)) ≡ at + k + (j - (to + k)) = omega arith in
                        block_made.after j (omega arith) ∙ d.inside j (omega arith) (omega arith) ∙ ap s g
                  ];
              after = λ j a. block_made.after j (omega arith) ∙ d.after j (omega arith);
            }

  pub blocks_all : (to at m : ℕ) (b : Below f q w₀ at to m) {w : List ℕ} {left : ℕ}
      → left ≡ 0
      → Between w₀ (to + left) (m - left) s (at + left) w
      → w ≡ convolved_within F f q w₀ at to m
  blocks_all to at m b {left = left} e d =
      let x : to + left ≡ to = omega arith in
      let y : m - left ≡ m = omega arith in
      let z : at + left ≡ at = omega arith in
      between-pasted w₀ to m s at b.within (rw (x, y, z) at d)
