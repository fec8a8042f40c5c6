-- The numbers of a list that are lent as a period, and the block of an action that comes back.
--
--   block_acted       == the block is pasted in its place, and the stride may have been reduced
--   block_zero        == whether it is 0, with as many sums as values and the stride reduced
--
-- Assumes nothing.
use Prim.Native.Nat.{ℕ, ◌+◌, ◌-◌, ◌%◌}
use mathlib.Core.Path.{◌≡◌, refl, sym, ap, ◌∙◌}
use mathlib.Core.Bool.{Bool}
use mathlib.Core.List.{List}
use native.Mathlib.Nat.{mod-mod, add-sub_cancel_left}
use lib.ListN.{length}
use lib.Seq.{paste}
use borrow.Rule.Slice.PartMut.{put_mid}
use Rattle.meaning.specs.Field.{Field}
use Rattle.meaning.specs.Polynomial.{Polynomial}
use Rattle.meaning.specs.Sequence.{periodic}
use Rattle.bridge.proofs.Sequences.Actions.{act_stride, length_cut, cut-equal}
use Rattle.bridge.proofs.Sequences.KnownActions.{all_zero}
use Rattle.arith.specs.Slices.{part}
use Rattle.arith.proofs.Slices.{length_part}
use Rattle.lent.specs.blocks.Blocks.{block_on_period, Block, BlockActed}
use Rattle.lent.proofs.Parts.{put_paste}
use Rattle.lent.proofs.blocks.Cycles.{stride_congruent}

module _ (F : Field) (f : Polynomial) (q : ℕ) (ts : List ℕ) (i m : ℕ) where
  stride_reduced : block_on_period F f (q % length ts) ts i m ≡ block_on_period F f q ts i m
  stride_reduced =
      cut-equal (act_stride F f (q % length ts) (periodic ts)) (act_stride F f q (periodic ts)) i i m
      (λ j _. stride_congruent F f ts (q % length ts) q (i + j) (i + j) (mod-mod q (length ts)) refl)

  pub block_zero :
      {k : ℕ} {v y : List ℕ} {r : Bool}
      → y ≡ v
      → v ≡ block_on_period F f (q % length ts) ts i k
      → k ≡ m
      → r ≡ all_zero y
      → r ≡ all_zero (block_on_period F f q ts i m)
  block_zero g e h z =
      z ∙ ap all_zero (g ∙ e ∙ ap (block_on_period F f (q % length ts) ts i) h ∙ stride_reduced)

module _ {w : List ℕ} {from n i to m : ℕ} (b : Block w from n i to m) where
  abbrev ts : List ℕ
  ts = part w from n

  lent-period : part w from (from + n - from) ≡ ts
  lent-period = ap (part w from) (add-sub_cancel_left from n)

  pub block_acted :
      (F : Field) (f : Polynomial) (q : ℕ) {k : ℕ} {v y : List ℕ} {r : Bool}
      → y ≡ v
      → v ≡ block_on_period F f (q % n) (part w from (from + n - from)) i k
      → k ≡ m
      → r ≡ all_zero y
      → BlockActed F w from n i f q to m (put_mid to (to + m - to) w y) r
  block_acted F f q {k} {v} {y} g e h z =
      record {
        bytes = put_paste w to m y (ap length all ∙ length_cut _ i m) ∙ ap (λ u. paste w to u m) all;
        zero = z ∙ ap all_zero all;
      }
    where
      all : y ≡ block_on_period F f q ts i m
      all =
          g
          ∙ e
          ∙ ap (block_on_period F f (q % n) (part w from (from + n - from)) i) h
          ∙ ap (λ t. block_on_period F f (q % n) t i m) lent-period
          ∙ ap (λ k. block_on_period F f (q % k) ts i m) (sym (length_part w from n b.period))
          ∙ stride_reduced F f q ts i m
