-- A block of coefficients of a product, as a block of an action on a period.
--
--   below_block       == what is read for a block of at most 256 places stands in a period
--   acted-convolved   == the action on it, with a stride that goes q places back, makes the coefficients
--
-- Assumes nothing.
use Prim.Native.Nat.{ℕ, ◌+◌, ◌*◌, ◌-◌, ◌/◌, ◌%◌, ◌≤◌, ◌<◌}
use mathlib.Core.Path.{◌≡◌, sym, ap, ◌∙◌}
use mathlib.Core.Bool.{Bool}
use mathlib.Core.List.{List}
use native.Mathlib.Nat.{mod-lt, mod-eq_of_lt, div-add-mod, add-mul-mod_self_left, mul-le-mul_left}
use native.Mathlib.Nat.{mul-suc, mul_assoc, add-mul}
use native.Mathlib.Numerals.{add-one}
use native.Mathlib.Omega.{arith}
use lib.ListN.{length, get_or}
use lib.Seq.{paste, get_or-take}
use Rattle.meaning.specs.Field.{Field}
use Rattle.meaning.specs.Sequence.{known, periodic}
use Rattle.bridge.proofs.Sequences.Actions.{act_stride, cut-equal, known-get_or}
use Rattle.arith.specs.Slices.{part}
use Rattle.arith.proofs.Slices.{length_part}
use Rattle.lent.specs.blocks.Blocks.{Block, BlockActed}
use Rattle.poly.specs.convolution.Convolution.{convolved, convolved_within, Below}
use Rattle.poly.proofs.convolution.Convolution.{convolved_stride}

module _ {f : List ℕ} {q : ℕ} {w : List ℕ} {at to m n : ℕ} (b : Below f q w at to m) (size : n ≡ at + m) where
  pub below_block : 0 < m → m ≤ 256 → Block w 0 n at to m
  below_block some small =
      record {
        period = omega (arith, b.order, b.within);
        place = omega arith;
        few = omega arith;
        small = small;
        room = b.within;
      }

  -- n − q places forth, i times, are q·i places back
  stride_back : (k i : ℕ) → q * i ≤ k → k < n → (k + (n - q % n) * i) % n ≡ k - q * i
  stride_back k i h l =
      let d = q / n + 1 in
      let e : n - q % n + q ≡ n * d =
      omega (arith, div-add-mod q n, mod-lt q {m = n} (omega arith), mul-suc n (q / n), add-one (q / n)) in
      let g : k + (n - q % n) * i ≡ k - q * i + n * (d * i) =
      omega (arith, add-mul (n - q % n) q i, ap (λ x. x * i) e, mul_assoc n d i) in
      ap (λ x. x % n) g ∙ add-mul-mod_self_left (k - q * i) n (d * i) ∙ mod-eq_of_lt (omega arith)

  -- what stands there
  stride_reads :
      (k i : ℕ)
      → q * i ≤ k
      → k < n
      → known w (k - q * i) ≡ periodic (part w 0 n) (k + (n - q % n) * i)
  unfolding periodic
  stride_reads k i h l =
      known-get_or w (k - q * i)
      ∙ sym (ap (λ x. get_or (part w 0 n) ((k + (n - q % n) * i) % x) 0)
      (length_part w 0 n (omega (arith, b.order, b.within)))
      ∙ ap (λ x. get_or (part w 0 n) x 0) (stride_back k i h l)
      ∙ get_or-take n w (k - q * i) 0 (omega arith))

  pub acted-convolved : {F : Field} {w' : List ℕ} {r : Bool}
      → BlockActed F w 0 n at f (n - q % n) to m w' r
      → w' ≡ convolved_within F f q w at to m
  acted-convolved {F} a =
      a.bytes
      ∙ ap (λ v. paste w to v m)
      (cut-equal (act_stride F f (n - q % n) (periodic (part w 0 n))) (convolved F f q (known w)) at at m
      (λ j l.
      sym (convolved_stride F f q (n - q % n) (known w) (periodic (part w 0 n)) (at + j) (at + j)
      (λ i g.
      let x : i ≤ length f - 1 = omega arith in
      stride_reads (at + j) i (omega (arith, b.reach, mul-le-mul_left q x)) (omega arith)))))
