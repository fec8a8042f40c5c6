-- The zeros that are written after a polynomial before it grows.
--
--   padded            == the bytes with these zeros
--   growing_padded    == the product with f(x^q) can be made there
--   padded_grown      == it is the product with the polynomial that was there, and all beyond is as it was
--
-- Assumes nothing.
use Prim.Native.Nat.{ℕ, ◌+◌, ◌*◌, ◌-◌, ◌≤◌}
use mathlib.Core.Path.{◌≡◌, sym, ap, ap₂, ◌∙◌}
use mathlib.Core.List.{List, ◌++◌}
use native.Mathlib.Nat.{le_of_eq, add-sub_cancel_left}
use native.Mathlib.Omega.{arith}
use lib.ListN.{length, get_or, take, drop, replicate, length-replicate}
use lib.Seq.{paste, length-paste, drop-paste}
use borrow.Rule.Slice.PartMut.{put_mid}
use Rattle.meaning.specs.Field.{Field}
use Rattle.meaning.specs.Polynomial.{degree, times}
use Rattle.meaning.specs.Result.{written}
use Rattle.bridge.proofs.Basics.Interpretation.{IsField}
use Rattle.bridge.proofs.Lists.Spread.{spread, length-spread}
use Rattle.bridge.proofs.Lists.Coefficients.{get_or-zeros}
use Rattle.arith.proofs.Slices.{length_part, get_or_paste_inside, part_paste_before}
use Rattle.lent.proofs.Parts.{put_paste}
use Rattle.poly.specs.products.Product.{places, Padded, Growing, Multiplied}
use Rattle.poly.proofs.products.Growing.{length-product}

module _ {f : List ℕ} {q : ℕ} {answer : List ℕ} {n : ℕ} (G : Growing f q 1 answer n) {ys : List ℕ}
    (e : ys
    ≡ replicate (length (take (n + 1 + q * (length f - 1) - (n + 1)) (drop (n + 1) answer))) 0) where
  abbrev more : ℕ
  more = q * (length f - 1)

  abbrev pub padded : List ℕ
  padded = put_mid (n + 1) (n + 1 + more - (n + 1)) answer ys

  room : n + 1 + more ≤ length answer
  room = omega (arith, G.room)

  zeros : ys ≡ replicate more 0
  zeros =
      e
      ∙ ap (λ (k : ℕ). replicate {A = ℕ} k 0)
      (ap (λ k. length (take k (drop (n + 1) answer))) (add-sub_cancel_left (n + 1) more)
      ∙ length_part answer (n + 1) more room)

  zeros-length : length ys ≡ more
  zeros-length = ap length zeros ∙ length-replicate {A = ℕ} more 0

  padded_paste : padded ≡ paste answer (n + 1) ys more
  padded_paste = put_paste answer (n + 1) more ys zeros-length

  pub growing_padded : Padded f q padded n
  growing_padded =
      record {
        some_factor = G.some_factor;
        stride = G.stride;
        small = omega (arith, G.small);
        room =
            omega (
              arith,
              room,
              ap length padded_paste ∙ length-paste answer (n + 1) ys more room (le_of_eq (sym zeros-length)),
            );
        zeros =
            λ k l h.
            let i : k ≡ n + 1 + (k - (n + 1)) = omega arith in
            ap₂ (λ w j. get_or w j 0) padded_paste i
            ∙ get_or_paste_inside answer (n + 1) ys more room (le_of_eq (sym zeros-length)) (k - (n + 1))
            (omega arith)
            ∙ ap (λ w. get_or w (k - (n + 1)) 0) zeros
            ∙ get_or-zeros more (k - (n + 1));
      }

  -- the polynomial, and what comes after the zeros
  padded-front : take (n + 1) padded ≡ take (n + 1) answer
  padded-front =
      ap (take (n + 1)) padded_paste
      ∙ part_paste_before answer (n + 1) ys more room (le_of_eq (sym zeros-length)) 0 (n + 1) (omega arith)

  padded-beyond : drop (places f q n) padded ≡ drop (places f q n) answer
  padded-beyond =
      ap (drop (n + 1 + more)) padded_paste
      ∙ drop-paste answer (n + 1) ys more (omega (arith, room)) (le_of_eq (sym zeros-length))

  pub padded_grown : {F : Field} (I : IsField F) {answer' : List ℕ}
      → answer' ≡ times F (spread q f) (take (n + 1) padded) ++ drop (places f q n) padded
      → Multiplied F (spread q f) answer n answer' (n + 1 + q * (length f - 1) - 1)
  unfolding written degree
  padded_grown {F} I {answer'} d =
      record {
        new_degree = omega (arith, length-spread q G.stride f G.some_factor);
        bytes =
            d
            ∙ ap₂ (λ a b. times F (spread q f) a ++ b) padded-front padded-beyond
            ∙ ap (λ k. product ++ drop k answer) (sym size);
      }
    where
      product : List ℕ
      product = times F (spread q f) (take (n + 1) answer)

      size : length product ≡ places f q n
      size = ap (λ a. length (times F (spread q f) a)) (sym padded-front) ∙ length-product I growing_padded
