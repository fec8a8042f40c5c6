-- A loop that writes the numbers of a list t over a list l from place x on, one a turn.
--
--   Writing l x t w i == what it keeps: after i turns l has become w, the first i numbers of t pasted into l
--                        at x
--   writing_none, writing_more == before the first turn, one turn more
--   writing_read      == a turn reads the number of l in a part that is apart or does not begin before x
--   front-more, front_read, front-end == the same where x is 0
--   Combining F l x y c z n w i == what a loop keeps that writes a + c·b, where a is the n numbers of l from
--                        y on and b those from z on: its first i numbers are written
--   combining_none, combining_more, combining_end == before the first turn, one turn more, after the last
--   same-places       == a part and itself
--   combined-front, combined-end == a turn that writes a + c·b over a, and the last
--   scaled-front, scaled-end     == a turn that writes c·a over a, and the last
--
-- Assumes nothing.
use Prim.Native.Nat.{ℕ, ◌+◌, ◌≤◌, ◌<◌}
use mathlib.Core.Path.{◌≡◌, refl, sym, ap, ap₂, ◌∙◌, subst}
use mathlib.Core.List.{List, ◌++◌}
use native.Mathlib.Nat.{zero-add}
use native.Mathlib.Numerals.{add-one}
use native.Mathlib.Decide.{dec_lt}
use native.Mathlib.Omega.{arith}
use lib.ListN.{length, get_or, set, take, drop, length-set, take-append-drop, drop_of_length-le}
use lib.Seq.{paste, paste-zero, paste-suc}
use Rattle.meaning.specs.Field.{Field}
use Rattle.meaning.specs.Polynomial.{scale}
use Rattle.bridge.proofs.Lists.Polynomials.{length-scale}
use Rattle.bridge.proofs.Basics.Padding.{get_or-scale}
use Rattle.arith.specs.Slices.{part, combined, combined_within, Places}
use Rattle.arith.proofs.Slices.{length_part, get_or-part, get_or_paste_before, get_or_paste_after}
use Rattle.arith.proofs.Slices.{length-combined, get_or-combined, drop-combined}

pub record Writing (l : List ℕ) (x : ℕ) (t w : List ℕ) (i : ℕ) : Type 0 where
  pub within : x + i ≤ length l
  pub enough : i ≤ length t
  pub size : length w ≡ length l
  pub pasted : w ≡ paste l x t i

pub writing_none : (l : List ℕ) (x : ℕ) (t : List ℕ) → x ≤ length l → Writing l x t l 0
writing_none l x t h =
    record { within = omega arith; enough = omega arith; size = refl; pasted = paste-zero l x t }

module _ {l : List ℕ} {x : ℕ} {t w : List ℕ} {i : ℕ} (h : Writing l x t w i) where
  writing_more :
      {v : ℕ} → x + i < length l → i < length t → v ≡ get_or t i 0 → Writing l x t (set w (x + i) v) (i + 1)
  writing_more {v} c d e =
      record {
        within = omega arith;
        enough = omega arith;
        size = simp length-set h.size;
        pasted = ap (λ m. set m (x + i) v) h.pasted ∙ rw (add-one, e) (paste-suc l x t i 0 c d);
      }

  writing_read : {n : ℕ} (y : ℕ) → (y < x → y + n ≤ x) → i < n → get_or w (y + i) 0 ≡ get_or l (y + i) 0
  writing_read y a k = ap (λ m. get_or m (y + i) 0) h.pasted ∙ elim (dec_lt y x) [
    | yes c ↦ get_or_paste_before l x t i h.within h.enough (y + i) (omega (arith, a c))
    | no c ↦ get_or_paste_after l x t i h.within h.enough (y + i) (omega arith)
  ]

-- From the front
module _ {l t w : List ℕ} {i : ℕ} (h : Writing l 0 t w i) where
  pub front-more :
      {v : ℕ} → i < length l → i < length t → v ≡ get_or t i 0 → Writing l 0 t (set w i v) (i + 1)
  front-more {v} c d e =
      subst (λ k. Writing l 0 t (set w k v) (i + 1)) (zero-add i) (writing_more h (omega arith) d e)

  pub front_read : get_or w i 0 ≡ get_or l i 0
  front_read =
      ap (λ m. get_or m i 0) h.pasted ∙ get_or_paste_after l 0 t i h.within h.enough i (omega arith)

  pub front-end : drop i t ≡ drop i l → w ≡ t
  front-end e =
      h.pasted
      ∙ ap (λ k. take i t ++ drop k l) (zero-add i)
      ∙ ap (λ m. take i t ++ m) (sym e)
      ∙ take-append-drop i t

-- a + c·b for parts a from y on and b from z on of l
pub record Combining (F : Field) (l : List ℕ) (x y c z n : ℕ) (w : List ℕ) (i : ℕ) : Type 0 where
  pub most : i ≤ n
  pub written : Writing l x (combined F (part l y n) c (part l z n)) w i

pub same-places : {l : List ℕ} {x y n : ℕ} → Places l x y n → Places l x x n
same-places p = record { first = p.first; second = p.first; apart = λ e. omega arith }

pub combining_none : {F : Field} (l : List ℕ) {x y c z n : ℕ} → x ≤ length l → Combining F l x y c z n l 0
combining_none l {x} h = record { most = omega arith; written = writing_none l x _ h }

module _ {F : Field} {l : List ℕ} {x y c z n : ℕ} {w : List ℕ} {i : ℕ} (h : Combining F l x y c z n w i) where
  pub combining_more :
      {v : ℕ}
      → Places l x y n
      → Places l x z n
      → i < n
      → v ≡ F.add (get_or w (y + i) 0) (F.mul c (get_or w (z + i) 0))
      → Combining F l x y c z n (set w (x + i) v) (i + 1)
  combining_more p q k e =
      let a : length (part l y n) ≡ n = length_part l y n p.second in
      let b : length (part l z n) ≡ n = length_part l z n q.second in
      let t = length-combined F (part l y n) c (part l z n) (omega arith) in
      record {
        most = omega arith;
        written =
            writing_more h.written (omega (arith, p.first)) (omega arith)
            (e
            ∙ ap₂ (λ a b. F.add a (F.mul c b))
            (writing_read h.written y p.apart k ∙ sym (get_or-part l y n i k))
            (writing_read h.written z q.apart k ∙ sym (get_or-part l z n i k))
            ∙ sym (get_or-combined F (part l y n) c (part l z n) i (omega arith) (omega arith)));
      }

  pub combining_end : n ≤ i → w ≡ combined_within F l x y c z n
  combining_end k =
      let e : i ≡ n = omega (arith, h.most) in
      h.written.pasted ∙ ap (paste l x (combined F (part l y n) c (part l z n))) e

-- a + c·b over a, and c·a over a
module _ (F : Field) (a : List ℕ) (c : ℕ) {w : List ℕ} {i : ℕ} where
  pub combined-front :
      {v : ℕ} (b : List ℕ)
      → length b ≤ length a
      → i < length b
      → Writing a 0 (combined F a c b) w i
      → v ≡ F.add (get_or w i 0) (F.mul c (get_or b i 0))
      → Writing a 0 (combined F a c b) (set w i v) (i + 1)
  combined-front b m k h e =
      front-more h (omega arith) (omega (arith, length-combined F a c b m))
      (e
      ∙ ap (λ x. F.add x (F.mul c (get_or b i 0))) (front_read h)
      ∙ sym (get_or-combined F a c b i (omega arith) k))

  pub combined-end :
      (b : List ℕ)
      → length b ≤ length a
      → i ≡ length b
      → Writing a 0 (combined F a c b) w i
      → w ≡ combined F a c b
  combined-end b m e h = front-end h (rw e (drop-combined F a c b m))

  pub scaled-front :
      {v : ℕ}
      → i < length a
      → Writing a 0 (scale F c a) w i
      → v ≡ F.mul c (get_or w i 0)
      → Writing a 0 (scale F c a) (set w i v) (i + 1)
  scaled-front k h e =
      front-more h k (omega (arith, length-scale F c a))
      (e ∙ ap (F.mul c) (front_read h) ∙ sym (get_or-scale F c a i k))

  pub scaled-end : length a ≤ i → Writing a 0 (scale F c a) w i → w ≡ scale F c a
  scaled-end m h =
      let k : length (scale F c a) ≤ i = rw length-scale m in
      front-end h (drop_of_length-le (scale F c a) k ∙ sym (drop_of_length-le a m))
