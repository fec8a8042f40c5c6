-- Parts of lists, a list pasted into another, and the list a + c·b, by their places.
--
--   length_part, get_or-part          == the length and the numbers of a part
--   get_or_paste_inside, -before, -after == the numbers of `paste l x t n`, which is l with the first n
-- numbers
--                          of t from place x on
--   part_paste_inside, -before, -after == its parts: what was pasted, and parts apart from it
--   drop-plus            == past the end of b the sum a + b is a
--   length-combined, get_or-combined  == the length and the numbers of a + c·b
--
-- Assumes nothing.
use Prim.Native.Nat.{ℕ, ◌+◌, ◌-◌, ◌≤◌, ◌<◌}
use mathlib.Core.Path.{◌≡◌, refl, sym, ap, ◌∙◌}
use mathlib.Core.List.{List, [], ◌∷◌, ◌++◌}
use native.Mathlib.Nat.{not-suc-le-zero, le_of_suc-le-suc}
use native.Mathlib.Omega.{arith}
use lib.ListN.{length, get_or, take, drop, length-take, length-drop, get_or-append}
use lib.Seq.{paste, length-take-le, length-paste, length_paste_head, get_or-append-add, get_or-take}
use lib.Seq.{get_or-drop}
use lib.Seq.{ext_get_or}
use Rattle.meaning.specs.Field.{Field}
use Rattle.meaning.specs.Polynomial.{plus, scale}
use Rattle.bridge.proofs.Lists.Polynomials.{length-scale}
use Rattle.bridge.proofs.Basics.Padding.{get_or-plus, get_or-scale, length-plus-left}
use Rattle.arith.specs.Slices.{part, combined}

-- Parts
pub length_part : (l : List ℕ) (x n : ℕ) → x + n ≤ length l → length (part l x n) ≡ n
length_part l x n h = simp (length-take, length-drop) (omega arith)

pub get_or-part : (l : List ℕ) (x n i : ℕ) → i < n → get_or (part l x n) i 0 ≡ get_or l (x + i) 0
get_or-part l x n i h = get_or-take n (drop x l) i 0 h ∙ get_or-drop x l i 0

pub part-equal : (l m : List ℕ) (x y n : ℕ) → x + n ≤ length l → y + n ≤ length m
    → ((i : ℕ) → i < n → get_or l (x + i) 0 ≡ get_or m (y + i) 0)
    → part l x n ≡ part m y n
part-equal l m x y n h k e =
    ext_get_or 0 (part l x n) (part m y n) (length_part l x n h ∙ sym (length_part m y n k)) place
  where
    place : (i : ℕ) → i < length (part l x n) → get_or (part l x n) i 0 ≡ get_or (part m y n) i 0
    place i c =
        let b : i < n = omega (arith, length_part l x n h) in
        get_or-part l x n i b ∙ e i b ∙ sym (get_or-part m y n i b)

-- A list pasted into another
module _ (l : List ℕ) (x : ℕ) (t : List ℕ) (n : ℕ) (h : x + n ≤ length l) (k : n ≤ length t) where
  abbrev head : List ℕ
  head = take x l ++ take n t

  head-length : length head ≡ x + n
  head-length = length_paste_head l x t n (omega arith) k

  start-length : length (take x l) ≡ x
  start-length = length-take-le x l (omega arith)

  pub get_or_paste_inside : (i : ℕ) → i < n → get_or (paste l x t n) (x + i) 0 ≡ get_or t i 0
  get_or_paste_inside i c =
      get_or-append head (drop (x + n) l) 0 (x + i) (omega (arith, head-length))
      ∙ ap (λ j. get_or head (j + i) 0) (sym start-length)
      ∙ get_or-append-add (take x l) (take n t) i 0
      ∙ get_or-take n t i 0 c

  pub get_or_paste_before : (j : ℕ) → j < x → get_or (paste l x t n) j 0 ≡ get_or l j 0
  get_or_paste_before j c =
      get_or-append head (drop (x + n) l) 0 j (omega (arith, head-length))
      ∙ get_or-append (take x l) (take n t) 0 j (omega (arith, start-length))
      ∙ get_or-take x l j 0 c

  pub get_or_paste_after : (j : ℕ) → x + n ≤ j → get_or (paste l x t n) j 0 ≡ get_or l j 0
  get_or_paste_after j c =
      ap (λ i. get_or (paste l x t n) i 0) (omega (arith, head-length))
      ∙ get_or-append-add head (drop (x + n) l) (j - (x + n)) 0
      ∙ get_or-drop (x + n) l (j - (x + n)) 0
      ∙ ap (λ i. get_or l i 0) (omega arith)

  paste_length : length (paste l x t n) ≡ length l
  paste_length = length-paste l x t n h k

  pub part_paste_inside : part (paste l x t n) x n ≡ take n t
  part_paste_inside =
      part-equal (paste l x t n) t x 0 n (omega (arith, paste_length)) (omega arith)
      (λ i c. get_or_paste_inside i c ∙ ap (λ j. get_or t j 0) (omega arith))

  pub part_paste_before : (y m : ℕ) → y + m ≤ x → part (paste l x t n) y m ≡ part l y m
  part_paste_before y m c =
      part-equal (paste l x t n) l y y m (omega (arith, paste_length)) (omega arith)
      (λ i b. get_or_paste_before (y + i) (omega arith))

  pub part_paste_after :
      (y m : ℕ) → x + n ≤ y → y + m ≤ length l → part (paste l x t n) y m ≡ part l y m
  part_paste_after y m c d =
      part-equal (paste l x t n) l y y m (omega (arith, paste_length)) d
      (λ i b. get_or_paste_after (y + i) (omega arith))

-- Sums, and a + c·b
module _ (F : Field) where
  drop-plus : (a b : List ℕ) → length b ≤ length a → drop (length b) (plus F a b) ≡ drop (length b) a
  unfolding plus
  drop-plus [] [] h = refl
  drop-plus [] (y ∷ b) h = absurd (not-suc-le-zero h)
  drop-plus (x ∷ a) [] h = refl
  drop-plus (x ∷ a) (y ∷ b) h = drop-plus a b (le_of_suc-le-suc h)

  module _ (a : List ℕ) (c : ℕ) (b : List ℕ) where
    pub length-combined : length b ≤ length a → length (combined F a c b) ≡ length a
    length-combined h = length-plus-left F a (scale F c b) (rw length-scale h)

    pub get_or-combined : (i : ℕ) → i < length a → i < length b
        → get_or (combined F a c b) i 0 ≡ F.add (get_or a i 0) (F.mul c (get_or b i 0))
    get_or-combined i h k =
        get_or-plus F a (scale F c b) i h (rw length-scale k)
        ∙ ap (F.add (get_or a i 0)) (get_or-scale F c b i k)

    pub drop-combined : length b ≤ length a → drop (length b) (combined F a c b) ≡ drop (length b) a
    drop-combined h = rw (← length-scale F c b) (drop-plus a (scale F c b) (rw length-scale h))
