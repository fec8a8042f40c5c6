-- Lists with zeros after them, as they stand in lent bytes, and lists written into a part of another.
--
--   pad k l         == the first k numbers of l, with zeros after l where it is shorter; k numbers always
--   get_or-pad, length-pad, pad-equal == it has the numbers of l at its k places; what has them is that list
--   pad_self, pad-short, pad-nil == it is l for k = length l, the first k numbers of a longer list, and zeros
--                      alone for the empty list
--   pad-take, pad-drop, pad-split, pad-append, pad-after == its parts
--   pad-leading     == writing 1 in place of the first zero puts 1 at the end of l
--   get_or-zeros-after == zeros after a list are not seen when it is read past its end
--   part_paste      == a list written into a part of w changes that part as if it stood alone
--   paste_pad       == a list written into one with zeros after it, in full
--   get_or-plus, get_or-scale, length-plus-left == sums and multiples by places, over any `Field`
--   sum-length, sum-at == a + c·b for a list b with zeros after it
--
-- `paste d s v n` of `lib.Seq` is d with the first n numbers of v from place s on.
-- Assumes nothing.
use Prim.Native.Nat.{ℕ, zero, suc, ◌+◌, ◌-◌, ◌≤◌, ◌<◌}
use mathlib.Core.Path.{◌≡◌, refl, sym, ap, ap₂, ◌∙◌}
use mathlib.Core.List.{List, [], ◌∷◌, ◌++◌, append_assoc}
use native.Mathlib.Nat.{not-suc-le-zero, le_of_suc-le-suc}
use native.Mathlib.Nat as ℕ
use native.Mathlib.Omega.{arith}
use lib.ListN.{length, get_or, take, drop, set, replicate, length-append, length-take, length-drop}
use lib.ListN.{get_or-eq_default, take-append-drop}
use lib.Seq.{ext_get_or, get_or-take, get_or-drop, length-take-le, set-append_seam, append_snoc, take_all}
use lib.Seq.{take_at}
use lib.Seq.{drop_at, drop-drop, take-add, take-take, drop-append-le, paste, length-paste}
use Rattle.meaning.specs.Field.{Field}
use Rattle.meaning.specs.Polynomial.{plus, scale}
use Rattle.meaning.specs.Sequence.{known, cut}
use Rattle.bridge.proofs.Lists.Polynomials.{length-scale}
use Rattle.bridge.proofs.Sequences.Actions.{length_cut, get_or-cut, cut-take, cut-drop, cut-append}
use Rattle.bridge.proofs.Sequences.Actions.{cut-known}
use Rattle.bridge.proofs.Sequences.Actions.{cut-equal, known-get_or}

pub get_or-zeros-after : (f : List ℕ) (n i : ℕ) → get_or (f ++ replicate n 0) i 0 ≡ get_or f i 0
get_or-zeros-after [] zero i = refl
get_or-zeros-after [] (suc n) zero = refl
get_or-zeros-after [] (suc n) (suc i) = get_or-zeros-after [] n i
get_or-zeros-after (a ∷ f) n zero = refl
get_or-zeros-after (a ∷ f) n (suc i) = get_or-zeros-after f n i

-- A list with zeros after it
abbrev pub pad : ℕ → List ℕ → List ℕ
pad k l = cut (known l) 0 k

pub get_or-pad : (k : ℕ) (l : List ℕ) (i : ℕ) → i < k → get_or (pad k l) i 0 ≡ get_or l i 0
get_or-pad k l i h = get_or-cut (known l) 0 k i h ∙ known-get_or l (0 + i) ∙ ap (λ j. get_or l j 0)
    (ℕ.zero-add i)

pub length-pad : (k : ℕ) (l : List ℕ) → length (pad k l) ≡ k
length-pad k l = length_cut (known l) 0 k

-- what has the same numbers is the list with zeros after it
pub pad-equal :
    (k : ℕ) (l h : List ℕ)
    → length h ≡ k
    → ((i : ℕ) → i < k → get_or h i 0 ≡ get_or l i 0)
    → h ≡ pad k l
pad-equal k l h e same =
    ext_get_or 0 h (pad k l) (e ∙ sym (length-pad k l))
    (λ i b. let c : i < k = rw e at b in same i c ∙ sym (get_or-pad k l i c))

pub pad_self : (l : List ℕ) → pad (length l) l ≡ l
pad_self l = cut-known l

pub pad-take : (k n : ℕ) (l : List ℕ) → k ≤ n → take k (pad n l) ≡ pad k l
pad-take k n l h = cut-take (known l) 0 k n h

pub pad-drop : (s k n : ℕ) (l : List ℕ) → s + k ≤ n → take k (drop s (pad n l)) ≡ pad k (drop s l)
pad-drop s k n l h =
    pad-equal k (drop s l) (take k (drop s (pad n l)))
    (simp (length-take, length-drop, length_cut) (omega arith))
    (λ i b.
    get_or-take k (drop s (pad n l)) i 0 b
    ∙ get_or-drop s (pad n l) i 0
    ∙ get_or-pad n l (s + i) (omega arith)
    ∙ sym (get_or-drop s l i 0))

pub pad-split : (s k : ℕ) (l : List ℕ) → pad (s + k) l ≡ pad s l ++ pad k (drop s l)
pad-split s k l =
    cut-append (known l) 0 s k
    ∙ ap (◌++◌ (pad s l)) (cut-equal (known l) (known (drop s l)) (0 + s) 0 k (λ i _. place i))
  where
    place : (i : ℕ) → known l (0 + s + i) ≡ known (drop s l) (0 + i)
    place i =
        known-get_or l (0 + s + i)
        ∙ ap (λ j. get_or l j 0) (omega arith)
        ∙ sym (known-get_or (drop s l) (0 + i) ∙ get_or-drop s l (0 + i) 0)

pub pad-append : (k : ℕ) (l : List ℕ) → length l ≤ k → pad k l ≡ l ++ pad (k - length l) []
pad-append k l h =
    let e : k ≡ length l + (k - length l) = omega arith in
    ap (cut (known l) 0) e
    ∙ cut-append (known l) 0 (length l) (k - length l)
    ∙ ap₂ ◌++◌ (cut-known l) (cut-equal (known l) (known []) (0 + length l) 0 (k - length l) zeros)
  where
    zeros : (i : ℕ) → i < k - length l → known l (0 + length l + i) ≡ known [] (0 + i)
    zeros i b =
        known-get_or l (0 + length l + i)
        ∙ get_or-eq_default l 0 (omega arith)
        ∙ sym (known-get_or [] (0 + i))

pad-nil-suc : (m : ℕ) → pad (suc m) [] ≡ 0 ∷ pad m []
unfolding cut known
pad-nil-suc m = ap (◌∷◌ 0) (cut-equal (known []) (known []) 1 0 m (λ i _. refl))

pub pad-nil : (k : ℕ) → pad k [] ≡ replicate k 0
unfolding cut
pad-nil zero = refl
pad-nil (suc k) = pad-nil-suc k ∙ ap (◌∷◌ 0) (pad-nil k)

-- the leading 1 is written
pub pad-leading : (k : ℕ) (l : List ℕ) → length l < k → set (pad k l) (length l) 1 ≡ pad k (l ++ (1 ∷ []))
pad-leading k l h =
    ap (λ p. set p (length l) 1)
    (pad-append k l (omega arith) ∙ ap (◌++◌ l) (ap (λ n. pad n []) e ∙ pad-nil-suc m))
    ∙ set-append_seam l 0 (pad m []) 1
    ∙ sym (append_snoc l 1 (pad m []))
    ∙ ap (λ n. l ++ (1 ∷ []) ++ pad n []) f
    ∙ sym (pad-append k (l ++ (1 ∷ [])) (omega (arith, length-append l (1 ∷ []))))
  where
    m : ℕ
    m = k - suc (length l)

    e : k - length l ≡ suc (k - suc (length l))
    e = omega arith

    f : k - suc (length l) ≡ k - length (l ++ (1 ∷ []))
    f = omega (arith, length-append l (1 ∷ []))

-- the first numbers of a list that is long enough, and what comes after one that is not
pub pad-short : (k : ℕ) (l : List ℕ) → k ≤ length l → pad k l ≡ take k l
pad-short k l h = sym (pad-take k (length l) l h) ∙ ap (take k) (pad_self l)

pub pad-after : (m k : ℕ) (l : List ℕ) → length l ≤ m → drop m (pad k l) ≡ pad (k - m) []
pad-after m k l h =
    cut-drop (known l) 0 m k
    ∙ cut-equal (known l) (known []) (0 + m) 0 (k - m)
    (λ i _.
    known-get_or l (0 + m + i) ∙ get_or-eq_default l 0 (omega arith) ∙ sym (known-get_or [] (0 + i)))

-- The first n numbers of v written from place s on into a part of w, the numbers from x on or the first k
module _ (w v : List ℕ) (s n : ℕ) where
  pub drop_paste_within :
      (x : ℕ) → x ≤ length w → drop x (paste w (x + s) v n) ≡ paste (drop x w) s v n
  drop_paste_within x l =
      ap (drop x)
      (ap₂ (λ a b. a ++ take n v ++ b) front back
      ∙ ap (λ a. a ++ drop (s + n) (drop x w)) (append_assoc (take x w) (take s (drop x w)) (take n v))
      ∙ append_assoc (take x w) (take s (drop x w) ++ take n v) (drop (s + n) (drop x w)))
      ∙ drop_at (take x w) (paste (drop x w) s v n) x (length-take-le x w l)
    where
      front : take (x + s) w ≡ take x w ++ take s (drop x w)
      front = take-add x s w

      back : drop (x + s + n) w ≡ drop (s + n) (drop x w)
      back = ap (λ m. drop m w) (ℕ.add_assoc x s n) ∙ sym (drop-drop (s + n) x w)

  pub take_paste_within :
      (k : ℕ) → k ≤ length w → s + n ≤ k → n ≤ length v → take k (paste w s v n) ≡ paste (take k w) s v n
  take_paste_within k l h b =
      ap (take k)
      (ap₂ (λ a c. a ++ take n v ++ c) (sym (take-take s k w (omega arith))) back
      ∙ sym (append_assoc (take s (take k w) ++ take n v) (drop (s + n) (take k w)) (drop k w)))
      ∙ take_at (paste (take k w) s v n) (drop k w) k
      (length-paste (take k w) s v n (omega (arith, size)) b ∙ size)
    where
      size : length (take k w) ≡ k
      size = length-take-le k w l

      back : drop (s + n) w ≡ drop (s + n) (take k w) ++ drop k w
      back =
          ap (drop (s + n)) (sym (take-append-drop k w))
          ∙ drop-append-le (s + n) (take k w) (drop k w) (omega (arith, size))

pub part_paste :
    (w v : List ℕ) (s n x k : ℕ)
    → x + k ≤ length w
    → s + n ≤ k
    → n ≤ length v
    → take k (drop x (paste w (x + s) v n)) ≡ paste (take k (drop x w)) s v n
part_paste w v s n x k l h b =
    ap (take k) (drop_paste_within w v s n x (omega arith))
    ∙ take_paste_within (drop x w) v s n k (omega (arith, length-drop x w)) h b

-- a list written from place s on, with n numbers: into a list with zeros after it
pub paste_pad :
    (k s n : ℕ) (l h v : List ℕ)
    → length v ≡ n
    → take s h ++ v ≡ l
    → drop (s + n) h ≡ pad (k - length l) []
    → length l ≤ k
    → paste h s v n ≡ pad k l
paste_pad k s n l h v e p q b =
    ap₂ (λ u w. take s h ++ u ++ w) (take_all n v (ℕ.le_of_eq e)) q
    ∙ ap (λ u. u ++ pad (k - length l) []) p
    ∙ sym (pad-append k l b)

-- Sums by places
module _ (F : Field) where
  pub get_or-plus :
      (f g : List ℕ) (i : ℕ)
      → i < length f
      → i < length g
      → get_or (plus F f g) i 0 ≡ F.add (get_or f i 0) (get_or g i 0)
  unfolding plus
  get_or-plus [] g i l k = absurd (not-suc-le-zero l)
  get_or-plus (a ∷ f) [] i l k = absurd (not-suc-le-zero k)
  get_or-plus (a ∷ f) (b ∷ g) zero l k = refl
  get_or-plus (a ∷ f) (b ∷ g) (suc i) l k = get_or-plus f g i (le_of_suc-le-suc l) (le_of_suc-le-suc k)

  pub length-plus-left : (f g : List ℕ) → length g ≤ length f → length (plus F f g) ≡ length f
  unfolding plus
  length-plus-left [] [] l = refl
  length-plus-left [] (b ∷ g) l = absurd (not-suc-le-zero l)
  length-plus-left (a ∷ f) [] l = refl
  length-plus-left (a ∷ f) (b ∷ g) l = ap suc (length-plus-left f g (le_of_suc-le-suc l))

  pub get_or-scale :
      (c : ℕ) (f : List ℕ) (i : ℕ) → i < length f → get_or (scale F c f) i 0 ≡ F.mul c (get_or f i 0)
  unfolding scale
  get_or-scale c [] i l = absurd (not-suc-le-zero l)
  get_or-scale c (a ∷ f) zero l = refl
  get_or-scale c (a ∷ f) (suc i) l = get_or-scale c f i (le_of_suc-le-suc l)

  -- c·l with zeros after l, and what is added to it
  pub padded-length : (c k : ℕ) (l : List ℕ) → length (scale F c (pad k l)) ≡ k
  padded-length c k l = length-scale F c (pad k l) ∙ length-pad k l

  pub padded-at :
      (c k : ℕ) (l : List ℕ) (i : ℕ) → i < k → get_or (scale F c (pad k l)) i 0 ≡ F.mul c (get_or l i 0)
  padded-at c k l i b = get_or-scale c (pad k l) i (rw length_cut b) ∙ ap (F.mul c) (get_or-pad k l i b)

  pub sum-length : (c : ℕ) (f g : List ℕ) (k : ℕ) → length f ≡ k → length (plus F f (scale F c (pad k g))) ≡ k
  sum-length c f g k e = length-plus-left f (scale F c (pad k g)) (omega (arith, padded-length c k g)) ∙ e

  pub sum-at :
      (c : ℕ) (f g : List ℕ) (k i : ℕ)
      → length f ≡ k
      → i < k
      → get_or (plus F f (scale F c (pad k g))) i 0 ≡ F.add (get_or f i 0) (F.mul c (get_or g i 0))
  sum-at c f g k i e b =
      get_or-plus f (scale F c (pad k g)) i (omega arith) (omega (arith, padded-length c k g))
      ∙ ap (F.add (get_or f i 0)) (padded-at c k g i b)
