-- Words moved down and added, word by word, and the bits of them.
--
--   window-bits       == the bits of a window
--   bit_word, words-beyond == a bit by its word, and those beyond the words
--   Moving, Adding, Exchanging == what the loops keep: the words from a to j − 1 are moved, added, exchanged,
--                        and the others as they were
--   moving_none, moving_more, moving_end == before the first word, one word more, after the last; and so for
--                        the two others
--
-- Assumes nothing.
use Prim.Native.Nat.{ℕ, ◌+◌, ◌*◌, ◌-◌, ◌/◌, ◌%◌, ◌^◌, ◌≤◌, ◌<◌}
use mathlib.Core.Path.{◌≡◌, refl, sym, ap, ap₂, subst, ◌∙◌}
use mathlib.Core.List.{List}
use lib.ListN.{length, get_or, set, length-set, get_or-eq_default}
use lib.Seq.{get_or-set_same, get_or-set_other}
use lib.Bits.{bit_xor}
use native.Mathlib.Nat.{mod-lt, mod-eq_of_lt, div-add-mod'}
use native.Mathlib.Decide.{dec_lt}
use native.Mathlib.Omega.{arith}
use Rattle.bridge.proofs.Lists.Monics.{digit}
use Rattle.bridge.proofs.Binary.WordLists.{digit-below, digit-zero, digit-beyond, digit_xor, digit_shr}
use Rattle.bridge.proofs.Binary.WordLists.{digit_shl_low, digit_shl_high}
use Rattle.massey.specs.words.Words.{bit_of, Window, Room, Moved, Added, Exchanged}

-- A bit and none
left-bit : (a b : ℕ) → a < 2 → b ≡ 0 → (a + b) % 2 ≡ a
left-bit a b l e = let s : a + b ≡ a = omega arith in ap (λ n. n % 2) s ∙ mod-eq_of_lt l

right-bit : (a b : ℕ) → a ≡ 0 → b < 2 → (a + b) % 2 ≡ b
right-bit a b e l = let s : a + b ≡ b = omega arith in ap (λ n. n % 2) s ∙ mod-eq_of_lt l

module _ (l u k : ℕ) (h : l < 2 ^ 64) (b : k < 64) where
  abbrev twice : ℕ
  twice = u * 2 ^ 1 % 2 ^ 64

  pub window-bits : Window l u k (bit_xor (l / 2 ^ k) (twice * 2 ^ (63 - k) % 2 ^ 64))
  window-bits =
      record {
        low = λ r c.
            digit_xor (l / 2 ^ k) (twice * 2 ^ (63 - k) % 2 ^ 64) r
            ∙ left-bit _ _ (digit-below (l / 2 ^ k) r) (none r c)
            ∙ digit_shr l k r;
        high = λ r c d.
            digit_xor (l / 2 ^ k) (twice * 2 ^ (63 - k) % 2 ^ 64) r
            ∙ right-bit _ _ (digit_shr l k r ∙ digit-beyond h d)
            (digit-below (twice * 2 ^ (63 - k) % 2 ^ 64) r)
            ∙ digit_shl_high twice (63 - k) r c (omega arith)
            ∙ digit_shl_high u 1 (r - (63 - k)) (omega arith) (omega arith)
            ∙ ap (digit 2 u) (omega arith);
      }
    where
      -- below the bits of the upper word
      none : (r : ℕ) → k + r < 64 → digit 2 (twice * 2 ^ (63 - k) % 2 ^ 64) r ≡ 0
      none r c = elim (dec_lt r (63 - k)) [
        | yes d ↦ digit_shl_low twice (63 - k) r (omega arith) d
        | no d ↦
            digit_shl_high twice (63 - k) r (omega arith) (omega arith)
            ∙ digit_shl_low u 1 (r - (63 - k)) (omega arith) (omega arith)
      ]

-- A bit by its word
pub bit_word : (w : List ℕ) (j r : ℕ) → r < 64 → bit_of w (64 * j + r) ≡ digit 2 (get_or w j 0) r
bit_word w j r l =
    let e = div-add-mod' (64 * j + r) 64 in
    let k = mod-lt (64 * j + r) {m = 64} (omega arith) in
    ap₂ (λ a b. digit 2 (get_or w a 0) b) (omega arith) (omega arith)

pub words-beyond : {w : List ℕ} → Room w → (i : ℕ) → 4160 ≤ i → bit_of w i ≡ 0
words-beyond {w} h i l = ap (λ v. digit 2 v (i % 64)) word ∙ digit-zero (i % 64)
  where
    word : get_or w (i / 64) 0 ≡ 0
    word =
        let e = div-add-mod' i 64 in
        let k = mod-lt i {m = 64} (omega arith) in
        elim (dec_lt 65 (i / 64)) [
          | yes b ↦ get_or-eq_default w 0 (omega (arith, h.size))
          | no b ↦ let q : i / 64 ≡ 65 = omega arith in ap (λ j. get_or w j 0) q ∙ h.last
        ]

-- The loop that moves
pub record Moving (g : List ℕ) (a j : ℕ) (w : List ℕ) : Type 0 where
  pub size : length w ≡ length g
  pub from : a ≤ j
  pub done : (i : ℕ) → a ≤ i → i < j → get_or w i 0 ≡ get_or g (i + 1) 0
  pub rest : (i : ℕ) → j ≤ i → get_or w i 0 ≡ get_or g i 0

module _ (g : List ℕ) (a : ℕ) where
  pub moving_none : Moving g a a g
  moving_none =
      record {
        size = refl;
        from = omega arith;
        done = λ i l m. absurd (omega arith);
        rest = λ i _. refl;
      }

  pub moving_more :
      {j : ℕ} {w : List ℕ}
      → j < length g
      → Moving g a j w
      → Moving g a (j + 1) (set w j (get_or w (j + 1) 0))
  moving_more {j} {w} b h =
      record {
        size = length-set w j _ ∙ h.size;
        from = omega (arith, h.from);
        done = λ i l m. place i l m (dec_lt i j);
        rest = λ i l. get_or-set_other w j i _ 0 (λ q. omega arith) ∙ h.rest i (omega arith);
      }
    where
      place : (i : ℕ) → a ≤ i → i < j + 1 → Dec (i < j)
          → get_or (set w j (get_or w (j + 1) 0)) i 0 ≡ get_or g (i + 1) 0
      place i l m (yes c) = get_or-set_other w j i _ 0 (λ q. omega arith) ∙ h.done i l c
      place i l m (no c) =
          let q : i ≡ j = omega arith in
          ap (λ i. get_or (set w j (get_or w (j + 1) 0)) i 0) q
          ∙ get_or-set_same w j _ 0 (omega (arith, h.size))
          ∙ h.rest (j + 1) (omega arith)
          ∙ ap (λ i. get_or g (i + 1) 0) (sym q)

  pub moving_end : {j : ℕ} {w : List ℕ} → Room g → 65 ≤ j → j ≤ 65 → Moving g a j w → Moved g a w
  moving_end {j} {w} p b c h =
      record {
        words = words;
        bit = λ i l. place i l (dec_lt i 4160);
      }
    where
      words : Room w
      words = record { size = h.size ∙ p.size; last = h.rest 65 (omega arith) ∙ p.last }

      place : (i : ℕ) → 64 * a ≤ i → Dec (i < 4160) → bit_of w i ≡ bit_of g (i + 64)
      place i l (no d) = words-beyond words i (omega arith) ∙ sym (words-beyond p (i + 64) (omega arith))
      place i l (yes d) =
          let e = div-add-mod' i 64 in
          let k = mod-lt i {m = 64} (omega arith) in
          let q : 64 * (i / 64 + 1) + i % 64 ≡ i + 64 = omega arith in
          ap (λ v. digit 2 v (i % 64)) (h.done (i / 64) (omega arith) (omega arith))
          ∙ sym (bit_word g (i / 64 + 1) (i % 64) k)
          ∙ ap (bit_of g) q

-- A window has the bits of g from k above on
window-bit :
    (g : List ℕ) (j k v : ℕ)
    → Window (get_or g j 0) (get_or g (j + 1) 0) k v
    → k < 64
    → (r : ℕ)
    → r < 64
    → digit 2 v r ≡ bit_of g (64 * j + r + k)
window-bit g j k v h b r l = elim (dec_lt (k + r) 64) [
  | yes c ↦
      let q : 64 * j + (k + r) ≡ 64 * j + r + k = omega arith in
      h.low r c ∙ sym (bit_word g j (k + r) c) ∙ ap (bit_of g) q
  | no c ↦
      let q : 64 * (j + 1) + (k + r - 64) ≡ 64 * j + r + k = omega arith in
      h.high r l (omega arith) ∙ sym (bit_word g (j + 1) (k + r - 64) (omega arith)) ∙ ap (bit_of g) q
]

-- The loop that adds
pub record Adding (f g : List ℕ) (a k j : ℕ) (w : List ℕ) : Type 0 where
  pub size : length w ≡ length f
  pub from : a ≤ j
  pub done : (i r : ℕ)
      → a ≤ i
      → i < j
      → r < 64
      → digit 2 (get_or w i 0) r ≡ (digit 2 (get_or f i 0) r + bit_of g (64 * i + r + k)) % 2
  pub rest : (i : ℕ) → j ≤ i → get_or w i 0 ≡ get_or f i 0

module _ (f g : List ℕ) (a k : ℕ) where
  pub adding_none : Adding f g a k a f
  adding_none =
      record {
        size = refl;
        from = omega arith;
        done = λ i r l m b. absurd (omega arith);
        rest = λ i _. refl;
      }

  pub adding_more :
      {j : ℕ} {w : List ℕ} (v : ℕ)
      → j < length f
      → k < 64
      → Adding f g a k j w
      → Window (get_or g j 0) (get_or g (j + 1) 0) k v
      → Adding f g a k (j + 1) (set w j (bit_xor (get_or w j 0) v))
  adding_more {j} {w} v b c h u =
      record {
        size = length-set w j _ ∙ h.size;
        from = omega (arith, h.from);
        done = λ i r l m d. place i r l m d (dec_lt i j);
        rest = λ i l. get_or-set_other w j i _ 0 (λ q. omega arith) ∙ h.rest i (omega arith);
      }
    where
      place :
          (i r : ℕ)
          → a ≤ i
          → i < j + 1
          → r < 64
          → Dec (i < j)
          → digit 2 (get_or (set w j (bit_xor (get_or w j 0) v)) i 0) r
          ≡ (digit 2 (get_or f i 0) r + bit_of g (64 * i + r + k)) % 2
      place i r l m d (yes e) =
          ap (λ n. digit 2 n r) (get_or-set_other w j i _ 0 (λ q. omega arith)) ∙ h.done i r l e d
      place i r l m d (no e) =
          let q : i ≡ j = omega arith in
          ap (λ i. digit 2 (get_or (set w j (bit_xor (get_or w j 0) v)) i 0) r) q
          ∙ ap (λ n. digit 2 n r) (get_or-set_same w j _ 0 (omega (arith, h.size)))
          ∙ digit_xor (get_or w j 0) v r
          ∙ ap₂ (λ x y. (digit 2 x r + y) % 2) (h.rest j (omega arith)) (window-bit g j k v u c r d)
          ∙ ap (λ i. (digit 2 (get_or f i 0) r + bit_of g (64 * i + r + k)) % 2) (sym q)

  pub adding_end :
      {j : ℕ} {w : List ℕ}
      → Room f
      → Room g
      → 65 ≤ j
      → j ≤ 65
      → Adding f g a k j w
      → Added f g a k w
  adding_end {j} {w} p q b c h = record { words = words; bit = λ i l. place i l (dec_lt i 4160) }
    where
      words : Room w
      words = record { size = h.size ∙ p.size; last = h.rest 65 (omega arith) ∙ p.last }

      place : (i : ℕ) → 64 * a ≤ i → Dec (i < 4160) → bit_of w i ≡ (bit_of f i + bit_of g (i + k)) % 2
      place i l (no d) =
          words-beyond words i (omega arith)
          ∙ sym
          (ap₂ (λ x y. (x + y) % 2) (words-beyond p i (omega arith)) (words-beyond q (i + k) (omega arith)))
      place i l (yes d) =
          let e = div-add-mod' i 64 in
          let m = mod-lt i {m = 64} (omega arith) in
          let z : 64 * (i / 64) + i % 64 + k ≡ i + k = omega arith in
          h.done (i / 64) (i % 64) (omega arith) (omega arith) m
          ∙ ap (λ n. (bit_of f i + bit_of g n) % 2) z

-- The loop that exchanges
pub record Exchanging (f g : List ℕ) (a k j : ℕ) (w u : List ℕ) : Type 0 where
  pub adding : Adding f g a k j w
  pub size : length u ≡ length g
  pub done : (i : ℕ) → a ≤ i → i < j → get_or u i 0 ≡ get_or f i 0
  pub rest : (i : ℕ) → j ≤ i → get_or u i 0 ≡ get_or g i 0

module _ (f g : List ℕ) (a k : ℕ) where
  pub exchanging_none : Exchanging f g a k a f g
  exchanging_none =
      record {
        adding = adding_none f g a k;
        size = refl;
        done = λ i l m. absurd (omega arith);
        rest = λ i _. refl;
      }

  pub exchanging_more :
      {j : ℕ} {w u : List ℕ} (v : ℕ)
      → j < length f
      → j < length g
      → k < 64
      → Exchanging f g a k j w u
      → Window (get_or u j 0) (get_or u (j + 1) 0) k v
      → Exchanging f g a k (j + 1) (set w j (bit_xor (get_or w j 0) v)) (set u j (get_or w j 0))
  exchanging_more {j} {w} {u} v b c d h z =
      record {
        adding =
            adding_more f g a k v b d h.adding
            (subst (λ y. Window (get_or g j 0) y k v) (h.rest (j + 1) (omega arith))
            (subst (λ x. Window x (get_or u (j + 1) 0) k v) (h.rest j (omega arith)) z));
        size = length-set u j _ ∙ h.size;
        done = λ i l m. place i l m (dec_lt i j);
        rest = λ i l. get_or-set_other u j i _ 0 (λ q. omega arith) ∙ h.rest i (omega arith);
      }
    where
      place : (i : ℕ) → a ≤ i → i < j + 1 → Dec (i < j) → get_or (set u j (get_or w j 0)) i 0 ≡ get_or f i 0
      place i l m (yes e) = get_or-set_other u j i _ 0 (λ q. omega arith) ∙ h.done i l e
      place i l m (no e) =
          let q : i ≡ j = omega arith in
          ap (λ i. get_or (set u j (get_or w j 0)) i 0) q
          ∙ get_or-set_same u j _ 0 (omega (arith, h.size))
          ∙ h.adding.rest j (omega arith)
          ∙ ap (λ i. get_or f i 0) (sym q)

  pub exchanging_end :
      {j : ℕ} {w u : List ℕ}
      → Room f
      → Room g
      → 65 ≤ j
      → j ≤ 65
      → Exchanging f g a k j w u
      → Exchanged f g a k w u
  exchanging_end {j} {w} {u} p q b c h =
      record {
        added = adding_end f g a k p q b c h.adding;
        words = words;
        bit = λ i l. place i l (dec_lt i 4160);
      }
    where
      words : Room u
      words = record { size = h.size ∙ q.size; last = h.rest 65 (omega arith) ∙ q.last }

      place : (i : ℕ) → 64 * a ≤ i → Dec (i < 4160) → bit_of u i ≡ bit_of f i
      place i l (no d) = words-beyond words i (omega arith) ∙ sym (words-beyond p i (omega arith))
      place i l (yes d) =
          let e = div-add-mod' i 64 in
          let m = mod-lt i {m = 64} (omega arith) in
          ap (λ v. digit 2 v (i % 64)) (h.done (i / 64) (omega arith) (omega arith))
