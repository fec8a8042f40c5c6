-- Terms packed into words, and bits written out.
--
--   PackingWord s w i == w is the word of the first i terms of s, the last of them in its lowest bit
--   packed_none, packed_more, packed-end == the word of no terms, of one more, and of all, moved to the top
--   packed-fits      == one more fits
--   Packing ts f i   == the first 64·i terms are packed, and the words below them and above are 0
--   packing_none, packing_more, packing_end == before the first word, after one more, after the last
--   length-bits, bits-next, bits-all == the bits that are written: their number, one of them, and all
--
-- Assumes nothing.
use Prim.Native.Nat.{ℕ, suc, ◌+◌, ◌*◌, ◌-◌, ◌/◌, ◌%◌, ◌^◌, ◌≤◌, ◌<◌, min}
use mathlib.Core.Path.{◌≡◌, refl, sym, ap, subst, ◌∙◌}
use mathlib.Core.Logic.{◌⊎◌, inl, inr}
use mathlib.Core.List.{List, [], ◌∷◌, ◌++◌, append-nil}
use lib.ListN.{
  length,
  get_or,
  set,
  drop,
  length-set,
  length-drop,
  length-append,
  get_or-append,
  get_or-eq_default,
  drop_of_length-le,
}
use lib.Seq.{drop-drop, drop-append_seam, get_or-set_same, get_or-set_other, get_or-drop, ext_get_or}
use lib.Pow.{pow_mono}
use native.Mathlib.Nat.{mod-lt, div-add-mod', div-one, pow-suc}
use native.Mathlib.Decide.{dec_lt}
use native.Mathlib.Omega.{arith}
use Rattle.bridge.proofs.Sequences.Actions.{length_cut, get_or-cut}
use Rattle.bridge.proofs.Lists.Monics.{digit}
use Rattle.bridge.proofs.Binary.Words.{low_digit, high-digits}
use Rattle.bridge.proofs.Binary.WordLists.{digit-zero, digit_shr, digit_shl_low, digit_shl_high}
use Rattle.massey.specs.words.Words.{bit_of, bits_from, TermsPacked}
use Rattle.massey.proofs.words.Moving.{bit_word}

-- c + 2·w
double-low : (w c : ℕ) → c < 2 → digit 2 (2 * w + c) 0 ≡ c
unfolding digit
double-low w c l =
    let e : 2 * w + c ≡ c + 2 * w = omega arith in
    ap (λ n. n % 2) (div-one (2 * w + c) ∙ e) ∙ low_digit 2 c w l

double-high : (w c r : ℕ) → c < 2 → digit 2 (2 * w + c) (suc r) ≡ digit 2 w r
double-high w c r l =
    let e : 2 * w + c ≡ c + 2 * w = omega arith in
    let f : suc r ≡ 1 + r = omega arith in
    ap (digit 2 (2 * w + c)) f
    ∙ sym (digit_shr (2 * w + c) 1 r)
    ∙ ap (λ n. digit 2 n r) (ap (λ n. n / 2) e ∙ high-digits 2 c w l)

-- The word of the first terms
pub record PackingWord (s : List ℕ) (w i : ℕ) : Type 0 where
  pub small : w < 2 ^ i
  pub bit : (j : ℕ) → j < i → digit 2 w (i - 1 - j) ≡ get_or s j 0 % 2

pub packed_none : (s : List ℕ) → PackingWord s 0 0
packed_none s = record { small = omega arith; bit = λ j l. absurd (omega arith) }

module _ {s : List ℕ} {w i : ℕ} (h : PackingWord s w i) where
  abbrev c : ℕ
  c = get_or s i 0 % 2

  c-small : c < 2
  c-small = mod-lt (get_or s i 0) (omega arith)

  packed-size : 2 * w + c < 2 ^ (i + 1)
  packed-size =
      let e : i + 1 ≡ suc i = omega arith in
      subst (λ n. 2 * w + c < 2 ^ n) (sym e) (omega (arith, pow-suc 2 i, h.small, c-small))

  pub packed-fits : i < 64 → 2 * w + c < 2 ^ 64
  packed-fits b = let k : 2 ^ (i + 1) ≤ 2 ^ 64 = pow_mono {j = 64} (omega arith) in omega (arith, packed-size)

  pub packed_more : PackingWord s (2 * w + c) (i + 1)
  packed_more = record { small = packed-size; bit = λ j l. place j l (dec_lt j i) }
    where
      place : (j : ℕ) → j < i + 1 → Dec (j < i) → digit 2 (2 * w + c) (i + 1 - 1 - j) ≡ get_or s j 0 % 2
      place j l (yes b) =
          let e : i + 1 - 1 - j ≡ suc (i - 1 - j) = omega arith in
          ap (digit 2 (2 * w + c)) e ∙ double-high w c (i - 1 - j) c-small ∙ h.bit j b
      place j l (no b) =
          let e : i + 1 - 1 - j ≡ 0 = omega arith in
          let q : i ≡ j = omega arith in
          ap (digit 2 (2 * w + c)) e ∙ double-low w c c-small ∙ ap (λ j. get_or s j 0 % 2) q

  pub packed-end : i ≡ length s → i ≤ 64 → (j : ℕ) → j < 64
      → digit 2 (w * 2 ^ (64 - length s) % 2 ^ 64) (63 - j) ≡ get_or s j 0 % 2
  packed-end e b j l = elim (dec_lt j i) [
    | yes d ↦
        digit_shl_high w (64 - length s) (63 - j) (omega arith) (omega arith)
        ∙ ap (digit 2 w) (omega arith)
        ∙ h.bit j d
    | no d ↦
        digit_shl_low w (64 - length s) (63 - j) (omega arith) (omega arith)
        ∙ sym (ap (λ n. n % 2) (get_or-eq_default s 0 (omega arith)))
  ]

-- Words one after the other
length-zero : (l : List ℕ) → length l ≡ 0 → l ≡ []
length-zero [] e = refl
length-zero (a ∷ l) e = absurd (omega arith)

pub record Packing (ts f : List ℕ) (i : ℕ) : Type 0 where
  pub most : 64 * i < length ts + 64
  pub size : length f ≡ 66
  pub done : (n : ℕ) → n < 64 * i → bit_of f (4095 - n) ≡ get_or ts n 0 % 2
  pub below : (j : ℕ) → j + i < 64 → get_or f j 0 ≡ 0
  pub above : (j : ℕ) → 64 ≤ j → get_or f j 0 ≡ 0

pub packing_none : (ts f : List ℕ) → length f ≡ 66 → ((j : ℕ) → get_or f j 0 ≡ 0) → Packing ts f 0
packing_none ts f l z =
    record {
      most = omega arith;
      size = l;
      done = λ n b. absurd (omega arith);
      below = λ j _. z j;
      above = λ j _. z j;
    }

-- what the iterator over blocks of 64 has left
pub record PackingBlocks (ts f rest : List ℕ) (size i : ℕ) : Type 0 where
  pub packing : Packing ts f i
  pub left : rest ≡ drop (64 * i) ts
  pub of : size ≡ 64

module _ {ts f : List ℕ} {i : ℕ} (h : Packing ts f i) where
  pub packing_more :
      (v : ℕ) (block rest : List ℕ)
      → i < 64
      → 64 * i < length ts
      → drop (64 * i) ts ≡ block ++ rest
      → (length block ≡ 64) ⊎ (length rest ≡ 0)
      → length block ≤ 64
      → ((r : ℕ) → r < 64 → digit 2 v (63 - r) ≡ get_or block r 0 % 2)
      → Packing ts (set f (63 - i) v) (i + 1)
  packing_more v block rest b m e full few d =
      record {
        most = omega arith;
        size = length-set f (63 - i) v ∙ h.size;
        done = λ n l. place n l (dec_lt n (64 * i));
        below = λ j l. get_or-set_other f (63 - i) j v 0 (λ q. omega arith) ∙ h.below j (omega arith);
        above = λ j l. get_or-set_other f (63 - i) j v 0 (λ q. omega arith) ∙ h.above j l;
      }
    where
      block-term : (r : ℕ) → (length block ≡ 64) ⊎ (length rest ≡ 0) → r < 64
          → get_or block r 0 ≡ get_or ts (64 * i + r) 0
      block-term r c l = sym (before c) ∙ ap (λ t. get_or t r 0) (sym e) ∙ get_or-drop (64 * i) ts r 0
        where
          before : (length block ≡ 64) ⊎ (length rest ≡ 0) → get_or (block ++ rest) r 0 ≡ get_or block r 0
          before (inl k) = get_or-append block rest 0 r (omega arith)
          before (inr k) =
              ap (λ t. get_or (block ++ t) r 0) (length-zero rest k)
              ∙ ap (λ t. get_or t r 0) (append-nil block)

      place :
          (n : ℕ)
          → n < 64 * (i + 1)
          → Dec (n < 64 * i)
          → bit_of (set f (63 - i) v) (4095 - n) ≡ get_or ts n 0 % 2
      place n l (yes k) =
          let o = div-add-mod' (4095 - n) 64 in
          let u = mod-lt (4095 - n) {m = 64} (omega arith) in
          ap (λ w. digit 2 w ((4095 - n) % 64))
          (get_or-set_other f (63 - i) ((4095 - n) / 64) v 0 (λ q. omega arith))
          ∙ h.done n k
      place n l (no k) =
          let r = n - 64 * i in
          let q : 4095 - n ≡ 64 * (63 - i) + (63 - r) = omega arith in
          let z : 64 * i + r ≡ n = omega arith in
          ap (bit_of (set f (63 - i) v)) q
          ∙ bit_word (set f (63 - i) v) (63 - i) (63 - r) (omega arith)
          ∙ ap (λ w. digit 2 w (63 - r)) (get_or-set_same f (63 - i) v 0 (omega (arith, h.size)))
          ∙ d r (omega arith)
          ∙ ap (λ n. n % 2) (block-term r full (omega arith))
          ∙ ap (λ j. get_or ts j 0 % 2) z

  pub packing_end : length ts ≤ 64 * i → TermsPacked ts f
  packing_end l =
      record {
        size = h.size;
        bit = λ n b. elim (dec_lt n (64 * i)) [
          | yes c ↦ h.done n c
          | no c ↦
              let o = div-add-mod' (4095 - n) 64 in
              let u = mod-lt (4095 - n) {m = 64} (omega arith) in
              ap (λ w. digit 2 w ((4095 - n) % 64)) (h.below ((4095 - n) / 64) (omega arith))
              ∙ digit-zero ((4095 - n) % 64)
              ∙ sym (ap (λ n. n % 2) (get_or-eq_default ts 0 {n = n} (omega arith)))
        ];
        above = h.above;
      }

-- block after block
pub blocks_none :
    (ts f : List ℕ) {s : List ℕ} {size i : ℕ}
    → length f ≡ 66
    → ((j : ℕ) → get_or f j 0 ≡ 0)
    → s ≡ ts
    → size ≡ 64
    → i ≡ 0
    → PackingBlocks ts f s size i
blocks_none ts f l z e q n =
    record {
      packing = rw n (packing_none ts f l z);
      left = rw n e;
      of = q;
    }

pub blocks_more :
    {ts f s : List ℕ} {size i : ℕ}
    → PackingBlocks ts f s size i
    → length ts ≤ 4096
    → (v : ℕ) (block rest : List ℕ) {size' : ℕ}
    → s ≡ block ++ rest
    → length block ≡ min size (length s)
    → 0 < length s
    → size' ≡ size
    → ((r : ℕ) → r < 64 → digit 2 v (63 - r) ≡ get_or block r 0 % 2)
    → PackingBlocks ts (set f (63 - i) v) rest size' (i + 1)
blocks_more {ts} {f} {s} {size} {i} h l v block rest e k b q d =
    let n = length-append block rest in
    let a = ap length e in
    let c = ap length h.left ∙ length-drop (64 * i) ts in
    let o = h.of in
    record {
      packing =
          packing_more h.packing v block rest (omega arith) (omega arith) (sym h.left ∙ e) full (omega arith)
          d;
      left = sym (ap (λ m. drop m ts) (omega arith) ∙ after);
      of = q ∙ h.of;
    }
  where
    full : (length block ≡ 64) ⊎ (length rest ≡ 0)
    full =
        elim (dec_lt (length block) 64) [
          | yes m ↦
              inr
              (omega (
                arith,
                length-append block rest,
                ap length e,
                h.of,
              ))
          | no m ↦ inl (omega (arith, h.of))
        ]

    past : (length block ≡ 64) ⊎ (length rest ≡ 0) → drop 64 (block ++ rest) ≡ rest
    past (inl n) = ap (λ m. drop m (block ++ rest)) (sym n) ∙ drop-append_seam block rest
    past (inr n) =
        drop_of_length-le (block ++ rest) {i = 64} (omega (arith, length-append block rest, h.of))
        ∙ sym (length-zero rest n)

    after : drop (64 * i + 64) ts ≡ rest
    after = sym (drop-drop 64 (64 * i) ts) ∙ ap (drop 64) (sym h.left ∙ e) ∙ past full

pub blocks_few :
    {ts f s : List ℕ} {size i j : ℕ}
    → PackingBlocks ts f s size i
    → length ts ≤ 4096
    → 0 < length s
    → j ≡ i
    → j ≤ 63
blocks_few {ts} {i = i} h l b e = omega (arith, ap length h.left, length-drop (64 * i) ts)

pub blocks_end :
    {ts f s : List ℕ} {size i : ℕ} → PackingBlocks ts f s size i → length s ≡ 0 → TermsPacked ts f
blocks_end {ts} {i = i} h e =
    packing_end h.packing (omega (arith, ap length h.left, length-drop (64 * i) ts))

-- Bits written out
pub length-bits : (w : List ℕ) (o n : ℕ) → length (bits_from w o n) ≡ n
unfolding bits_from
length-bits w o n = length_cut _ o n

pub bits-next : (w : List ℕ) (o n i : ℕ) → i < n → bit_of w (o + i) ≡ get_or (bits_from w o n) i 0
unfolding bits_from
bits-next w o n i l = sym (get_or-cut _ o n i l)

pub bits-all :
    (w f : List ℕ) (o : ℕ)
    → ((i : ℕ) → i < length f → bit_of w (o + i) ≡ get_or f i 0)
    → bits_from w o (length f) ≡ f
bits-all w f o h =
    ext_get_or 0 (bits_from w o (length f)) f (length-bits w o (length f))
    (λ i b.
    let c : i < length f = omega (arith, length-bits w o (length f)) in
    sym (bits-next w o (length f) i c) ∙ h i c)
