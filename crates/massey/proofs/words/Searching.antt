-- The search for the next bit that is 1, word by word.
--
--   rest_of f t        == the bits of the word of t from that of t on, the first of them the highest
--   Searching f n t   == what the loop keeps: the bits of the numbers from n to t − 1 are 0
--   searching_none, searching_more == before the first word, and past a word whose rest is 0
--   searching_found, searching_end == the first bit of a rest that is not 0; all are 0
--
-- Assumes nothing.
use Prim.Native.Nat.{ℕ, suc, ◌+◌, ◌*◌, ◌-◌, ◌/◌, ◌%◌, ◌^◌, ◌≤◌, ◌<◌, min}
use mathlib.Core.Path.{◌≡◌, sym, ap, ◌∙◌}
use mathlib.Core.Logic.{◌≢◌}
use mathlib.Core.List.{List}
use lib.ListN.{get_or}
use lib.Arith.{lt_of_le-ne}
use lib.Count.{count_leading_zeros, leading_top}
use native.Mathlib.Nat.{mod-lt, div-add-mod'}
use native.Mathlib.Decide.{dec_lt}
use native.Mathlib.Omega.{arith}
use Rattle.bridge.proofs.Lists.Monics.{digit}
use Rattle.bridge.proofs.Binary.WordLists.{digit-zero, digit-beyond, digit-top, digit_shl_low, digit_shl_high}
use Rattle.massey.specs.words.Words.{bit_of, NextOne}
use Rattle.massey.proofs.words.Moving.{bit_word}

abbrev pub rest_of : List ℕ → ℕ → ℕ
rest_of f t = get_or f (63 - t / 64) 0 * 2 ^ (t % 64) % 2 ^ 64

pub record Searching (f : List ℕ) (n t : ℕ) : Type 0 where
  pub from : n ≤ t
  pub zeros : (u : ℕ) → n ≤ u → u < t → bit_of f (4095 - u) ≡ 0

pub searching_none : (f : List ℕ) (n : ℕ) → Searching f n n
searching_none f n = record { from = omega arith; zeros = λ u l m. absurd (omega arith) }

module _ {f : List ℕ} {n t : ℕ} (h : Searching f n t) (b : t < 4096) where
  abbrev rest : ℕ
  rest = rest_of f t

  -- the bits of the rest of the word, the first of them the highest
  rest-bit : (u : ℕ) → t ≤ u → u < 64 * (t / 64 + 1) → bit_of f (4095 - u) ≡ digit 2 rest (63 - (u - t))
  rest-bit u l m =
      let e = div-add-mod' t 64 in
      let k = mod-lt t {m = 64} (omega arith) in
      let q : 4095 - u ≡ 64 * (63 - t / 64) + (63 - (u - t) - t % 64) = omega arith in
      ap (bit_of f) q
      ∙ bit_word f (63 - t / 64) (63 - (u - t) - t % 64) (omega arith)
      ∙ sym (digit_shl_high (get_or f (63 - t / 64) 0) (t % 64) (63 - (u - t)) (omega arith) (omega arith))

  pub searching_more : rest ≡ 0 → Searching f n (64 * (t / 64 + 1))
  searching_more z =
      let e = div-add-mod' t 64 in
      let k = mod-lt t {m = 64} (omega arith) in
      record {
        from = omega (arith, h.from);
        zeros = λ u l m. elim (dec_lt u t) [
          | yes c ↦ h.zeros u l c
          | no c ↦
              rest-bit u (omega arith) m
              ∙ ap (λ w. digit 2 w (63 - (u - t))) z
              ∙ digit-zero (63 - (u - t))
        ];
      }

  module _ (p : rest ≢ 0) where
    top : (j : ℕ) × (count_leading_zeros 64 rest + suc j ≡ 64) × (2 ^ j ≤ rest) × (rest < 2 ^ suc j)
    top =
        leading_top 64 rest (lt_of_le-ne {k = rest} (omega arith) (λ e. p (sym e))) (mod-lt _ (omega arith))

    -- the first 1 is in the same word
    same : t + count_leading_zeros 64 rest < 64 * (t / 64 + 1)
    same =
        let e = div-add-mod' t 64 in
        let k = mod-lt t {m = 64} (omega arith) in
        let (j, s, l, m) = top in
        elim (dec_lt j (t % 64)) [
          | no c ↦ omega arith
          | yes c ↦
              let none = digit_shl_low (get_or f (63 - t / 64) 0) (t % 64) j (omega arith) c in
              absurd (omega (arith, none, digit-top j l m))
        ]

    pub searching_found :
        (m : ℕ) {r : ℕ}
        → t < m
        → r ≡ min (t + count_leading_zeros 64 rest) m
        → NextOne f n m r
    searching_found m {r} b q =
        let (j, s, l, k) = top in
        record {
          low = omega (arith, h.from);
          high = omega arith;
          zeros = λ u c d. elim (dec_lt u t) [
            | yes e ↦ h.zeros u c e
            | no e ↦
                rest-bit u (omega arith) (omega (arith, same)) ∙ digit-beyond {d = suc j} k (omega arith)
          ];
          one = λ c.
              let z : r ≡ t + count_leading_zeros 64 rest = omega arith in
              let i : 63 - (t + count_leading_zeros 64 rest - t) ≡ j = omega arith in
              ap (λ r. bit_of f (4095 - r)) z
              ∙ rest-bit (t + count_leading_zeros 64 rest) (omega arith) same
              ∙ ap (digit 2 rest) i
              ∙ digit-top j l k;
        }

pub searching_end : {f : List ℕ} {n t m : ℕ} → Searching f n t → n ≤ m → m ≤ t → NextOne f n m m
searching_end h l b =
    record {
      low = l;
      high = omega arith;
      zeros = λ u c d. h.zeros u c (omega arith);
      one = λ c. absurd (omega arith);
    }
