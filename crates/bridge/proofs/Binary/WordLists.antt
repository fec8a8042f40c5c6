-- Bits of words of 64 bits, and polynomials over GF(2) as lists of bits.
--
--   digit_xor, digit_shr, digit-mod == the bits of an exclusive or, and of a quotient and a remainder by a
--                      power of 2
--   digit_shl_low, digit_shl_high == those of a word shifted to the left
--   xor_low, one_bit == the lowest bit of an exclusive or; a number below 2 other than 0 is 1
--   digit-below, digit-beyond, digit-zero, digit-top == a bit is below 2, 0 past the end of a word and in 0,
--                      and 1 where it is the highest
--   raised s g       == x^s·g: s zeros and then g
--   raised-before, raised-within, raised_at == its numbers
--   raised-none, raised-same == x^0·g is g, and so is x^s·g where g is empty
--   length-raised, act-raised == its length, and how it acts on a sequence
--
-- Assumes nothing.
use Prim.Native.Nat.{ℕ, zero, suc, ◌+◌, ◌*◌, ◌-◌, ◌/◌, ◌%◌, ◌^◌, ◌≤◌, ◌<◌}
use mathlib.Core.Path.{◌≡◌, refl, sym, ap, ap₂, ◌∙◌}
use mathlib.Core.Logic.{◌≢◌}
use mathlib.Core.List.{List, [], ◌∷◌, ◌++◌}
use lib.ListN.{length, get_or, replicate, length-append, length-replicate}
use lib.Seq.{get_or-append-add}
use lib.Bits.{bit_xor, xor_step, xor_shr, shifted_even}
use lib.Pow.{pow-add, pow_mono, shl-shr, shr-shr, field, mod-mod-pow}
use lib.Arith.{digits_mod}
use native.Mathlib.Nat.{mod-lt, div-eq_of_lt, pow-suc, le-div_iff_mul-le}
use native.Mathlib.Nat.{mul_assoc, zero-div, div-lt_iff_lt-mul}
use native.Mathlib.Decide.{dec_lt}
use native.Mathlib.Omega.{arith}
use Rattle.meaning.specs.Field.{prime}
use Rattle.meaning.specs.Sequence.{Sequence, act_at}
use Rattle.bridge.proofs.Basics.Interpretation.{number-add-zero, number-zero-mul}
use Rattle.bridge.proofs.Basics.Interpretation.{number-zero-add, size-positive}
use Rattle.bridge.proofs.Sequences.Actions.{act_at-nil, act_at-cons, act_at-below}
use Rattle.bridge.proofs.Sequences.Continuations.{act_at-append}
use Rattle.bridge.proofs.Lists.Monics.{digit}
use Rattle.bridge.proofs.Binary.Bits.{differ-bits, binary-is_field}

-- The bits of a word
pub digit-below : (w r : ℕ) → digit 2 w r < 2
unfolding digit
digit-below w r = mod-lt (w / 2 ^ r) (omega arith)

pub digit-zero : (r : ℕ) → digit 2 0 r ≡ 0
unfolding digit
digit-zero r = ap (λ n. n % 2) (zero-div (2 ^ r))

pub digit-beyond : {w d r : ℕ} → w < 2 ^ d → d ≤ r → digit 2 w r ≡ 0
unfolding digit
digit-beyond {w} {d} {r} l h =
    ap (λ n. n % 2) (div-eq_of_lt (let k : 2 ^ d ≤ 2 ^ r = pow_mono {i = d} h in omega arith))

pub digit-top : {w : ℕ} (j : ℕ) → 2 ^ j ≤ w → w < 2 ^ suc j → digit 2 w j ≡ 1
unfolding digit
digit-top {w} j l h = ap (λ n. n % 2) top-bit-one
  where
    top-bit-one : w / 2 ^ j ≡ 1
    top-bit-one =
        let p : 0 < 2 ^ j = pow_mono {i = 0} {j = j} (omega arith) in
        let a : 1 ≤ w / 2 ^ j = (le-div_iff_mul-le p).1 (omega arith) in
        let b : w / 2 ^ j < 2 = (div-lt_iff_lt-mul p).1 (omega (arith, pow-suc 2 j)) in
        omega arith

-- the lowest bit
pub xor_low : (a b : ℕ) → bit_xor a b % 2 ≡ (a % 2 + b % 2) % 2
xor_low a b =
    let l = mod-lt a {m = 2} (omega arith) in
    let k = mod-lt b {m = 2} (omega arith) in
    let e = differ-bits (a % 2) (b % 2) l k in
    ap (λ n. n % 2) (xor_step a b)
    ∙ digits_mod (bit_xor (a / 2) (b / 2)) (omega (arith, e, mod-lt (a % 2 + b % 2) {m = 2} (omega arith)))
    ∙ e

pub one_bit : (a : ℕ) → a < 2 → a ≢ 0 → a ≡ 1
one_bit zero l h = absurd (h refl)
one_bit (suc zero) l h = refl
one_bit (suc (suc a)) l h = absurd (omega arith)

pub digit_xor : (u v r : ℕ) → digit 2 (bit_xor u v) r ≡ (digit 2 u r + digit 2 v r) % 2
unfolding digit
digit_xor u v r = ap (λ n. n % 2) (xor_shr u v r) ∙ xor_low (u / 2 ^ r) (v / 2 ^ r)

pub digit_shr : (w k r : ℕ) → digit 2 (w / 2 ^ k) r ≡ digit 2 w (k + r)
unfolding digit
digit_shr w k r = ap (λ n. n % 2) (shr-shr w k r)

digit-mod : (w d r : ℕ) → r < d → digit 2 (w % 2 ^ d) r ≡ digit 2 w r
unfolding digit
digit-mod w d r l =
    let e : d ≡ d - r - 1 + 1 + r = omega arith in
    ap (λ d. w % 2 ^ d / 2 ^ r % 2) e
    ∙ ap (λ n. n % 2) (field w (d - r - 1 + 1) r)
    ∙ mod-mod-pow (w / 2 ^ r) (d - r - 1) 1

digit-times-high : (w k r : ℕ) → k ≤ r → digit 2 (w * 2 ^ k) r ≡ digit 2 w (r - k)
digit-times-high w k r l =
    let e : r ≡ k + (r - k) = omega arith in
    ap (digit 2 (w * 2 ^ k)) e
    ∙ sym (digit_shr (w * 2 ^ k) k (r - k))
    ∙ ap (λ n. digit 2 n (r - k)) (shl-shr w k)

digit-times-low : (w k r : ℕ) → r < k → digit 2 (w * 2 ^ k) r ≡ 0
unfolding digit
digit-times-low w k r l =
    let e : k ≡ suc (k - r - 1) + r = omega arith in
    ap (λ n. n / 2 ^ r % 2)
    (ap (λ k. w * 2 ^ k) e
    ∙ ap (λ n. w * n) (pow-add 2 (suc (k - r - 1)) r)
    ∙ sym (mul_assoc w (2 ^ suc (k - r - 1)) (2 ^ r)))
    ∙ ap (λ n. n % 2) (shl-shr (w * 2 ^ suc (k - r - 1)) r)
    ∙ shifted_even w (k - r - 1)

module _ (w k r : ℕ) (b : r < 64) where
  pub digit_shl_low : r < k → digit 2 (w * 2 ^ k % 2 ^ 64) r ≡ 0
  digit_shl_low l = digit-mod (w * 2 ^ k) 64 r b ∙ digit-times-low w k r l

  pub digit_shl_high : k ≤ r → digit 2 (w * 2 ^ k % 2 ^ 64) r ≡ digit 2 w (r - k)
  digit_shl_high l = digit-mod (w * 2 ^ k) 64 r b ∙ digit-times-high w k r l

-- x^s·g
unfoldable pub raised : ℕ → List ℕ → List ℕ
raised s g = replicate s 0 ++ g

pub raised-before : (s : ℕ) (g : List ℕ) (i : ℕ) → i < s → get_or (raised s g) i 0 ≡ 0
unfolding raised
raised-before zero g i l = absurd (omega arith)
raised-before (suc s) g zero l = refl
raised-before (suc s) g (suc i) l = raised-before s g i (omega arith)

raised-within : (s : ℕ) (g : List ℕ) (i : ℕ) → get_or (raised s g) (s + i) 0 ≡ get_or g i 0
unfolding raised
raised-within s g i =
    ap (λ n. get_or (replicate s 0 ++ g) (n + i) 0) (sym (length-replicate s 0))
    ∙ get_or-append-add (replicate s 0) g i 0

pub raised_at : (s : ℕ) (g : List ℕ) (i : ℕ) → s ≤ i → get_or (raised s g) i 0 ≡ get_or g (i - s) 0
raised_at s g i l =
    let e : i ≡ s + (i - s) = omega arith in
    ap (λ i. get_or (raised s g) i 0) e ∙ raised-within s g (i - s)

-- x^0·f is f, and so is x^a·f where f is empty
pub raised-none : (f : List ℕ) (j : ℕ) → get_or (raised 0 f) j 0 ≡ get_or f j 0
raised-none f j = raised_at 0 f j (omega arith) ∙ ap (λ j. get_or f j 0) (omega arith)

pub raised-same : (a : ℕ) (g : List ℕ) (j : ℕ) → (1 ≤ length g → a ≡ 0) → get_or (raised a g) j 0 ≡ get_or g
    j 0
raised-same a (c ∷ g) j h =
    ap (λ a. get_or (raised a (c ∷ g)) j 0) (h (omega arith)) ∙ raised-none (c ∷ g) j
raised-same a [] j h = elim (dec_lt j a) [
  | yes b ↦ raised-before a [] j b
  | no b ↦ raised_at a [] j (omega arith)
]

act-zeros : (n : ℕ) (s : Sequence) (k : ℕ) → act_at (prime 2) (replicate n 0) s k ≡ 0
act-zeros zero s k = act_at-nil (prime 2) s k
act-zeros (suc n) s k =
    act_at-cons (prime 2) 0 (replicate n 0) s k
    ∙ ap₂ (prime 2).add (number-zero-mul binary-is_field (s k)) (act-zeros n s (suc k))
    ∙ number-add-zero binary-is_field (size-positive binary-is_field)

pub length-raised : (m : ℕ) (f : List ℕ) → length (raised m f) ≡ m + length f
unfolding raised
length-raised m f = length-append (replicate m 0) f ∙ ap (λ n. n + length f) (length-replicate m 0)

pub act-raised :
    (m : ℕ) (f : List ℕ) (s : Sequence) (k : ℕ)
    → act_at (prime 2) (raised m f) s k ≡ act_at (prime 2) f s (m + k)
unfolding raised
act-raised m f s k =
    act_at-append binary-is_field (replicate m 0) f s k
    ∙ ap₂ (prime 2).add (act-zeros m s k)
    (ap (λ n. act_at (prime 2) f s (n + k)) (length-replicate m 0))
    ∙ number-zero-add binary-is_field (act_at-below binary-is_field f s (m + k))
