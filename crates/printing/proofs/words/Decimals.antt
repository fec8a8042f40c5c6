-- Laws of the decimal digits of a number.
--
--   decimal_digit, decimal-more == the digits of a number below 10, and of a larger one
--   length-decimal     == a number below 10^k has at most k digits, for k at least 1
--   byte_digits, word-digits == a byte has at most 3, a number of 64 bits at most 20
--   digits_put         == the digits before the last one are put, and then the last one
-- Assumes nothing.
use Prim.Native.Nat.{ℕ, zero, suc, ◌+◌, ◌/◌, ◌%◌, ◌^◌, ◌<◌, ◌≤◌}
use native.Mathlib.Nat.{pow-suc}
use native.Mathlib.Decide.{dec_le}
use native.Mathlib.Omega.{arith}
use mathlib.Core.Path.{◌≡◌, sym, ap, ◌∙◌}
use mathlib.Core.List.{List, [], ◌∷◌, ◌++◌, append_assoc}
use lib.ListN.{length, length-append}
use mir.Syntax.{w64}
use mir.Val.{Fits}
use borrow.Author.Tests.{lt-ltb, le-ltb}
use Rattle.meaning.specs.Print.{digits, decimal}

digits-digit : (most n : ℕ) → n < 10 → digits (suc most) n ≡ (48 + n) ∷ []
unfolding digits
digits-digit most n l = rw (lt-ltb n 10 l, digits)

digits_more : (most n : ℕ) → 10 ≤ n → digits (suc most) n ≡ digits most (n / 10) ++ ((48 + n % 10) ∷ [])
unfolding digits
digits_more most n l = rw (le-ltb n 10 l, digits)

-- more divisions than needed change nothing
digits_most : (a b n : ℕ) → n < a → n < b → digits a n ≡ digits b n
digits_most zero b n h k = absurd (omega arith)
digits_most (suc a) zero n h k = absurd (omega arith)
digits_most (suc a) (suc b) n h k = elim (dec_le 10 n) [
  | yes l ↦
      digits_more a n l
      ∙ ap (λ ds. ds ++ ((48 + n % 10) ∷ [])) (digits_most a b (n / 10) (omega arith) (omega arith))
      ∙ sym (digits_more b n l)
  | no l ↦ digits-digit a n (omega arith) ∙ sym (digits-digit b n (omega arith))
]

pub decimal_digit : (n : ℕ) → n < 10 → decimal n ≡ (48 + n) ∷ []
unfolding decimal
decimal_digit n l = digits-digit n n l

decimal-more : (n : ℕ) → 10 ≤ n → decimal n ≡ decimal (n / 10) ++ ((48 + n % 10) ∷ [])
unfolding decimal
decimal-more n l =
    digits_more n n l
    ∙ ap (λ ds. ds ++ ((48 + n % 10) ∷ []))
    (digits_most n (suc (n / 10)) (n / 10) (omega arith) (omega arith))

pub length_more : (n : ℕ) → 10 ≤ n → length (decimal n) ≡ length (decimal (n / 10)) + 1
length_more n l = ap length (decimal-more n l) ∙ length-append (decimal (n / 10)) ((48 + n % 10) ∷ [])

length-decimal : (k n : ℕ) → n < 10 ^ suc k → length (decimal n) ≤ suc k
length-decimal zero n h = omega (arith, ap length (decimal_digit n (omega arith)))
length-decimal (suc k) n h = elim (dec_le 10 n) [
  | yes l ↦
      omega (arith, length_more n l, length-decimal k (n / 10) (omega (arith, pow-suc 10 (suc k))))
  | no l ↦ omega (arith, ap length (decimal_digit n (omega arith)))
]

pub byte_digits : (n : ℕ) → n < 256 → length (decimal n) ≤ 3
byte_digits n h = length-decimal 2 n (omega arith)

pub word-digits : {n : ℕ} → Fits w64 n → length (decimal n) ≤ 20
word-digits {n} h = length-decimal 19 n (omega arith)

-- the digits before the last one are put, and then the last one
pub digits_first : (n : ℕ) (old mid : List ℕ) → n < 10 → mid ≡ old
    → mid ++ ((48 + n % 10) ∷ []) ≡ old ++ decimal n
digits_first n old mid h e =
    let r : n % 10 ≡ n = omega arith in
    rw (e, r, decimal_digit n h)

pub digits_next : (n : ℕ) (old mid : List ℕ) → 10 ≤ n → mid ≡ old ++ decimal (n / 10)
    → mid ++ ((48 + n % 10) ∷ []) ≡ old ++ decimal n
digits_next n old mid h e = rw (e, decimal-more n h) (append_assoc old (decimal (n / 10)) _)
