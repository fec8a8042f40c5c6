-- GF(2^n) in plain numbers: what code that computes with its elements cites.
--
--   binary-size, binary_characteristic_number, binary-size-power == its size is 2^n, a power of 2
--   binary-add        == a sum is an exclusive or of the n lowest bits
--   binary-mul-low    == of factors the n lowest bits count
--   binary-double-small, binary-double-large == y times an element: its double, and from 2^n on less 2^n with
--                        `low` added
--   binary-split      == c·b = c·(b mod 2) + (y·c)·(b div 2)
--   binary-negative   == an element is its own negative
--   doublings F c k   == c, y·c, …, y^(k−1)·c
--   picked t m        == m, or 0 if t is 0; picks ms b == the exclusive or of those that the bits of b pick
--   picks-mul         == so a product is found
--   BinaryName n low, binary-name == what it means that `not_binary` does not hold of n and low
--   admitted-is_field  == then they name a field
--
-- Assumes nothing.
use Prim.Native.Nat.{ℕ, zero, suc, ◌+◌, ◌*◌, ◌-◌, ◌/◌, ◌%◌, ◌^◌, ◌≤◌, ◌<◌}
use mathlib.Core.Path.{◌≡◌, refl, sym, ap, ap₂, subst, ◌∙◌}
use mathlib.Core.Bool.{Bool, true, false, not, ◌&&◌}
use mathlib.Core.List.{List, [], ◌∷◌}
use native.Mathlib.Nat.{mod-eq_of_lt, mod-lt, pow-suc, one-mul, zero-mul, mul-zero, pow-zero}
use native.Mathlib.Nat.{mul-add, mul_assoc, mul_comm, mul-one, pow-succ', add-mul-mod_self_left, zero-mod}
use native.Mathlib.Omega.{arith}
use lib.ListN.{length, get_or, take}
use lib.Dec.{T, leb, ltb, eqb, leb→le, ltb→lt}
use lib.Bits.{bit_xor, xor_zero_r, xor_shifted, xor_comm}
use Rattle.meaning.specs.Field.{Field, prime, multiple, negative}
use Rattle.meaning.specs.Polynomial.{plus, scale, times, irreducible}
use Rattle.meaning.specs.Extension.{bits, of_bits, times_y, reduced, reducing, binary}
use Rattle.meaning.specs.Conditions.{not_binary, least_extension, largest_extension}
use Rattle.bridge.proofs.Basics.Searches.{true-T, T_and, not-false}
use Rattle.bridge.proofs.Basics.Interpretation.{IsField, prime-mul, number-mul_assoc}
use Rattle.bridge.proofs.Basics.Interpretation.{number-mul_comm}
use Rattle.bridge.proofs.Basics.Interpretation.{number-mul-zero, number-mul-add, number-one-mul}
use Rattle.bridge.proofs.Basics.Interpretation.{mul-below}
use Rattle.bridge.proofs.Lists.Monics.{digits, digit, length_digits, get_or-digits}
use Rattle.bridge.proofs.Binary.Words.{value, value-cons, Below, below_nil, below-cons, digits-below}
use Rattle.bridge.proofs.Binary.Words.{digits_value, value-digits-mod}
use Rattle.bridge.proofs.Binary.WordLists.{digit-below, digit-beyond, digit-top}
use Rattle.bridge.proofs.Binary.Bits.{value-plus}
use Rattle.bridge.proofs.Binary.Extension.{bits-digits, of_bits_value, extension_is_field, binary-times_y}

pub binary-size : (n low : ℕ) → (binary n low).size ≡ 2 ^ n
unfolding binary
binary-size n low = refl

pub binary_characteristic_number : (n low : ℕ) → (binary n low).characteristic ≡ 2
unfolding binary
binary_characteristic_number n low = refl

pub binary-size-power : (n low : ℕ) → (binary n low).size ≡ (binary n low).characteristic ^ n
unfolding binary
binary-size-power n low = refl

-- Sums
pub binary-add : (n low a b : ℕ) → (binary n low).add a b ≡ bit_xor (a % 2 ^ n) (b % 2 ^ n)
unfolding binary
binary-add n low a b =
    of_bits_value (plus (prime 2) (bits n a) (bits n b))
    ∙ ap₂ (λ f g. value 2 (plus (prime 2) f g)) (bits-digits n a) (bits-digits n b)
    ∙ value-plus (digits-below 2 n a (omega arith)) (digits-below 2 n b (omega arith))
    ∙ ap₂ bit_xor (value-digits-mod 2 n a (omega arith)) (value-digits-mod 2 n b (omega arith))

pub binary-add-below :
    (n low : ℕ) {a b : ℕ} → a < 2 ^ n → b < 2 ^ n → (binary n low).add a b ≡ bit_xor a b
binary-add-below n low {a} {b} l k =
    binary-add n low a b ∙ ap₂ bit_xor (mod-eq_of_lt l) (mod-eq_of_lt k)

-- Of factors the lowest bits count
digits_mod : (n a : ℕ) → digits 2 n (a % 2 ^ n) ≡ digits 2 n a
digits_mod n a =
    ap (digits 2 n) (sym (value-digits-mod 2 n a (omega arith)))
    ∙ ap (λ k. digits 2 k (value 2 (digits 2 n a))) (sym (length_digits 2 n a))
    ∙ digits_value (digits-below 2 n a (omega arith))

pub bit-low : (n j a : ℕ) → j < n → a % 2 ^ n / 2 ^ j % 2 ≡ a / 2 ^ j % 2
unfolding digit
bit-low n j a l =
    sym (get_or-digits 2 n (a % 2 ^ n) j l) ∙ ap (λ f. get_or f j 0) (digits_mod n a) ∙ get_or-digits 2 n a
    j l

bits-mod : (n a : ℕ) → bits n (a % 2 ^ n) ≡ bits n a
bits-mod n a = bits-digits n (a % 2 ^ n) ∙ digits_mod n a ∙ sym (bits-digits n a)

pub binary-mul-low :
    (n low a b : ℕ) → (binary n low).mul (a % 2 ^ n) (b % 2 ^ n) ≡ (binary n low).mul a b
unfolding binary
binary-mul-low n low a b =
    ap₂ (λ f g. of_bits (reduced (bits n low) (times (prime 2) f g))) (bits-mod n a) (bits-mod n b)

-- One step of the reduction
take-digits : (k a : ℕ) → take k (digits 2 (suc k) a) ≡ digits 2 k a
unfolding digits
take-digits zero a = refl
take-digits (suc k) a = ap (◌∷◌ (a % 2)) (take-digits k (a / 2))

bit-times : (t c : ℕ) → t < 2 → c < 2 → t * c % 2 ≡ t * c
bit-times zero c l k = ap (λ (m : ℕ). m % 2) (zero-mul c) ∙ sym (zero-mul c)
bit-times (suc zero) c l k = ap (λ (m : ℕ). m % 2) (one-mul c) ∙ mod-eq_of_lt k ∙ sym (one-mul c)
bit-times (suc (suc t)) c l k = absurd (omega arith)

bit_below : (t c : ℕ) → (prime 2).mul t c < 2
bit_below t c = omega (arith, prime-mul 2 t c, mod-lt (t * c) {m = 2} (omega arith))

scale-below : (t : ℕ) {f : List ℕ} → Below 2 f → Below 2 (scale (prime 2) t f)
unfolding scale
scale-below t below_nil = below_nil
scale-below t (below-cons {c = c} h hs) = below-cons (bit_below t c) (scale-below t hs)

value-scale : (t : ℕ) {f : List ℕ} → t < 2 → Below 2 f → value 2 (scale (prime 2) t f) ≡ t * value 2 f
unfolding scale value
value-scale t l below_nil = sym (mul-zero t)
value-scale t l (below-cons {c = c} {f = f} h hs) =
    ap₂ (λ (d v : ℕ). d + 2 * v) (prime-mul 2 t c ∙ bit-times t c l h) (value-scale t l hs)
    ∙ rw (
      mul-add t c (2 * value 2 f),
      ← mul_assoc t 2 (value 2 f),
      mul_comm t 2,
      mul_assoc 2 t (value 2 f),
    ) refl

times_y-value :
    (k low a : ℕ)
    → of_bits (times_y (bits (suc k) low) 0 (bits (suc k) a))
    ≡ bit_xor (2 * (a % 2 ^ k)) (digit 2 a k * (low % 2 ^ suc k))
unfolding times_y
times_y-value k low a =
    of_bits_value (plus (prime 2) (0 ∷ take (length (bits (suc k) low) - 1) (bits (suc k) a))
    (scale (prime 2) (get_or (bits (suc k) a) (length (bits (suc k) low) - 1) 0) (bits (suc k) low)))
    ∙ rw (
      bits-digits (suc k) low,
      bits-digits (suc k) a,
      length_digits 2 (suc k) low,
      less,
      take-digits k a,
      get_or-digits 2 (suc k) a k (omega arith),
    ) refl
    ∙ value-plus (below-cons (omega arith) (digits-below 2 k a (omega arith)))
    (scale-below (digit 2 a k) (digits-below 2 (suc k) low (omega arith)))
    ∙ ap₂ bit_xor front
    (value-scale (digit 2 a k) (digit-below a k) (digits-below 2 (suc k) low (omega arith))
    ∙ ap (λ (v : ℕ). digit 2 a k * v) (value-digits-mod 2 (suc k) low (omega arith)))
  where
    less : suc k - 1 ≡ k
    less = omega arith

    front : value 2 (0 ∷ digits 2 k a) ≡ 2 * (a % 2 ^ k)
    front =
        value-cons 2 0 (digits 2 k a)
        ∙ ap (λ (v : ℕ). 0 + 2 * v) (value-digits-mod 2 k a (omega arith))
        ∙ omega arith

-- The exclusive or of numbers that bits pick
unfoldable pub picked : ℕ → ℕ → ℕ
picked t m = elim (eqb t 0) [ true ↦ 0 | false ↦ m ]

unfoldable pub doublings : Field → ℕ → ℕ → List ℕ
doublings F c zero = []
doublings F c (suc k) = c ∷ doublings F (F.mul 2 c) k

unfoldable pub picks : List ℕ → ℕ → ℕ
picks [] b = 0
picks (m ∷ ms) b = bit_xor (picked (b % 2) m) (picks ms (b / 2))

-- y times an element
module _ (n low : ℕ) (l : 2 ≤ n) (irr : T (irreducible (prime 2) (reducing n low))) where
  abbrev F : Field
  F = binary n low

  pub I : IsField F
  I = extension_is_field n low (omega arith) irr

  abbrev k : ℕ
  k = n - 1

  up : suc k ≡ n
  up = omega arith

  half : 2 * 2 ^ k ≡ 2 ^ n
  half = sym (ap (λ m. 2 ^ m) (sym up) ∙ pow-succ' 2 k)

  double-value : (a : ℕ) → F.mul 2 a ≡ bit_xor (2 * (a % 2 ^ k)) (digit 2 a k * (low % 2 ^ n))
  double-value a =
      binary-times_y n low (omega arith) irr l a
      ∙ subst (λ m. of_bits (times_y (bits m low) 0 (bits m a))
      ≡ bit_xor (2 * (a % 2 ^ k)) (digit 2 a k * (low % 2 ^ m))) up (times_y-value k low a)

  pub binary-double-small : (a : ℕ) → 2 * a < 2 ^ n → F.mul 2 a ≡ 2 * a
  binary-double-small a h =
      let below : a < 2 ^ k = omega (arith, half) in
      double-value a
      ∙ ap₂ (λ (x t : ℕ). bit_xor (2 * x) (t * (low % 2 ^ n))) (mod-eq_of_lt below)
      (digit-beyond below (omega arith))
      ∙ ap (bit_xor (2 * a)) (zero-mul (low % 2 ^ n))
      ∙ xor_zero_r (2 * a)

  pub binary-double-large :
      (a : ℕ) → a < 2 ^ n → 2 ^ n ≤ 2 * a → low < 2 ^ n → F.mul 2 a ≡ bit_xor (2 * a - 2 ^ n) low
  binary-double-large a h g s =
      let rest : a - 2 ^ k < 2 ^ k = omega (arith, half) in
      let top : 2 ^ k ≤ a = omega (arith, half) in
      let all : a < 2 ^ suc k = subst (λ m. a < 2 ^ m) (sym up) h in
      let remains : a % 2 ^ k ≡ a - 2 ^ k = remainder-once top rest in
      double-value a
      ∙ ap₂ (λ (x t : ℕ). bit_xor (2 * x) (t * (low % 2 ^ n))) remains (digit-top k top all)
      ∙ ap₂ bit_xor less (one-mul (low % 2 ^ n) ∙ mod-eq_of_lt s)
    where
      less : 2 * (a - 2 ^ k) ≡ 2 * a - 2 ^ n
      less = omega (arith, half)

      remainder-once : {m : ℕ} → m ≤ a → a - m < m → a % m ≡ a - m
      remainder-once {m} t r =
          ap (λ x. x % m) (split t) ∙ add-mul-mod_self_left (a - m) m 1 ∙ mod-eq_of_lt r
        where
          split : m ≤ a → a ≡ a - m + m * 1
          split t = omega (arith, mul-one m)

  -- a number by its lowest bit and the others
  pub binary-digits : (b : ℕ) → b < 2 ^ n → F.add (b % 2) (F.mul 2 (b / 2)) ≡ b
  binary-digits b h =
      ap (F.add (b % 2)) (binary-double-small (b / 2) (omega arith))
      ∙ binary-add-below n low bit even
      ∙ xor_comm (b % 2) (2 * (b / 2))
      ∙ ap (λ (x : ℕ). bit_xor x (b % 2)) shifted
      ∙ xor_shifted (b / 2) 1 (b % 2) (mod-lt b (omega arith))
      ∙ ap (λ (x : ℕ). x + b % 2) (sym shifted)
      ∙ omega arith
    where
      bit : b % 2 < 2 ^ n
      bit = omega arith

      even : 2 * (b / 2) < 2 ^ n
      even = omega arith

      shifted : 2 * (b / 2) ≡ b / 2 * 2 ^ 1
      shifted = omega (arith, pow-suc 2 0, pow-zero 2)

  pub binary-split :
      (c b : ℕ) → b < 2 ^ n
      → F.mul c b ≡ F.add (F.mul c (b % 2)) (F.mul (F.mul 2 c) (b / 2))
  binary-split c b h =
      ap (F.mul c) (sym (binary-digits b h))
      ∙ number-mul-add I c (b % 2) (F.mul 2 (b / 2))
      ∙ ap (F.add (F.mul c (b % 2)))
      (sym (number-mul_assoc I c 2 (b / 2)) ∙ ap (λ x. F.mul x (b / 2)) (number-mul_comm I c 2))

  -- the products of c by 1, y, y^2, …, picked by the bits of b
  pub picks-mul :
      (k c b : ℕ) → c < 2 ^ n → b < 2 ^ k → b < 2 ^ n → picks (doublings F c k) b ≡ F.mul c b
  unfolding picks doublings picked
  picks-mul zero c b l h g =
      let none : b ≡ 0 = omega (arith, pow-zero 2) in
      sym (ap (F.mul c) none ∙ number-mul-zero I c)
  picks-mul (suc k) c b l h g =
      ap₂ bit_xor first
      (picks-mul k (F.mul 2 c) (b / 2) double-below (omega (arith, pow-suc 2 k)) (omega arith))
      ∙ sym (binary-split c b g ∙ binary-add-below n low once-below rest_below)
    where
      double-below : F.mul 2 c < 2 ^ n
      double-below = subst (λ s. F.mul 2 c < s) (binary-size n low) (mul-below I 2 c)

      once-below : F.mul c (b % 2) < 2 ^ n
      once-below = subst (λ s. F.mul c (b % 2) < s) (binary-size n low) (mul-below I c (b % 2))

      rest_below : F.mul (F.mul 2 c) (b / 2) < 2 ^ n
      rest_below =
          subst (λ s. F.mul (F.mul 2 c) (b / 2) < s) (binary-size n low)
          (mul-below I (F.mul 2 c) (b / 2))

      one : F.mul c 1 ≡ c
      one = number-mul_comm I c 1 ∙ number-one-mul I (subst (λ s. c < s) (sym (binary-size n low)) l)

      first : picked (b % 2) c ≡ F.mul c (b % 2)
      first = go (b % 2) (mod-lt b (omega arith))
        where
          go : (t : ℕ) → t < 2 → picked t c ≡ F.mul c t
          go zero s = sym (number-mul-zero I c)
          go (suc zero) s = sym one
          go (suc (suc t)) s = absurd (omega arith)

  pub binary-negative : (a : ℕ) → negative F a ≡ a % 2 ^ n
  unfolding negative multiple
  binary-negative a =
      ap (λ p. multiple F (p - 1) a) (binary_characteristic_number n low)
      ∙ binary-add n low a 0
      ∙ ap (bit_xor (a % 2 ^ n)) (zero-mod (2 ^ n))
      ∙ xor_zero_r (a % 2 ^ n)

-- What names a field
true_false : {A : Type 0} → true ≡ false → A
true_false e = absurd (subst T e tt)

pub record BinaryName (n low : ℕ) : Type 0 where
  pub least : 2 ≤ n
  pub most : n ≤ 8
  pub small : low < 2 ^ n
  pub is_irreducible : T (irreducible (prime 2) (reducing n low))

pub binary-name : (n low : ℕ) → not_binary n low ≡ false → BinaryName n low
unfolding not_binary least_extension largest_extension
binary-name n low e = go (leb 2 n && leb n 8) refl e
  where
    inner :
        (b : Bool) → ltb low (2 ^ n) ≡ b
        → elim b [ false ↦ true | true ↦ not (irreducible (prime 2) (reducing n low)) ] ≡ false
        → T (leb 2 n) × T (leb n 8)
        → BinaryName n low
    inner false e h r = true_false h
    inner true e h r =
        record {
          least = leb→le 2 n r.0;
          most = leb→le n 8 r.1;
          small = ltb→lt low (2 ^ n) (true-T e);
          is_irreducible = not-false (irreducible (prime 2) (reducing n low)) h;
        }

    go :
        (b : Bool) → (leb 2 n && leb n 8) ≡ b
        → elim b [
          | false ↦ true
          | true ↦ elim (ltb low (2 ^ n)) [
            | false ↦ true
            | true ↦ not (irreducible (prime 2) (reducing n low))
          ]
        ] ≡ false
        → BinaryName n low
    go false e h = true_false h
    go true e h = inner (ltb low (2 ^ n)) refl h (T_and (leb 2 n) (leb n 8) (true-T e))

pub admitted-is_field : (n low : ℕ) → not_binary n low ≡ false → IsField (binary n low)
admitted-is_field n low e =
    let b = binary-name n low e in
    let positive : 1 ≤ n = omega (arith, b.least) in
    extension_is_field n low positive b.is_irreducible
