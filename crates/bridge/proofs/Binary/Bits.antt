-- Polynomials over GF(2) as words of 64 bits: coefficient i is bit i, and a sum is an exclusive or.
--
--   differ-bits      == two bits differ where their sum is odd
--   value-plus       == the word of a sum is the exclusive or of the words
--   xor_top, xor_cancels == an exclusive or of words below 2^(k + 1): bit k is there where one has it, and
--                       gone where both do
--   two-prime, binary-is_field == 2 is a prime in range, and GF(2) is a field
--   bits w           == the 64 bits of w, the lowest first; `word w` is their polynomial
--   word-list        == the word of a list of at most 64 bits is the polynomial of the list
--   word-zero, word-cons, word-shift, word_xor == the words 0, c + 2·w, w·2^i, and of an exclusive or
--   digits-word, digits-monic == the list of as many bits as a word needs, and that it is monic
--   word-monic       == a word from 2^k on and below 2^(k + 1) has degree k
--   word-less_x, word-reduced, word-square, word-ends == what code on words shows: h - x, a step of a
--                       division, a square, the end of the search for a greatest common divisor
--   word_halved, word_sum == beside an odd word a, the greatest common divisors of a and t·2^i are those of a
--                       and t; those of a and b are those of b and the exclusive or of both
--
-- Assumes nothing.
use Prim.Native.Nat.{ℕ, zero, suc, ◌+◌, ◌*◌, ◌-◌, ◌^◌, ◌/◌, ◌%◌, ◌≤◌, ◌<◌, max}
use mathlib.Core.Path.{◌≡◌, refl, sym, ap, ap₂, ◌∙◌, subst}
use mathlib.Core.List.{List, [], ◌∷◌}
use lib.ListN.{length, get_or, get_or-eq_default}
use lib.Bits.{bit_xor, differ, xor_step, xor_zero_r, xor_block, xor_lt}
use lib.Pow.{pow_mono, pow_pos}
use native.Mathlib.Nat.{div-eq_of_lt, div-lt_iff_lt-mul, div-add-mod', pow-zero, pow-suc, mul-one, mul_assoc}
use native.Mathlib.Decide.{dec_lt}
use native.Mathlib.Omega.{arith}
use lib.Dec.{T}
use Rattle.meaning.specs.Search.{holds_for_all, range}
use Rattle.meaning.specs.Field.{prime, is_prime, prime_in_range, largest_prime, are_elements, multiple}
use Rattle.meaning.specs.Field.{negative}
use Rattle.meaning.specs.Polynomial.{Polynomial, is_monic_over, plus, scale, power}
use Rattle.algebra.proofs.Rings.Solver.{solve, ◌:=◌, ◌:+◌, ◌:*◌, :-◌, :0, :1}
use Rattle.algebra.proofs.Rings.Ideal.{Coprime, coprime_sym, coprime-power-right}
use Rattle.algebra.proofs.Rings.Power.{power_zero, power-suc-left}
use Rattle.algebra.proofs.Rings.Power.{power as algebra-power}
use Rattle.algebra.proofs.Polynomials.Polynomial.{X, constant, constant-polynomial-hom}
use Rattle.algebra.proofs.Polynomials.Monic.{Monic, monic-degree}
use Rattle.algebra.proofs.Polynomials.Divisor.{Gcd, gcd-zero}
use Rattle.bridge.proofs.Basics.Interpretation.{IsField, in_range_is_field, prime-add, prime-size}
use Rattle.bridge.proofs.Basics.Interpretation.{prime_characteristic_number}
use Rattle.bridge.proofs.Lists.Polynomials.{Poly, poly_ring, poly, poly-nil, poly-cons}
use Rattle.bridge.proofs.Lists.Polynomials.{poly-plus, coefficient-poly, length-plus, plus-elements}
use Rattle.bridge.proofs.Lists.Polynomials.{monic_over_lem}
use Rattle.bridge.proofs.Lists.Products.{poly-power}
use Rattle.bridge.proofs.Lists.Spread.{spread, power-spread-same}
use Rattle.bridge.proofs.Lists.Remainders.{Congruent, congruent-poly}
use Rattle.bridge.proofs.Lists.IrreducibleTests.{CommonDegree, common_step, common_sym, common_cancel}
use Rattle.bridge.proofs.Lists.IrreducibleTests.{less_x}
use Rattle.bridge.proofs.Lists.Monics.{digit, digits, length_digits, get_or-digits}
use Rattle.bridge.proofs.Binary.Words.{value, Below, below_nil, below-cons, value-nil, value-cons}
use Rattle.bridge.proofs.Binary.Words.{value-below}
use Rattle.bridge.proofs.Binary.Words.{elements-below, below-elements}
use Rattle.bridge.proofs.Binary.Words.{low_digit, high-digits, digits_value, value-digits}
use Rattle.bridge.proofs.Binary.Words.{digits-below}

-- The sum of two bits
pub differ-bits : (x y : ℕ) → x < 2 → y < 2 → differ x y ≡ (x + y) % 2
differ-bits zero zero h k = refl
differ-bits zero (suc zero) h k = refl
differ-bits (suc zero) zero h k = refl
differ-bits (suc zero) (suc zero) h k = refl
differ-bits (suc (suc x)) y h k = absurd (omega arith)
differ-bits zero (suc (suc y)) h k = absurd (omega arith)
differ-bits (suc zero) (suc (suc y)) h k = absurd (omega arith)

xor_digit :
    (x y u v : ℕ) → x < 2 → y < 2 → bit_xor (x + 2 * u) (y + 2 * v) ≡ (x + y) % 2 + 2 * bit_xor u v
xor_digit x y u v h k =
    xor_step (x + 2 * u) (y + 2 * v)
    ∙ ap₂ (λ (m n : ℕ). m * 2 + n)
    (ap₂ bit_xor (high-digits 2 x u h) (high-digits 2 y v k))
    (ap₂ differ (low_digit 2 x u h) (low_digit 2 y v k) ∙ differ-bits x y h k)
    ∙ omega arith

pub value-plus :
    {f g : List ℕ} → Below 2 f → Below 2 g → value 2 (plus (prime 2) f g) ≡ bit_xor (value 2 f) (value 2 g)
unfolding value plus
value-plus below_nil b = refl
value-plus (below-cons h hs) below_nil = sym (xor_zero_r _)
value-plus (below-cons {c = x} {f} h hs) (below-cons {c = y} {f = g} k ks) =
    ap₂ (λ (d n : ℕ). d + 2 * n) (prime-add 2 x y) (value-plus hs ks)
    ∙ sym (xor_digit x y (value 2 f) (value 2 g) h k)

-- A number with the bit k and none above
module _ (k s : ℕ) (h : 2 ^ k ≤ s) (t : s < 2 ^ suc k) where
  low : s - 2 ^ k < 2 ^ k
  low = omega (arith, pow-suc 2 k)

  top-bit-added : 1 * 2 ^ k + (s - 2 ^ k) ≡ s
  top-bit-added = omega arith

  pub xor_top : (w : ℕ) → w < 2 ^ k → 2 ^ k ≤ bit_xor w s
  xor_top w l =
      subst (λ (n : ℕ). 2 ^ k ≤ bit_xor n s) none
      (subst (λ (n : ℕ). 2 ^ k ≤ bit_xor (0 * 2 ^ k + w) n) top-bit-added
      (omega (arith, xor_block k 0 1 w (s - 2 ^ k) l low)))
    where
      none : 0 * 2 ^ k + w ≡ w
      none = omega arith

  pub xor_cancels : (w : ℕ) → 2 ^ k ≤ w → w < 2 ^ suc k → bit_xor w s < 2 ^ k
  xor_cancels w l m =
      subst (λ (n : ℕ). bit_xor n s < 2 ^ k) also
      (subst (λ (n : ℕ). bit_xor (1 * 2 ^ k + (w - 2 ^ k)) n < 2 ^ k) top-bit-added
      (omega (
        arith,
        xor_block k 1 1 (w - 2 ^ k) (s - 2 ^ k) rest low,
        xor_lt k (w - 2 ^ k) (s - 2 ^ k) rest low,
      )))
    where
      also : 1 * 2 ^ k + (w - 2 ^ k) ≡ w
      also = omega arith

      rest : w - 2 ^ k < 2 ^ k
      rest = omega (arith, pow-suc 2 k)

-- Words
pub two-prime : T (prime_in_range 2)
unfolding prime_in_range is_prime largest_prime holds_for_all range
two-prime = tt

pub binary-is_field : IsField (prime 2)
binary-is_field = in_range_is_field 2 two-prime

unfoldable pub bits : ℕ → List ℕ
bits w = digits 2 64 w

open poly_ring binary-is_field use {0#, 1#, ◌⊕◌, ◌⊗◌, ⊖◌}

infixl 60 ◌⊕◌
infixl 70 ◌⊗◌
infix 80 ⊖◌
abbrev x : Poly binary-is_field
x = X binary-is_field.ring binary-is_field.field.discrete

abbrev pub word : ℕ → Poly binary-is_field
word w = poly binary-is_field (bits w)

abbrev number : ℕ → Poly binary-is_field
number a = constant binary-is_field.ring binary-is_field.field.discrete (binary-is_field.element a)

nothing : number 0 ≡ 0#
nothing =
    ap (constant binary-is_field.ring binary-is_field.field.discrete) binary-is_field.element-zero
    ∙ (constant-polynomial-hom binary-is_field.ring binary-is_field.field.discrete).zero

-- one digit more, which is 0
digits_more :
    (n w : ℕ) → w < 2 ^ n → poly binary-is_field (digits 2 (suc n) w) ≡ poly binary-is_field (digits 2 n w)
unfolding digits
digits_more zero w l =
    let z : w ≡ 0 = omega (arith, pow-zero 2) in
    ap (λ (v : ℕ). poly binary-is_field (v % 2 ∷ [])) z
    ∙ poly-cons binary-is_field 0 []
    ∙ ap₂ (λ u v. u ⊕ x ⊗ v) nothing (poly-nil binary-is_field)
    ∙ solve (poly_ring binary-is_field) 1 (λ x. :0 :+ x :* :0 := :0) refl x
    ∙ sym (poly-nil binary-is_field)
digits_more (suc n) w l =
    poly-cons binary-is_field (w % 2) (digits 2 (suc n) (w / 2))
    ∙ ap (λ u. number (w % 2) ⊕ x ⊗ u)
    (digits_more n (w / 2) ((div-lt_iff_lt-mul (omega arith)).1 (omega (arith, pow-suc 2 n))))
    ∙ sym (poly-cons binary-is_field (w % 2) (digits 2 n (w / 2)))

pub word-cons : (c w : ℕ) → c < 2 → w < 2 ^ 63 → word (c + 2 * w) ≡ number c ⊕ x ⊗ word w
unfolding bits digits
word-cons c w h l =
    ap₂ (λ (a v : ℕ). poly binary-is_field (a ∷ digits 2 63 v)) (low_digit 2 c w h) (high-digits 2 c w h)
    ∙ poly-cons binary-is_field c (digits 2 63 w)
    ∙ ap (λ u. number c ⊕ x ⊗ u) (sym (digits_more 63 w l))

zero-digits : (n : ℕ) → poly binary-is_field (digits 2 n 0) ≡ poly binary-is_field []
unfolding digits
zero-digits zero = refl
zero-digits (suc n) = digits_more n 0 (omega (arith, pow_pos n)) ∙ zero-digits n

pub word-zero : word 0 ≡ poly binary-is_field []
unfolding bits
word-zero = zero-digits 64

pub word-list : {f : List ℕ} → Below 2 f → length f ≤ 64 → word (value 2 f) ≡ poly binary-is_field f
word-list below_nil l = ap word (value-nil 2) ∙ word-zero
word-list (below-cons {c} {f} h hs) l =
    ap word (value-cons 2 c f)
    ∙ word-cons c (value 2 f) h small
    ∙ ap (λ u. number c ⊕ x ⊗ u) (word-list hs (omega arith))
    ∙ sym (poly-cons binary-is_field c f)
  where
    small : value 2 f < 2 ^ 63
    small =
        let k : 2 ^ length f ≤ 2 ^ 63 = pow_mono {j = 63} (omega arith) in
        omega (arith, value-below hs)

pub word-shift :
    (w i : ℕ)
    → w * 2 ^ i < 2 ^ 64
    → word (w * 2 ^ i) ≡ algebra-power (poly_ring binary-is_field) x i ⊗ word w
word-shift w zero l =
    ap word (rw (pow-zero 2) (mul-one w))
    ∙ solve (poly_ring binary-is_field) 1 (λ w. w := :1 :* w) refl (word w)
    ∙ ap (λ u. u ⊗ word w) (sym (power_zero (poly_ring binary-is_field) x))
word-shift w (suc i) l =
    ap word next
    ∙ word-cons 0 (w * 2 ^ i) (omega arith) (omega (arith, next))
    ∙ ap₂ (λ u v. u ⊕ x ⊗ v) nothing (word-shift w i (omega (arith, next)))
    ∙ solve (poly_ring binary-is_field) 3 (λ x n w. :0 :+ x :* (n :* w) := x :* n :* w) refl
    x (algebra-power (poly_ring binary-is_field) x i) (word w)
    ∙ ap (λ u. u ⊗ word w) (sym (power-suc-left (poly_ring binary-is_field) x i))
  where
    next : w * 2 ^ suc i ≡ 0 + 2 * (w * 2 ^ i)
    next = rw (pow-suc 2 i) (sym (mul_assoc w (2 ^ i) 2) ∙ omega arith)

pub word_xor : (v w : ℕ) → v < 2 ^ 64 → w < 2 ^ 64 → word (bit_xor v w) ≡ word v ⊕ word w
unfolding bits
word_xor v w h k = ap (poly binary-is_field) same ∙ poly-plus binary-is_field (digits 2 64 v) (digits 2 64 w)
  where
    below : (n : ℕ) → Below 2 (digits 2 64 n)
    below n = digits-below 2 64 n (omega arith)

    bit-elements : (n : ℕ) → T (are_elements (prime 2) (digits 2 64 n))
    bit-elements n =
        below-elements (prime 2) (subst (λ (q : ℕ). Below q (digits 2 64 n)) (sym (prime-size 2)) (below n))

    sum : List ℕ
    sum = plus (prime 2) (digits 2 64 v) (digits 2 64 w)

    sum_below : Below 2 sum
    sum_below =
        subst (λ (q : ℕ). Below q sum) (prime-size 2)
        (elements-below (prime 2) sum
        (plus-elements binary-is_field (digits 2 64 v) (digits 2 64 w) (bit-elements v) (bit-elements w)))

    size : length sum ≡ 64
    size =
        length-plus binary-is_field (digits 2 64 v) (digits 2 64 w)
        ∙ ap₂ max (length_digits 2 64 v) (length_digits 2 64 w)

    same : digits 2 64 (bit_xor v w) ≡ sum
    same =
        ap (digits 2 64)
        (sym (ap₂ bit_xor (value-digits 2 64 v (omega arith) h) (value-digits 2 64 w (omega arith) k))
        ∙ sym (value-plus (below v) (below w)))
        ∙ ap (λ (n : ℕ). digits 2 n (value 2 sum)) (sym size)
        ∙ digits_value sum_below

one-times_in : (m w : ℕ) → m ≤ w → w < m + m → w / m ≡ 1
one-times_in m w l h =
    let e : w ≡ (w - m) + m * 1 = omega arith in
    ap (λ (n : ℕ). n / m) e ∙ high-digits m (w - m) 1 (omega arith)

pub word-monic : (k w : ℕ) → k < 64 → 2 ^ k ≤ w → w < 2 ^ suc k → Monic (word w) k
unfolding bits digit
word-monic k w s l h =
    record {
      leading =
          coefficient-poly binary-is_field (digits 2 64 w) k
          ∙ ap binary-is_field.element (get_or-digits 2 64 w k s ∙ ap (λ (n : ℕ). n % 2) top)
          ∙ binary-is_field.element_one;
      below =
          record {
            above = λ i m.
                coefficient-poly binary-is_field (digits 2 64 w) i
                ∙ ap binary-is_field.element (none i m)
                ∙ binary-is_field.element-zero;
          };
    }
  where
    top : w / 2 ^ k ≡ 1
    top = one-times_in (2 ^ k) w l (omega (arith, pow-suc 2 k))

    none : (i : ℕ) → suc k ≤ i → get_or (digits 2 64 w) i 0 ≡ 0
    none i m = elim (dec_lt i 64) [
      | yes b ↦
          get_or-digits 2 64 w i b
          ∙ ap (λ (n : ℕ). n % 2)
          (div-eq_of_lt (let p : 2 ^ suc k ≤ 2 ^ i = pow_mono m in omega arith))
      | no b ↦ get_or-eq_default (digits 2 64 w) 0 (omega (arith, length_digits 2 64 w))
    ]

-- The list of as many bits as a word needs
pub digits-word : (n w : ℕ) → n ≤ 64 → w < 2 ^ n → poly binary-is_field (digits 2 n w) ≡ word w
digits-word n w l h =
    sym (word-list (digits-below 2 n w (omega arith)) (omega (arith, length_digits 2 n w)))
    ∙ ap word (value-digits 2 n w (omega arith) h)

pub digits-monic : (k w : ℕ) → 2 ^ k ≤ w → w < 2 ^ suc k → T (is_monic_over (prime 2) (digits 2 (suc k) w))
unfolding digit
digits-monic k w l h =
    monic_over_lem (prime 2) (digits 2 (suc k) w) k (length_digits 2 (suc k) w)
    (get_or-digits 2 (suc k) w k (omega arith)
    ∙ ap (λ (n : ℕ). n % 2) (one-times_in (2 ^ k) w l (omega (arith, pow-suc 2 k))))
    (below-elements (prime 2)
    (subst (λ (q : ℕ). Below q (digits 2 (suc k) w)) (sym (prime-size 2))
    (digits-below 2 (suc k) w (omega arith))))

-- The words of x, and of h - x
x-list : scale (prime 2) (negative (prime 2) 1) (0 ∷ 1 ∷ []) ≡ 0 ∷ 1 ∷ []
unfolding scale negative multiple prime
x-list = refl

pub word-x : word 2 ≡ poly binary-is_field (0 ∷ 1 ∷ [])
word-x =
    ap word two_digits
    ∙ word-list (below-cons {c = 0} (omega arith) (below-cons {c = 1} (omega arith) below_nil)) (omega arith)
  where
    two_digits : 2 ≡ value 2 (0 ∷ 1 ∷ [])
    two_digits =
        sym (
        value-cons 2 0 (1 ∷ [])
        ∙ ap (λ n. 0 + 2 * n) (value-cons 2 1 [] ∙ ap (λ n. 1 + 2 * n) (value-nil 2))
        )

pub word-less_x :
    (h : ℕ)
    → h < 2 ^ 64
    → poly binary-is_field (bits (bit_xor h 2)) ≡ poly binary-is_field (less_x binary-is_field (bits h))
unfolding less_x
word-less_x h l =
    word_xor h 2 l (omega arith)
    ∙ ap (◌⊕◌ (word h)) (word-x ∙ ap (poly binary-is_field) (sym x-list))
    ∙ sym (poly-plus binary-is_field (bits h) (scale (prime 2) (negative (prime 2) 1) (0 ∷ 1 ∷ [])))

-- A step of a division: the divisor g, i places higher, is taken off
pub word-reduced :
    (w g i : ℕ)
    → w < 2 ^ 64
    → g * 2 ^ i < 2 ^ 64
    → Congruent binary-is_field (bits g) (bits w) (bits (bit_xor w (g * 2 ^ i)))
word-reduced w g i l h =
    record {
      quotient = ⊖ algebra-power (poly_ring binary-is_field) x i;
      equation =
          solve (poly_ring binary-is_field) 3 (λ w n g. w := w :+ n :* g :+ :- n :* g) refl
          (word w) (algebra-power (poly_ring binary-is_field) x i) (word g)
          ∙ ap (λ u. u ⊕ ⊖ algebra-power (poly_ring binary-is_field) x i ⊗ word g)
          (sym (word_xor w (g * 2 ^ i) l h ∙ ap (◌⊕◌ (word w)) (word-shift g i h)));
    }

-- A square: the bits two places apart
pub word-square :
    {f : Polynomial} (h r : ℕ)
    → h < 2 ^ 32
    → r < 2 ^ 63
    → digits 2 63 r ≡ spread 2 (digits 2 32 h)
    → Congruent binary-is_field f (power (prime 2) (bits h) (prime 2).size) (bits r)
word-square h r l m e =
    congruent-poly binary-is_field
    (poly-power binary-is_field (bits h) (prime 2).size
    ∙ ap (λ u. algebra-power (poly_ring binary-is_field) u (prime 2).size)
    (sym (digits-word 32 h (omega arith) l))
    ∙ sym (poly-power binary-is_field (digits 2 32 h) (prime 2).size)
    ∙ ap (λ (n : ℕ). poly binary-is_field (power (prime 2) (digits 2 32 h) n)) (prime-size 2)
    ∙ ap (poly binary-is_field) (square ∙ sym e)
    ∙ digits-word 63 r (omega arith) m)
  where
    elements-h : T (are_elements (prime 2) (digits 2 32 h))
    elements-h =
        below-elements (prime 2)
        (subst (λ (q : ℕ). Below q (digits 2 32 h)) (sym (prime-size 2)) (digits-below 2 32 h (omega arith)))

    square : power (prime 2) (digits 2 32 h) (2 ^ 1) ≡ spread (2 ^ 1) (digits 2 32 h)
    square =
        subst (λ (p : ℕ). power (prime 2) (digits 2 32 h) (p ^ 1) ≡ spread (p ^ 1) (digits 2 32 h))
        (prime_characteristic_number 2)
        (power-spread-same binary-is_field 1 (prime-size 2 ∙ sym (prime_characteristic_number 2))
        (digits 2 32 h)
        (omega (arith, length_digits 2 32 h)) elements-h)

-- The end: nothing is left beside a word of degree k
pub word-ends :
    (k a : ℕ) → k < 64 → 2 ^ k ≤ a → a < 2 ^ suc k → CommonDegree binary-is_field (bits a) (bits 0) k
word-ends k a s l h =
    record {
      divisor = word a;
      size = monic-degree binary-is_field.field.one_nonzero (word-monic k a s l h);
      greatest =
          subst (λ u. Gcd (poly_ring binary-is_field) (word a) u (word a))
          (sym (word-zero ∙ poly-nil binary-is_field))
          (gcd-zero (poly_ring binary-is_field) (word a));
    }

-- The binary algorithm: beside an odd word, factors x may be left out; the sum of two words stands for one
coprime-odd : (w : ℕ) → w < 2 ^ 63 → Coprime (poly_ring binary-is_field) x (word (1 + 2 * w))
coprime-odd w l =
    record {
      left = ⊖ word w;
      right = 1#;
      bezout =
          ap (λ u. ⊖ word w ⊗ x ⊕ 1# ⊗ u) (word-cons 1 w (omega arith) l)
          ∙ solve (poly_ring binary-is_field) 3 (λ x w c. :- w :* x :+ :1 :* (c :+ x :* w) := c) refl x
          (word w) (number 1)
          ∙ ap (constant binary-is_field.ring binary-is_field.field.discrete)
          binary-is_field.element_one
          ∙ (constant-polynomial-hom binary-is_field.ring binary-is_field.field.discrete).one;
    }

pub word_halved :
    (a t i : ℕ) {k : ℕ}
    → a % 2 ≡ 1
    → a < 2 ^ 64
    → t * 2 ^ i < 2 ^ 64
    → CommonDegree binary-is_field (bits a) (bits t) k
    → CommonDegree binary-is_field (bits a) (bits (t * 2 ^ i)) k
word_halved a t i odd l h d =
    common_sym binary-is_field
    (common_cancel binary-is_field coprime (word-shift t i h) (common_sym binary-is_field d))
  where
    whole : 1 + 2 * (a / 2) ≡ a
    whole = omega (arith, div-add-mod' a 2)

    coprime : Coprime (poly_ring binary-is_field) (algebra-power (poly_ring binary-is_field) x i) (word a)
    coprime =
        coprime_sym (poly_ring binary-is_field)
        (coprime-power-right (poly_ring binary-is_field)
        (coprime_sym (poly_ring binary-is_field)
        (subst (λ (n : ℕ). Coprime (poly_ring binary-is_field) x (word n)) whole
        (coprime-odd (a / 2) (omega (arith, whole)))))
        i)

pub word_sum :
    (a b : ℕ) {k : ℕ}
    → a < 2 ^ 64
    → b < 2 ^ 64
    → CommonDegree binary-is_field (bits b) (bits (bit_xor a b)) k
    → CommonDegree binary-is_field (bits a) (bits b) k
word_sum a b l h = common_step binary-is_field
    (subst (λ (n : ℕ). Congruent binary-is_field (bits b) (bits a) (bits (bit_xor a n))) same
    (word-reduced a b 0 l (omega (arith, same))))
  where
    same : b * 2 ^ 0 ≡ b
    same = rw (pow-zero 2) (mul-one b)
