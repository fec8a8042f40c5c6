-- Lists of digits and the numbers that they stand for, and so polynomials as words. The digits of a number
-- are `digits` of Monics.
--
--   value b f      == the number with the digits f in base b, the lowest first; a digit may be b or more
--   Below b f      == every digit of f is less than b
--   elements-below, below-elements == those of a list of elements are less than the size, and back
--   take_below, drop-below, digits-below == and those of a part, and the digits of a number
--   last-split     == a list is the list without its last digit, and that digit
--   value-nil, value-cons == the value of the empty list, and by the lowest digit
--   value-append   == the digits of a joined list: those of the second list stand higher by the length of the
--                     first; `value_snoc`: one digit more, at the end
--   value-below    == a number of n digits in base b is less than b^n
--   value-top      == one of d + 1 digits, the last of them 1, is b^d or more
--   low_digit, high-digits == the lowest digit is the remainder by b, and the others are the quotient
--   digits_value   == the digits of the value of a list are the list
--   value-digits   == a number is the value of its digits, if they are enough; `value-digits-mod`: the value
--                     of its k lowest digits is its remainder by b^k
--
-- Assumes nothing.
use Prim.Native.Nat.{ℕ, zero, suc, ◌+◌, ◌*◌, ◌^◌, ◌/◌, ◌%◌, ◌≤◌, ◌<◌}
use mathlib.Core.Path.{◌≡◌, refl, sym, ap, ap₂, ◌∙◌}
use mathlib.Core.List.{List, [], ◌∷◌, ◌++◌}
use lib.ListN.{length, get_or, take, drop}
use lib.Arith.{mod-mul}
use lib.Seq.{take_all, take-suc, length-take-le}
use native.Mathlib.Nat.{mod-lt, mod-eq_of_lt, div-eq_of_lt, add-mul-mod_self_left}
use native.Mathlib.Nat.{add-mul-div_left, mul-le-mul_left, pow-zero, pow-succ', mul_assoc, mul-add, mod-one}
use native.Mathlib.Nat.{pow-suc, one-le-pow, mul-zero, mul-one}
use lib.Dec.{T}
use native.Mathlib.Omega.{arith}
use Rattle.meaning.specs.Field.{Field, are_elements}
use Rattle.bridge.proofs.Lists.Polynomials.{elements-nil, elements-cons, elements_uncons}
use Rattle.bridge.proofs.Lists.Monics.{digits}

unfoldable pub value : ℕ → List ℕ → ℕ
value b [] = 0
value b (c ∷ f) = c + b * value b f

pub data Below (b : ℕ) : List ℕ → Type 0 where
  below_nil : Below b []
  below-cons : {c : ℕ} {f : List ℕ} → c < b → Below b f → Below b (c ∷ f)

-- Elements and digits below the size
pub elements-below : (F : Field) (f : List ℕ) → T (are_elements F f) → Below F.size f
elements-below F [] h = below_nil
elements-below F (c ∷ f) h =
    let (l, k) = elements_uncons F c f h in
    below-cons l (elements-below F f k)

pub below-elements : (F : Field) {f : List ℕ} → Below F.size f → T (are_elements F f)
below-elements F below_nil = elements-nil F
below-elements F (below-cons {f} l ls) = elements-cons F f l (below-elements F ls)

pub value-nil : (b : ℕ) → value b [] ≡ 0
unfolding value
value-nil b = refl

pub value-cons : (b c : ℕ) (f : List ℕ) → value b (c ∷ f) ≡ c + b * value b f
unfolding value
value-cons b c f = refl

-- Parts of lists
pub take_below : {b : ℕ} {f : List ℕ} (i : ℕ) → Below b f → Below b (take i f)
take_below zero h = below_nil
take_below (suc i) below_nil = below_nil
take_below (suc i) (below-cons h hs) = below-cons h (take_below i hs)

pub drop-below : {b : ℕ} {f : List ℕ} (i : ℕ) → Below b f → Below b (drop i f)
drop-below zero h = h
drop-below (suc i) below_nil = below_nil
drop-below (suc i) (below-cons h hs) = drop-below i hs

pub last-split : (f : List ℕ) (n : ℕ) → length f ≡ suc n → f ≡ take n f ++ (get_or f n 0 ∷ [])
last-split f n e = sym (take_all (suc n) f (omega arith)) ∙ take-suc f n 0 (omega arith)

pub value-append : (b : ℕ) (f g : List ℕ) → value b (f ++ g) ≡ value b f + b ^ length f * value b g
unfolding value
value-append b [] g = rw pow-zero (omega arith)
value-append b (c ∷ f) g =
    rw (value-append b f g, pow-succ' b (length f), mul-add, mul_assoc) (omega arith)

pub value_snoc : (b : ℕ) (f : List ℕ) (t : ℕ) → value b (f ++ (t ∷ [])) ≡ value b f + b ^ length f * t
value_snoc b f t = value-append b f (t ∷ []) ∙ ap (λ (n : ℕ). value b f + b ^ length f * n) value-single
  where
    value-single : value b (t ∷ []) ≡ t
    value-single = value-cons b t [] ∙ rw (value-nil b, mul-zero b) (omega arith)

-- a digit below a number of whole bases
digit-less : {b c v m : ℕ} → c < b → v < m → c + b * v < b * m
digit-less {b} {c} {v} {m} h l = let k = mul-le-mul_left b l in omega arith

pub value-below : {b : ℕ} {f : List ℕ} → Below b f → value b f < b ^ length f
unfolding value
value-below below_nil = rw pow-zero (omega arith)
value-below {b} (below-cons {f} h hs) = rw (pow-succ' b (length f)) (digit-less h (value-below hs))

pub value-top : (b : ℕ) (f : List ℕ) (d : ℕ) → length f ≡ suc d → get_or f d 0 ≡ 1 → b ^ d ≤ value b f
value-top b f d e o =
    let whole : value b f ≡ value b (take d f) + b ^ d * 1 =
    ap (value b) (last-split f d e)
    ∙ value_snoc b (take d f) (get_or f d 0)
    ∙ ap₂ (λ (m n : ℕ). value b (take d f) + b ^ m * n) (length-take-le d f (omega arith)) o in
    omega (arith, mul-one (b ^ d))

pub low_digit : (b c v : ℕ) → c < b → (c + b * v) % b ≡ c
low_digit b c v h = add-mul-mod_self_left c b v ∙ mod-eq_of_lt h

pub high-digits : (b c v : ℕ) → c < b → (c + b * v) / b ≡ v
high-digits b c v h = add-mul-div_left c v (omega arith) ∙ rw (div-eq_of_lt h) (omega arith)

pub digits_value : {b : ℕ} {f : List ℕ} → Below b f → digits b (length f) (value b f) ≡ f
unfolding value digits
digits_value below_nil = refl
digits_value {b} (below-cons {c} {f} h hs) =
    ap₂ ◌∷◌ (low_digit b c (value b f) h)
    (ap (digits b (length f)) (high-digits b c (value b f) h) ∙ digits_value hs)

-- the value of some of the digits
pub value-digits-mod : (b k n : ℕ) → 0 < b → value b (digits b k n) ≡ n % b ^ k
unfolding value digits
value-digits-mod b zero n s = rw pow-zero (sym (mod-one n))
value-digits-mod b (suc k) n s =
    rw (value-digits-mod b k (n / b) s, pow-suc b k, mod-mul n (one-le-pow k b s) s) (omega arith)

pub value-digits : (b k n : ℕ) → 0 < b → n < b ^ k → value b (digits b k n) ≡ n
value-digits b k n s l = value-digits-mod b k n s ∙ mod-eq_of_lt l

pub digits-below : (b k n : ℕ) → 0 < b → Below b (digits b k n)
unfolding digits
digits-below b zero n s = below_nil
digits-below b (suc k) n s = below-cons (mod-lt n s) (digits-below b k (n / b) s)
