-- What it means that a `Field` of `meaning` is a field: its elements are those of a field of `algebra`.
--
--   IsField F      == the interface: a field of `algebra` on a type K, the number that stands for an element
--                     and the element that a number stands for, under which sum and product of F are those
--                     of K. Every number stands for an element, also one beyond the size
--   prime-is_field  == GF(p) meets it, for every prime p together
--   prime-size, prime_characteristic_number, prime-add, prime-mul == the parts of GF(p) in plain numbers;
--                     prime-size-power, prime-add-remainder, prime-add-product, prime-multiple,
--                     prime-negative: what follows
--   is_prime-prime, prime-is_prime, is_prime_meaning, meaning_is_prime
--                  == the prime test of `meaning` is primality, in the words of `algebra` and of `meaning`
--   in_range_is_field == GF(p) is a field for every p that refusal 6 admits
--   element-add, element-mul, element-multiple, element-negative == operations of F, as elements
--   number-…       == the laws of a field on numbers: with no condition where both sides are values of `add`
--                     or `mul`, else for elements
--   elements       == the elements of F are K, each once
--   power-fixed    == in a field whose size is its characteristic p, c^(p^w) = c
--
-- Whatever is shown above this file is shown for any field that meets the interface, but for what is said of
-- GF(p) by name: `prime-…` here and further up, and the answers of the calls.
-- Assumes nothing.
use Prim.Native.Nat.{ℕ, zero, suc, ◌+◌, ◌*◌, ◌-◌, ◌^◌, ◌/◌, ◌%◌, ◌≤◌, ◌<◌, zero-le, ◌∣◌}
use mathlib.Core.Path.{◌≡◌, refl, sym, ap, subst, ◌∙◌}
use mathlib.Core.Logic.{◌≢◌, inl, inr, ∥∥₁_elim}
use mathlib.Core.Bool.{Bool, true, false, not}
use mathlib.Core.List.{map, Mem, Memᴰ, mem-map_of_mem}
use mathlib.Mathlib.Data.List.Nodup.{map_on}
use native.Mathlib.Nat.{mod-eq_of_lt, dvd_of_mod-eq-zero, mul-div_cancel', dvd_refl, ℕ_set, pow-zero, pow-suc}
use native.Mathlib.Nat.{mod-add-mod, add-mod-mod, zero-mul, zero-mod, suc-mul, one-mul as ℕ-one-mul}
use native.Mathlib.Decide.{dec_lt}
use native.Mathlib.Omega.{arith}
use lib.ListN.{length-map}
use lib.Dec.{T, leb, eqb, leb→le, le→leb, eqb→eq, eqb_refl, T_not, not_T}
use Rattle.meaning.specs.Search.{range, holds_for_all}
use Rattle.meaning.specs.Field.{Field, prime, is_prime, prime_in_range, largest_prime, multiple, negative}
use Rattle.meaning.specs.Field.{PrimeNumber}
use Rattle.algebra.proofs.Rings.Ring.{Ring, Field as AlgebraField, neg_unique, one-mul, mul-zero, zero-add}
use Rattle.algebra.proofs.Rings.Ring.{mul-neg, mul-nonzero}
use Rattle.algebra.proofs.Numbers.Number.{prime-by_remainders, prime-factors}
use Rattle.algebra.proofs.Rings.Power.{power, tower_fixed}
use Rattle.algebra.proofs.Rings.Multiple.{multiple as algebra-multiple, multiple-zero, multiple-suc}
use Rattle.algebra.proofs.Rings.Characteristic.{Characteristic, multiple-divides}
use Rattle.algebra.proofs.FiniteFields.FiniteField.{Elements, element-fixed}
use Rattle.algebra.proofs.FiniteFields.PrimeField.{Residue, residue, prime_ring, prime_field}
use Rattle.algebra.proofs.FiniteFields.PrimeField.{prime_characteristic}
use Rattle.algebra.proofs.FiniteFields.PrimeField.{value-residue, residue-value, residue-add, residue-mul}
use Rattle.algebra.proofs.FiniteFields.PrimeField.{residue-zero, residue-one}
use Rattle.bridge.proofs.Basics.Searches.{T_true, true-T, T_and, and_T, all-range, range_all}
use Rattle.bridge.proofs.Basics.Searches.{range-once}
use Rattle.bridge.proofs.Basics.Searches.{range-member, member-range, length-range}
-- what code proofs take of primes and remainders
pub use Rattle.algebra.proofs.Numbers.Number.{Prime, prime-pos, prime-by_trial, mod-mul-mod, mul-mod-mod}

pub record IsField (F : Field) : Type 1 where
  pub K : Type 0
  pub ring : Ring K
  pub field : AlgebraField ring
  pub value : K → ℕ
  pub element : ℕ → K
  pub value-below : (a : K) → value a < F.size
  pub element_value : (a : K) → element (value a) ≡ a
  pub value_element : (n : ℕ) → n < F.size → value (element n) ≡ n
  pub element-zero : element 0 ≡ ring.0#
  pub element_one : element 1 ≡ ring.1#
  pub add_value : (a b : ℕ) → F.add a b ≡ value (ring.◌⊕◌ (element a) (element b))
  pub mul_value : (a b : ℕ) → F.mul a b ≡ value (ring.◌⊗◌ (element a) (element b))
  pub characteristic : Characteristic ring F.characteristic

-- GF(p)
module _ {p : ℕ} (P : Prime p) where
  open prime_ring P use {◌⊕◌, ◌⊗◌}

  infixl 60 ◌⊕◌
  infixl 70 ◌⊗◌
  abbrev pos : 0 < p
  pos = prime-pos P

  -- a sum modulo p of any two numbers is that of their remainders
  sum-value : (a b : ℕ) → (a + b) % p ≡ (residue p pos a ⊕ residue p pos b).0
  sum-value a b = sym (value-residue p pos (a + b)) ∙ ap (λ x. x.0) (residue-add p pos a b)

  product_value : (a b : ℕ) → a * b % p ≡ (residue p pos a ⊗ residue p pos b).0
  product_value a b = sym (value-residue p pos (a * b)) ∙ ap (λ x. x.0) (residue-mul p pos a b)

  pub prime-is_field : IsField (prime p)
  unfolding prime
  prime-is_field =
      record {
        K = Residue p;
        ring = prime_ring P;
        field = prime_field P;
        value = λ a. a.0;
        element = residue p pos;
        value-below = λ a. a.1;
        element_value = residue-value p pos;
        value_element = λ n l. value-residue p pos n ∙ mod-eq_of_lt l;
        element-zero = residue-zero p pos;
        element_one = residue-one p pos;
        add_value = sum-value;
        mul_value = product_value;
        characteristic = prime_characteristic P;
      }

pub prime-size : (p : ℕ) → (prime p).size ≡ p
unfolding prime
prime-size p = refl

pub prime_characteristic_number : (p : ℕ) → (prime p).characteristic ≡ p
unfolding prime
prime_characteristic_number p = refl

pub prime-size-power : (p : ℕ) → (prime p).size ≡ (prime p).characteristic ^ 1
prime-size-power p =
    prime-size p
    ∙ sym (ℕ-one-mul p)
    ∙ ap (λ n. n * p) (sym (pow-zero p))
    ∙ sym (pow-suc p 0)
    ∙ ap (λ n. n ^ 1) (sym (prime_characteristic_number p))

pub prime-add : (p a b : ℕ) → (prime p).add a b ≡ (a + b) % p
unfolding prime
prime-add p a b = refl

pub prime-mul : (p a b : ℕ) → (prime p).mul a b ≡ a * b % p
unfolding prime
prime-mul p a b = refl

-- a remainder is added as the number is
pub prime-add-remainder : (p a b : ℕ) → (prime p).add (a % p) b ≡ (prime p).add a b
prime-add-remainder p a b = prime-add p (a % p) b ∙ mod-add-mod a p b ∙ sym (prime-add p a b)

pub prime-add-product : (p a c b : ℕ) → (prime p).add a ((prime p).mul c b) ≡ (a + c * b) % p
prime-add-product p a c b =
    prime-add p a _ ∙ ap (λ x. (a + x) % p) (prime-mul p c b) ∙ add-mod-mod a (c * b) p

pub prime-multiple : (p n a : ℕ) → multiple (prime p) n a ≡ n * a % p
unfolding multiple
prime-multiple p zero a = sym (ap (λ x. x % p) (zero-mul a) ∙ zero-mod p)
prime-multiple p (suc n) a =
    prime-add p a (multiple (prime p) n a)
    ∙ ap (λ x. (a + x) % p) (prime-multiple p n a)
    ∙ add-mod-mod a (n * a) p
    ∙ ap (λ x. x % p) (omega (arith, suc-mul n a))

pub prime-negative : (p a : ℕ) → negative (prime p) a ≡ (prime p).mul (p - 1) a
unfolding negative
prime-negative p a =
    ap (λ n. multiple (prime p) (n - 1) a) (prime_characteristic_number p)
    ∙ prime-multiple p (p - 1) a
    ∙ sym (prime-mul p (p - 1) a)

-- The prime test
pub is_prime-prime : (n : ℕ) → T (is_prime n) → Prime n
unfolding is_prime
is_prime-prime n h = prime-by_remainders n large indivisible
  where
    parts : T (leb 2 n) × T (holds_for_all (λ d. not (eqb (n % d) 0)) (range 2 (n - 2)))
    parts = T_and (leb 2 n) (holds_for_all (λ d. not (eqb (n % d) 0)) (range 2 (n - 2))) h

    large : 1 < n
    large = leb→le 2 n parts.0

    indivisible : (d : ℕ) → 1 < d → d < n → n % d ≢ 0
    indivisible d l m e =
        T_not (eqb (n % d) 0)
        (all-range (λ d. not (eqb (n % d) 0)) 2 (n - 2) parts.1 d l (omega arith))
        (subst (λ r. T (eqb r 0)) (sym e) (eqb_refl 0))

pub prime-is_prime : {n : ℕ} → Prime n → T (is_prime n)
unfolding is_prime
prime-is_prime {n} P =
    and_T (leb 2 n) (holds_for_all (λ d. not (eqb (n % d) 0)) (range 2 (n - 2)))
    (le→leb 2 n P.large)
    (range_all (λ d. not (eqb (n % d) 0)) 2 (n - 2) indivisible)
  where
    large : 1 < n
    large = P.large

    indivisible : (d : ℕ) → 2 ≤ d → d < 2 + (n - 2) → T (not (eqb (n % d) 0))
    indivisible d l m =
        not_T (eqb (n % d) 0)
        (λ h. P.indivisible d l (omega arith) (dvd_of_mod-eq-zero d (eqb→eq (n % d) 0 h)))

pub prime_meaning : {n : ℕ} → Prime n → PrimeNumber n
prime_meaning P = record { at_least_two = P.large; only_trivial = prime-factors P }

pub meaning_prime : {n : ℕ} → PrimeNumber n → Prime n
meaning_prime {n} P = record { large = P.at_least_two; indivisible = indivisible }
  where
    indivisible : (d : ℕ) → 1 < d → d < n → ¬ (d ∣ n)
    indivisible d l m v = elim (P.only_trivial d (n / d) (mul-div_cancel' d v)) [
      | inl e ↦ absurd (omega arith)
      | inr e ↦ absurd (omega arith)
    ]

pub is_prime_meaning : (n : ℕ) → T (is_prime n) → PrimeNumber n
is_prime_meaning n h = prime_meaning (is_prime-prime n h)

pub meaning_is_prime : {n : ℕ} → PrimeNumber n → T (is_prime n)
meaning_is_prime P = prime-is_prime (meaning_prime P)

-- The range of refusal 6
pub in_range_prime : (p : ℕ) → T (prime_in_range p) → (p ≤ 251) × Prime p
unfolding prime_in_range largest_prime
in_range_prime p h = go (leb p 251) refl
  where
    go : (b : Bool) → leb p 251 ≡ b → (p ≤ 251) × Prime p
    go true e = (leb→le p 251 (true-T e), is_prime-prime p (rw (e, prime_in_range) at h))
    go false e = absurd (rw (e, prime_in_range) at h)

pub prime-InRange : {p : ℕ} → p ≤ 251 → Prime p → T (prime_in_range p)
unfolding prime_in_range largest_prime
prime-InRange {p} l P = rw (T_true {b = leb p 251} (le→leb p 251 l), prime_in_range) (prime-is_prime P)

pub in_range_is_field : (p : ℕ) → T (prime_in_range p) → IsField (prime p)
in_range_is_field p h = prime-is_field (in_range_prime p h).1

-- Any field
module _ {F : Field} (I : IsField F) where
  open I use {K, ring, field, value, element}
  open ring use {0#, 1#, ◌⊕◌, ◌⊗◌, ⊖◌}

  infixl 60 ◌⊕◌
  infixl 70 ◌⊗◌
  infix 80 ⊖◌
  pub value_injective : {a b : K} → value a ≡ value b → a ≡ b
  value_injective {a} {b} e = sym (I.element_value a) ∙ ap element e ∙ I.element_value b

  pub element_injective : {m n : ℕ} → m < F.size → n < F.size → element m ≡ element n → m ≡ n
  element_injective {m} {n} l k e = sym (I.value_element m l) ∙ ap value e ∙ I.value_element n k

  -- 0 and 1 are two elements
  pub size-positive : 0 < F.size
  size-positive = omega (arith, I.value-below 0#)

  pub value-zero : value 0# ≡ 0
  value-zero = ap value (sym I.element-zero) ∙ I.value_element 0 size-positive

  pub characteristic_two : 1 < F.characteristic
  characteristic_two = I.characteristic.prime.large

  pub size-two : 1 < F.size
  size-two = elim (dec_lt 1 F.size) [
    | yes l ↦ l
    | no h ↦ absurd (field.one_nonzero (value_injective (same h)))
  ]
    where
      same : ¬ (1 < F.size) → value 1# ≡ value 0#
      same h = omega (arith, I.value-below 0#, I.value-below 1#)

  pub value-one : value 1# ≡ 1
  value-one = ap value (sym I.element_one) ∙ I.value_element 1 size-two

  pub element-zero-only : {n : ℕ} → n < F.size → element n ≡ 0# → n ≡ 0
  element-zero-only l e = element_injective l size-positive (e ∙ sym I.element-zero)

  pub element-nonzero : {n : ℕ} → n < F.size → n ≢ 0 → ¬ (element n ≡ 0#)
  element-nonzero l h e = h (element-zero-only l e)

  -- The operations as elements, and as numbers below the size
  pub element-add : (a b : ℕ) → element (F.add a b) ≡ element a ⊕ element b
  element-add a b = ap element (I.add_value a b) ∙ I.element_value (element a ⊕ element b)

  pub element-mul : (a b : ℕ) → element (F.mul a b) ≡ element a ⊗ element b
  element-mul a b = ap element (I.mul_value a b) ∙ I.element_value (element a ⊗ element b)

  pub add-below : (a b : ℕ) → F.add a b < F.size
  add-below a b = subst (λ n. n < F.size) (sym (I.add_value a b)) (I.value-below (element a ⊕ element b))

  pub mul-below : (a b : ℕ) → F.mul a b < F.size
  mul-below a b = subst (λ n. n < F.size) (sym (I.mul_value a b)) (I.value-below (element a ⊗ element b))

  pub element-multiple : (n a : ℕ) → element (multiple F n a) ≡ algebra-multiple ring n (element a)
  unfolding multiple
  element-multiple zero a = I.element-zero ∙ sym (multiple-zero ring (element a))
  element-multiple (suc n) a =
      element-add a (multiple F n a)
      ∙ ap (◌⊕◌ (element a)) (element-multiple n a)
      ∙ ring.add_comm (element a) (algebra-multiple ring n (element a))
      ∙ sym (multiple-suc ring n (element a))

  pub multiple-below : (n a : ℕ) → multiple F n a < F.size
  unfolding multiple
  multiple-below zero a = size-positive
  multiple-below (suc n) a = add-below a (multiple F n a)

  pub element-negative : (a : ℕ) → element (negative F a) ≡ ⊖ element a
  unfolding negative
  element-negative a =
      element-multiple (F.characteristic - 1) a ∙ neg_unique ring (ring.add_comm _ _ ∙ whole)
    where
      whole : algebra-multiple ring (F.characteristic - 1) (element a) ⊕ element a ≡ 0#
      whole =
          let e : suc (F.characteristic - 1) ≡ F.characteristic
          = omega (arith, prime-pos I.characteristic.prime) in
          sym (multiple-suc ring (F.characteristic - 1) (element a))
          ∙ ap (λ n. algebra-multiple ring n (element a)) e
          ∙ multiple-divides I.characteristic (dvd_refl F.characteristic) (element a)

  pub negative-below : (a : ℕ) → negative F a < F.size
  unfolding negative
  negative-below a = multiple-below (F.characteristic - 1) a

  -- The laws on numbers
  pub number-add_comm : (a b : ℕ) → F.add a b ≡ F.add b a
  number-add_comm a b =
      I.add_value a b ∙ ap value (ring.add_comm (element a) (element b)) ∙ sym (I.add_value b a)

  pub number-add_assoc : (a b c : ℕ) → F.add (F.add a b) c ≡ F.add a (F.add b c)
  number-add_assoc a b c =
      element_injective (add-below _ _) (add-below _ _)
      (simp element-add (ring.add_assoc (element a) (element b) (element c)))

  pub number-zero-add : {a : ℕ} → a < F.size → F.add 0 a ≡ a
  number-zero-add {a} l =
      element_injective (add-below 0 a) l
      (element-add 0 a ∙ ap (λ z. z ⊕ element a) I.element-zero ∙ zero-add ring (element a))

  pub number-add-zero : {a : ℕ} → a < F.size → F.add a 0 ≡ a
  number-add-zero {a} l = number-add_comm a 0 ∙ number-zero-add l

  pub number-add-negative : (a : ℕ) → F.add a (negative F a) ≡ 0
  number-add-negative a =
      element-zero-only (add-below a (negative F a))
      (element-add a (negative F a) ∙ ap (◌⊕◌ (element a)) (element-negative a) ∙ ring.add_neg (element a))

  pub number-mul_comm : (a b : ℕ) → F.mul a b ≡ F.mul b a
  number-mul_comm a b =
      I.mul_value a b ∙ ap value (ring.mul_comm (element a) (element b)) ∙ sym (I.mul_value b a)

  pub number-mul_assoc : (a b c : ℕ) → F.mul (F.mul a b) c ≡ F.mul a (F.mul b c)
  number-mul_assoc a b c =
      element_injective (mul-below _ _) (mul-below _ _)
      (simp element-mul (ring.mul_assoc (element a) (element b) (element c)))

  pub number-mul-add : (a b c : ℕ) → F.mul a (F.add b c) ≡ F.add (F.mul a b) (F.mul a c)
  number-mul-add a b c =
      element_injective (mul-below _ _) (add-below _ _)
      (simp (element-mul, element-add) (ring.mul-add (element a) (element b) (element c)))

  pub number-add-one-mul : (a b : ℕ) → F.add a (F.mul 1 b) ≡ F.add a b
  number-add-one-mul a b =
      element_injective (add-below _ _) (add-below _ _)
      (simp (element-mul, element-add)
      (ap (λ z. element a ⊕ z)
      (ap (λ z. z ⊗ element b) I.element_one ∙ one-mul ring (element b))))

  pub number-one-mul : {a : ℕ} → a < F.size → F.mul 1 a ≡ a
  number-one-mul {a} l =
      element_injective (mul-below 1 a) l
      (element-mul 1 a ∙ ap (λ z. z ⊗ element a) I.element_one ∙ one-mul ring (element a))

  pub number-mul-zero : (a : ℕ) → F.mul a 0 ≡ 0
  number-mul-zero a =
      element-zero-only (mul-below a 0)
      (element-mul a 0 ∙ ap (◌⊗◌ (element a)) I.element-zero ∙ mul-zero ring (element a))

  pub number-zero-mul : (a : ℕ) → F.mul 0 a ≡ 0
  number-zero-mul a = number-mul_comm 0 a ∙ number-mul-zero a

  pub number-mul-negative : (a b : ℕ) → F.mul a (negative F b) ≡ negative F (F.mul a b)
  number-mul-negative a b =
      element_injective (mul-below a (negative F b)) (negative-below (F.mul a b))
      (simp (element-mul, element-negative) (mul-neg ring (element a) (element b)))

  -- two factors other than 0 have a product other than 0
  pub number-mul-nonzero :
      {a b : ℕ} → a < F.size → b < F.size → a ≢ 0 → b ≢ 0 → F.mul a b ≢ 0
  number-mul-nonzero {a} {b} l k h g e =
      mul-nonzero field (element-nonzero l h) (element-nonzero k g)
      (sym (element-mul a b) ∙ ap element e ∙ I.element-zero)

  -- a number other than 0 has an inverse
  pub reciprocal : ℕ → ℕ
  reciprocal a = value (field.inverse (element a))

  pub reciprocal-below : (a : ℕ) → reciprocal a < F.size
  unfolding reciprocal
  reciprocal-below a = I.value-below (field.inverse (element a))

  pub number-mul-reciprocal : {a : ℕ} → a < F.size → a ≢ 0 → F.mul a (reciprocal a) ≡ 1
  unfolding reciprocal
  number-mul-reciprocal {a} l h =
      element_injective (mul-below _ _) size-two
      (element-mul a (reciprocal a)
      ∙ ap (◌⊗◌ (element a)) (I.element_value (field.inverse (element a)))
      ∙ field.mul_inverse (element a) (element-nonzero l h)
      ∙ sym I.element_one)

  -- All elements
  pub elements : Elements K F.size
  elements =
      record {
        all = map element (range 0 F.size);
        size = length-map (range 0 F.size) element ∙ length-range 0 F.size;
        complete =
            λ a.
            subst (λ b. Mem b (map element (range 0 F.size))) (I.element_value a)
            (mem-map_of_mem element (∣◌∣₁ (range-member 0 F.size zero-le (within a))));
        once = map_on once_on (range-once 0 F.size);
      }
    where
      within : (a : K) → value a < 0 + F.size
      within a = omega (arith, I.value-below a)

      below : {n : ℕ} → Memᴰ n (range 0 F.size) → n < F.size
      below m = omega (arith, member-range 0 F.size m)

      once_on :
          (m : ℕ)
          → Mem m (range 0 F.size)
          → (n : ℕ)
          → Mem n (range 0 F.size)
          → element m ≡ element n
          → m ≡ n
      once_on m h n k e =
          ∥∥₁_elim h (ℕ_set m n)
          (λ i. ∥∥₁_elim k (ℕ_set m n) (λ j. element_injective (below i) (below j) e))

  -- Raising to the size, and to powers of the characteristic where that is the size
  pub power_size : (c : K) → power ring c F.size ≡ c
  power_size c = element-fixed field elements c

  pub power-fixed :
      F.size ≡ F.characteristic → (w : ℕ) (c : K) → power ring c (F.characteristic ^ w) ≡ c
  power-fixed e w c = tower_fixed ring _ (rw e at (power_size c)) w
