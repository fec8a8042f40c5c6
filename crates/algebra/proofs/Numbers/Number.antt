-- Laws of the natural numbers: remainders of products, least numbers, primes, Euclid's lemma.
--
--   mul-mod          == a * b % m = (a % m) * (b % m) % m; for m = 0 the remainder of a is a
--   Least P n        == n has the property P and no smaller number has it
--   least-below      == a decided property that some b has: the least number that has it, at most b
--   none_below       == a decided property: the least number below b that has it, or that none below b has it
--   Prime p          == p > 1 has no divisor d with 1 < d < p; 0 and 1 are not prime
--   prime-by_trial   == p > 1 is prime if no d with 1 < d < b divides it and p < b * b
--   prime-by_remainders
--                    == p > 1 is prime if no remainder p % d with 1 < d < p is 0
--   prime-factors    == where d * e is prime, d is 1 or that prime
--   prime-decided    == whether p is prime is decided by trial division
--   prime-inverse    == a prime p that does not divide a: some x with a * x = 1 modulo p
--   euclid           == Euclid's lemma: a prime that divides a product divides a factor
--   power-less       == powers of q > 1 grow with the exponent
--   split-power      == N > 0 is p^w * M with p not dividing M, for p > 1
--
-- "a divides b" is `a ∣ b` of the native library; `b % a ≡ 0` says the same.
--
-- Assumes nothing.
use Prim.Native.Nat.{ℕ, zero, suc, ◌+◌, ◌-◌, ◌*◌, ◌^◌, ◌/◌, ◌%◌, ◌≤◌, ◌<◌, ◌∣◌}
use mathlib.Core.Path.{◌≡◌, refl, sym, ap, ◌∙◌, ◌≡⟨◌⟩◌, ◌∎}
use mathlib.Core.Logic.Dec
use mathlib.Core.Logic.{◌≢◌, ◌⊎◌, inl, inr}
use native.Mathlib.Nat.{mul_comm, one-mul, pow-zero, pow-suc, pow-succ', one-le-pow, pow-le-pow_right, mod-lt}
use native.Mathlib.Nat.{mod-eq_of_lt, mod-add-div, add-mul-mod_self_left, mod-eq-zero_of_dvd}
use native.Mathlib.Nat.{dvd_of_mod-eq-zero, mul-div_cancel', dvd-mul_left, div-le_self, eq-or-lt_of_le}
use native.Mathlib.Nat.{le_of_suc-le-suc, lt_of_mul-lt-mul_left, mul-le-mul_right, add-sub_of_le}
use native.Mathlib.Nat.{emod_pos_of_not-dvd, le_antisymm, mul_right_comm, dvd-mul_right_of_dvd, div-lt_self}
use native.Mathlib.Nat.{le_refl, le_of_dvd, dvd-mul_right}
use native.Mathlib.Decide.{dec_lt, dec_dvd}
use native.Mathlib.Omega.{arith}

-- Remainders
pub mul-mod-mod : (a b m : ℕ) → a * (b % m) % m ≡ a * b % m
mul-mod-mod a b m =
    sym (add-mul-mod_self_left (a * (b % m)) m (a * (b / m)))
    ∙ ap (λ (x : ℕ). x % m) (regroup ∙ ap (λ (x : ℕ). a * x) (mod-add-div b m))
  where
    regroup : a * (b % m) + m * (a * (b / m)) ≡ a * (b % m + m * (b / m))
    regroup = omega arith

pub mod-mul-mod : (a b m : ℕ) → a % m * b % m ≡ a * b % m
mod-mul-mod a b m = rw (mul_comm (a % m) b, mul_comm a b) (mul-mod-mod b a m)

pub mul-mod : (a b m : ℕ) → a * b % m ≡ a % m * (b % m) % m
mul-mod a b m = sym (mul-mod-mod (a % m) b m ∙ mod-mul-mod a b m)

-- Numbers with equal remainders may stand for each other in products
congruent-mul : (m a b c d : ℕ) → a % m ≡ c % m → b % m ≡ d % m → a * b % m ≡ c * d % m
congruent-mul m a b c d p q = rw (mul-mod a b m, mul-mod c d m, p, q)

-- Least numbers
pub record Least (P : ℕ → Type 0) (n : ℕ) : Type 0 where
  pub holds : P n
  pub least : (m : ℕ) → m < n → ¬ P m

module _ {P : ℕ → Type 0} (decided : (n : ℕ) → Dec (P n)) where
  one_more : {b m : ℕ} → ((k : ℕ) → k < b → ¬ P k) → ¬ P b → m ≤ b → ¬ P m
  one_more h q l = elim (eq-or-lt_of_le l) [ inl e ↦ rw e q | inr k ↦ h _ k ]

  next : (b : ℕ) → ((m : ℕ) → m < b → ¬ P m) → Dec (P b)
      → ((n : ℕ) × (n < suc b) × Least P n) ⊎ ((m : ℕ) → m < suc b → ¬ P m)
  next b h (yes p) = inl (b, omega arith, record { holds = p; least = h })
  next b h (no q) = inr (λ m l. one_more h q (le_of_suc-le-suc l))

  pub none_below : (b : ℕ) → ((n : ℕ) × (n < b) × Least P n) ⊎ ((m : ℕ) → m < b → ¬ P m)
  none_below zero = inr (λ m l _. omega arith)
  none_below (suc b) = elim (none_below b) [
    | inl f ↦ inl (f.0, omega arith, f.2)
    | inr h ↦ next b h (decided b)
  ]

  pub least-below : (b : ℕ) → P b → (n : ℕ) × (n ≤ b) × Least P n
  least-below b p = elim (none_below b) [
    | inl f ↦ (f.0, omega arith, f.2)
    | inr h ↦ (b, omega arith, record { holds = p; least = h })
  ]

-- Primes
pub record Prime (p : ℕ) : Type 0 where
  pub large : 1 < p
  pub indivisible : (d : ℕ) → 1 < d → d < p → ¬ (d ∣ p)

pub prime-pos : {p : ℕ} → Prime p → 0 < p
prime-pos P = omega (arith, P.large)

pub prime-power-pos : {p : ℕ} → Prime p → (w : ℕ) → 0 < p ^ w
prime-power-pos {p} P w = one-le-pow w p (prime-pos P)

pub not-divides-below : {m n : ℕ} → 0 < n → n < m → ¬ (m ∣ n)
not-divides-below s l h = omega (arith, le_of_dvd s h)

-- The cofactor of a divisor d of p with 1 < d < p is above 1 and divides p too
cofactor : (p d : ℕ) → d < p → d ∣ p → (e : ℕ) × (d * e ≡ p) × (1 < e) × (e ∣ p)
cofactor p d l h =
    let q : d * (p / d) ≡ p = mul-div_cancel' d h in
    (p / d, q, lt_of_mul-lt-mul_left d (omega arith), rw q at (dvd-mul_left (p / d) d))

pub prime-by_trial : (p b : ℕ) → 1 < p → p < b * b → ((d : ℕ) → 1 < d → d < b → ¬ (d ∣ p)) → Prime p
prime-by_trial p b l s h = record {
  large = l;
  indivisible = λ d m k v. elim (dec_lt d b) [
    | yes c ↦ h d m c v
    | no c ↦
        let f = cofactor p d k v in
        let g : b * b ≤ d * b = mul-le-mul_right b (omega arith) in
        h f.0 f.2 (lt_of_mul-lt-mul_left d (omega arith)) f.3
  ];
}

-- The test by remainders, and what a product that is prime says of its factors
pub prime-by_remainders : (p : ℕ) → 1 < p → ((d : ℕ) → 1 < d → d < p → p % d ≢ 0) → Prime p
prime-by_remainders p l h =
    record { large = l; indivisible = λ d m k v. h d m k (mod-eq-zero_of_dvd d v) }

pub prime-factors : {p : ℕ} → Prime p → (d e : ℕ) → d * e ≡ p → (d ≡ 1) ⊎ (d ≡ p)
prime-factors {p} P zero e h = absurd (omega (arith, prime-pos P))
prime-factors {p} P (suc zero) e h = inl refl
prime-factors {p} P (suc (suc d)) e h = elim (dec_lt (suc (suc d)) p) [
  | yes l ↦ absurd (P.indivisible (suc (suc d)) (omega arith) l v)
  | no g ↦ inr (le_antisymm (le_of_dvd (prime-pos P) v) (omega arith))
]
  where
    v : suc (suc d) ∣ p
    v = rw h at (dvd-mul_right (suc (suc d)) e)

pub prime-decided : (p : ℕ) → Dec (Prime p)
prime-decided p = elim (dec_lt 1 p) [
  | no h ↦ no (λ P. h P.large)
  | yes l ↦ elim (none_below (λ d. Dec.and (dec_lt 1 d) (dec_dvd d p)) p) [
    | inl f ↦ no (λ P. P.indivisible f.0 f.2.holds.0 f.1 f.2.holds.1)
    | inr h ↦ yes (record { large = l; indivisible = λ d m k v. h d k (m, v) })
  ]
]

-- The inverse of a modulo p from that of r = p % a: the number - (p / a) times it
inverse-step : (p a k r y : ℕ) → a * k + p ≡ a * p + r → a * (k * y) % p ≡ r * y % p
inverse-step p a k r y e =
    sym (add-mul-mod_self_left (a * (k * y)) p y)
    ∙ ap (λ (x : ℕ). x % p) (omega (arith, ap (λ (x : ℕ). x * y) e))
    ∙ add-mul-mod_self_left (r * y) p (a * y)

module _ {p : ℕ} (P : Prime p) where
  pub one-mod-prime : 1 % p ≡ 1
  one-mod-prime = mod-eq_of_lt P.large

  negated : (a : ℕ) → a * (p - p / a) + p ≡ a * p + p % a
  negated a =
      let e : p / a + (p - p / a) ≡ p = add-sub_of_le (div-le_self p a) in
      omega (arith, ap (λ (x : ℕ). a * x) e, mod-add-div p a)

  inverse_bounded : (b a : ℕ) → a ≤ b → 0 < a → a < p → (x : ℕ) × (a * x % p ≡ 1)
  inverse_bounded zero a l s c = absurd (omega arith)
  inverse_bounded (suc b) a l s c = elim (dec_lt 1 a) [
    | no h ↦ (1, rw (le_antisymm (omega arith) s) one-mod-prime)
    | yes h ↦
        let c₁ : p % a < a = mod-lt p s in
        let s₁ : 0 < p % a = emod_pos_of_not-dvd a (P.indivisible a h c) in
        let f = inverse_bounded b (p % a) (omega arith) s₁ (omega arith) in
        ((p - p / a) * f.0, inverse-step p a (p - p / a) (p % a) f.0 (negated a) ∙ f.1)
  ]

  pub prime-inverse : (a : ℕ) → ¬ (p ∣ a) → (x : ℕ) × (a * x % p ≡ 1)
  prime-inverse a h =
      let c : a % p < p = mod-lt a (prime-pos P) in
      let f = inverse_bounded p (a % p) (omega arith) (emod_pos_of_not-dvd p h) c in
      (f.0, sym (mod-mul-mod a f.0 p) ∙ f.1)

  pub euclid : (a b : ℕ) → p ∣ a * b → (p ∣ a) ⊎ (p ∣ b)
  euclid a b h = elim (dec_dvd p a) [
    | yes d ↦ inl d
    | no n ↦ inr (dvd_of_mod-eq-zero p (other (prime-inverse a n)))
  ]
    where
      other : (x : ℕ) × (a * x % p ≡ 1) → b % p ≡ 0
      other f =
          b % p ≡⟨ ap (λ (y : ℕ). y % p) (sym (one-mul b)) ⟩
          1 * b % p ≡⟨ congruent-mul p 1 b (a * f.0) b (one-mod-prime ∙ sym f.1) refl ⟩
          a * f.0 * b % p ≡⟨ ap (λ (y : ℕ). y % p) (mul_right_comm a f.0 b) ⟩
          a * b * f.0 % p ≡⟨ mod-eq-zero_of_dvd p (dvd-mul_right_of_dvd p h f.0) ⟩
          0 ∎

-- Powers
pub power-less : {q i d : ℕ} → 1 < q → i < d → q ^ i < q ^ d
power-less {q} {i} {d} l k =
    let some : 1 ≤ q ^ i = one-le-pow i q (omega arith) in
    let twice : 2 * q ^ i ≤ q * q ^ i = mul-le-mul_right (q ^ i) l in
    let next : q ^ suc i ≤ q ^ d = pow-le-pow_right (omega arith) k in
    omega (arith, pow-succ' q i)

-- Powers of p in a number
split_bounded : (p : ℕ) → 1 < p → (b N : ℕ) → N ≤ b → 0 < N → (w M : ℕ) × (N ≡ p ^ w * M) × ¬ (p ∣ M)
split_bounded p l zero N k s = absurd (omega arith)
split_bounded p l (suc b) N k s = elim (dec_dvd p N) [
  | no h ↦ (0, N, simp (pow-zero, one-mul), h)
  | yes d ↦
      let q : p * (N / p) ≡ N = mul-div_cancel' p d in
      let s₁ : 0 < N / p = lt_of_mul-lt-mul_left p (omega arith) in
      let f = split_bounded p l b (N / p) (omega (arith, div-lt_self s l)) s₁ in
      (suc f.0, f.1, rw (pow-suc p f.0) (omega (arith, ap (λ (x : ℕ). p * x) f.2)), f.3)
]

pub split-power : (p : ℕ) → 1 < p → (N : ℕ) → 0 < N → (w M : ℕ) × (N ≡ p ^ w * M) × ¬ (p ∣ M)
split-power p l N s = split_bounded p l N N (le_refl N) s
