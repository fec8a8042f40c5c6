-- Finite fields, and GF(p): the numbers 0 to p − 1 with sums and products modulo the prime p. (Fields of 2^n
-- elements are in Extension.)
--
--   Field             == a finite field by its size, its characteristic, and the sum and product of its
--                        elements, which are the numbers below its size; nothing here says that the laws hold
--   prime p           == GF(p); for p = 0 the remainder is the number itself
--   PrimeNumber n     == n is at least 2 and only 1 and n divide it, in words
--   is_prime n         == the same by trying every possible divisor
--   prime_in_range n    == n is a prime from 2 to 251 (the answer of the public call)
--   is_element F a     == a is an element of F
--   are_elements F l   == every number of the list is an element of F
--   multiple F n a    == the n-fold sum of a; 0 for n = 0
--   negative F a      == the element whose sum with a is 0: one multiple of a less than the characteristic
use Rattle.std.specs.Prelude.{ℕ, zero, suc, ◌+◌, ◌*◌, ◌-◌, ◌%◌, ◌≤◌, ◌≡◌, Bool, true, false, not, ◌&&◌, ◌⊎◌}
use Rattle.std.specs.Prelude.{List, leb, ltb, eqb}
use Rattle.meaning.specs.Search.{range, holds_for_all}

pub record Field : Type 0 where
  pub size : ℕ
  pub characteristic : ℕ
  pub add : ℕ → ℕ → ℕ
  pub mul : ℕ → ℕ → ℕ

unfoldable pub prime : ℕ → Field
prime p = record { size = p; characteristic = p; add = λ a b. (a + b) % p; mul = λ a b. (a * b) % p }

pub record PrimeNumber (n : ℕ) : Type 0 where
  pub at_least_two : 2 ≤ n
  pub only_trivial : (d e : ℕ) → d * e ≡ n → (d ≡ 1) ⊎ (d ≡ n)

unfoldable pub is_prime : ℕ → Bool
is_prime n = leb 2 n && holds_for_all (λ d. not (eqb (n % d) 0)) (range 2 (n - 2))

unfoldable pub largest_prime : ℕ
largest_prime = 251

unfoldable pub prime_in_range : ℕ → Bool
prime_in_range n = elim (leb n largest_prime) [ true ↦ is_prime n | false ↦ false ]

unfoldable pub is_element : Field → ℕ → Bool
is_element F a = ltb a F.size

unfoldable pub are_elements : Field → List ℕ → Bool
are_elements F l = holds_for_all (is_element F) l

unfoldable pub multiple : Field → ℕ → ℕ → ℕ
multiple F zero a = 0
multiple F (suc n) a = F.add a (multiple F n a)

unfoldable pub negative : Field → ℕ → ℕ
negative F a = multiple F (F.characteristic - 1) a
