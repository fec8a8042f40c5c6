-- What the contracts of the products cite. A polynomial of degree n stands in the first n + 1 bytes of
-- `answer`.
--
--   places f q n      == the number of coefficients of the product of f(x^q) and a polynomial of degree n
--   Padded f q answer n == this number is at most 4,097, and there is room for as many in `answer`, where
--                          zeros stand after the polynomial
--   Growing f q count answer n == there is room for the product of the polynomial in `answer` and `count`
--                          times f(x^q), whose degree is at most 4,096
--   Multiplied F g answer n answer' n' == the polynomial of degree n in `answer` is multiplied by g, the
--                          bytes beyond are as they were, and n' is the new degree
use Rattle.std.specs.Prelude.{ℕ, ◌+◌, ◌*◌, ◌-◌, ◌≤◌, ◌<◌, ◌≡◌, List, length, get_or, take}
use Rattle.meaning.specs.Field.{Field}
use Rattle.meaning.specs.Polynomial.{Polynomial, degree, times}
use Rattle.meaning.specs.Result.{written}

abbrev pub places : List ℕ → ℕ → ℕ → ℕ
places f q n = n + 1 + q * (length f - 1)

pub record Padded (f : List ℕ) (q : ℕ) (answer : List ℕ) (n : ℕ) : Type 0 where
  pub some_factor : 0 < length f
  pub stride : 0 < q
  pub small : places f q n ≤ 4097
  pub room : places f q n ≤ length answer
  pub zeros : (k : ℕ) → n < k → k < places f q n → get_or answer k 0 ≡ 0

pub record Growing (f : List ℕ) (q count : ℕ) (answer : List ℕ) (n : ℕ) : Type 0 where
  pub some_factor : 0 < length f
  pub stride : 0 < q
  pub small : n + count * (q * (length f - 1)) ≤ 4096
  pub room : n + count * (q * (length f - 1)) < length answer

pub record Multiplied (F : Field) (g : Polynomial) (answer : List ℕ) (n : ℕ) (answer' : List ℕ)
    (n' : ℕ) : Type 0 where
  pub new_degree : n' ≡ n + degree g
  pub bytes : answer' ≡ written (times F g (take (n + 1) answer)) answer
