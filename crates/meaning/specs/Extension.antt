-- Fields of 2^n elements.
--
-- The elements of GF(2^n) are the polynomials in y over GF(2) modulo one of degree n: an element is a number
-- below 2^n whose bit i is the coefficient of y^i.
--
--   bits n a           == the n lowest bits of a, the lowest first: the coefficients of y^0 to y^(n−1)
--   of_bits l           == the number whose bits are l, the lowest first
--   times_y low c r     == c + y·r modulo the reducing polynomial, for a list r of as many bits as low: the
--                         top one moves to y^n, which is `low`
--   reduced low f      == the remainder of the polynomial f in y: as many bits as low
--   reducing n low     == the reducing polynomial: the bits of low, and y^n
--   binary n low       == GF(2^n) with that reducing polynomial; of a number from 2^n on the n lowest bits
--                         count. Nothing here says that the laws hold
use Rattle.std.specs.Prelude.{ℕ, zero, suc, ◌+◌, ◌*◌, ◌-◌, ◌/◌, ◌%◌, ◌^◌, List, [], ◌∷◌, ◌++◌, length, get_or}
use Rattle.std.specs.Prelude.{take}
use Rattle.meaning.specs.Field.{Field, prime}
use Rattle.meaning.specs.Polynomial.{Polynomial, plus, scale, times}

unfoldable pub bits : ℕ → ℕ → List ℕ
bits zero a = []
bits (suc n) a = a % 2 ∷ bits n (a / 2)

unfoldable pub of_bits : List ℕ → ℕ
of_bits [] = 0
of_bits (b ∷ l) = b + 2 * of_bits l

unfoldable pub times_y : List ℕ → ℕ → List ℕ → List ℕ
times_y low c r =
    plus (prime 2) (c ∷ take (length low - 1) r) (scale (prime 2) (get_or r (length low - 1) 0) low)

unfoldable pub reduced : List ℕ → Polynomial → List ℕ
reduced low [] = scale (prime 2) 0 low
reduced low (c ∷ f) = times_y low c (reduced low f)

unfoldable pub reducing : ℕ → ℕ → Polynomial
reducing n low = bits n low ++ (1 ∷ [])

unfoldable pub binary : ℕ → ℕ → Field
binary n low =
    record {
      size = 2 ^ n;
      characteristic = 2;
      add = λ a b. of_bits (plus (prime 2) (bits n a) (bits n b));
      mul = λ a b. of_bits (reduced (bits n low) (times (prime 2) (bits n a) (bits n b)));
    }
