-- Numbers of several bytes.
--
--   number-below     == a number of i bytes, continued by one byte, is below 256^(i + 1)
--   number_fits      == it is so below 256^j for every j above i
-- Assumes nothing.
use Prim.Native.Nat.{ℕ, ◌+◌, ◌*◌, ◌^◌, ◌<◌}
use mathlib.Core.Path.{◌≡◌, ap, ◌∙◌}
use native.Mathlib.Nat.{lt_of_lt_of_le}
use native.Mathlib.Omega.{arith}
use lib.Pow.{pow-add, pow_mono}

pub number-below : (n b i : ℕ) → n < 2 ^ (8 * i) → b < 256 → 256 * n + b < 2 ^ (8 * (i + 1))
number-below n b i h hb =
    let e : 2 ^ (8 * (i + 1)) ≡ 2 ^ (8 * i) * 2 ^ 8 = ap (λ k. 2 ^ k) (omega arith) ∙ pow-add 2 (8 * i) 8 in
    omega arith

pub number_fits : (j n b i : ℕ) → n < 2 ^ (8 * i) → b < 256 → i < j → 256 * n + b < 2 ^ (8 * j)
number_fits j n b i h hb hi = lt_of_lt_of_le (number-below n b i h hb) (pow_mono {j = 8 * j} (omega arith))
