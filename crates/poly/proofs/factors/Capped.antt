-- Numbers as far as a limit: a number itself, or 4,097 where it is larger.
-- Assumes nothing.
use Prim.Native.Nat.{ℕ, ◌+◌, min, ◌≤◌, ◌<◌}
use native.Mathlib.Nat.{min-le_left, min-eq_left, min-eq_right, le_trans}
use native.Mathlib.Decide.{dec_le}
use native.Mathlib.Omega.{arith}
use mathlib.Core.Path.{◌≡◌, sym, ap, ◌∙◌}
use lib.Dec.{ltb}
use borrow.Author.Tests.{lt-ltb}

pub capped_within : (a : ℕ) → a ≤ 4096 → a ≡ min a 4097
capped_within a h = sym (min-eq_left (le_trans h (omega arith)))

pub capped_beyond : (a : ℕ) → 4096 < a → 4097 ≡ min a 4097
capped_beyond a h = sym (min-eq_right h)

pub capped_test : (a : ℕ) → ltb 4096 (min a 4097) ≡ ltb 4096 a
capped_test a =
    elim (dec_le a 4096) [
      | yes h ↦ ap (ltb 4096) (sym (capped_within a h))
      | no h ↦ ap (ltb 4096) (sym (capped_beyond a (omega arith))) ∙ sym (lt-ltb 4096 a (omega arith))
    ]

-- a sum with a capped number
pub sum-beyond : (s a : ℕ) → 4096 < s + min a 4097 → 4096 < s + a
sum-beyond s a h = omega (arith, min-le_left a 4097)

pub sum-within : (s a : ℕ) → s + min a 4097 ≤ 4096 → min a 4097 ≡ a
sum-within s a h =
    elim (dec_le a 4096) [
      | yes q ↦ sym (capped_within a q)
      | no q ↦ absurd (omega (arith, capped_beyond a (omega arith)))
    ]
