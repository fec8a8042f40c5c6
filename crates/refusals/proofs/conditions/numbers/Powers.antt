-- Powers of a number against a bound.
-- Assumes nothing.
use Prim.Native.Nat.{ℕ, zero, suc, ◌*◌, ◌^◌, ◌≤◌, ◌<◌}
use native.Mathlib.Nat.{pow-zero, pow-le-pow_right, le_trans, le_antisymm, mul-zero, one-mul}
use native.Mathlib.Omega.{arith}
use mathlib.Core.Path.{◌≡◌, sym, ◌∙◌}
use mathlib.Core.Bool.{true, false}
use lib.Dec.{ltb}
use borrow.Author.Tests.{lt-ltb, le-ltb}
use Rattle.bridge.proofs.Basics.Levels.{power-next}

factor-positive : (b a p : ℕ) → b < a * p → 0 < p
factor-positive b a zero h = omega (arith, mul-zero a)
factor-positive b a (suc p) h = omega arith

-- once beyond the bound b, the powers stay beyond it
pub power-beyond : (b p i e : ℕ) {a : ℕ} → a ≡ p ^ i → i < e → b < a * p → true ≡ ltb b (p ^ e)
power-beyond b p i e {a} q l h =
    sym
    (lt-ltb _ _
    (le_trans (rw (power-next p i a q) at h) (pow-le-pow_right (factor-positive b a p h) (omega arith))))

-- a base beyond the bound: so is every power but 1
pub power_of_large : (b p e : ℕ) → 0 < b → b < p → ltb 0 e ≡ ltb b (p ^ e)
power_of_large b p zero h l = sym (le-ltb b (p ^ 0) (omega (arith, pow-zero p)))
power_of_large b p (suc e) h l =
    lt-ltb 0 (suc e) (omega arith)
    ∙ power-beyond b p 0 (suc e) (sym (pow-zero p)) (omega arith) (omega (arith, one-mul p))

pub power-within : (b p i e : ℕ) {a : ℕ} → a ≡ p ^ i → i ≤ e → e ≤ i → a ≤ b → false ≡ ltb b (p ^ e)
power-within b p i e q l m h = sym (le-ltb _ _ (rw (q, le_antisymm l m) at h))
