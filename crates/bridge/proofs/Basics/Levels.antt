-- The level of a number: the power of p that reaches it.
--
--   Level p r t    == t is least with r ≤ p^t; `level-last` tells it from the power before, `level_exists`
--   power-next     == a power, made from the one before it
--   below_power    == a number is below its power of a base above 1
--   level-small    == a level does not exceed its number
--   level-bound    == the power that reaches r > 0 is at most p·r
--
-- Assumes nothing.
use Prim.Native.Nat.{ℕ, zero, suc, ◌+◌, ◌*◌, ◌^◌, ◌≤◌, ◌<◌}
use mathlib.Core.Path.{◌≡◌, refl, sym, ap, subst, ◌∙◌}
use native.Mathlib.Nat as ℕ
use native.Mathlib.Decide.{dec_le}
use native.Mathlib.Omega.{arith}
use Rattle.algebra.proofs.Numbers.Number.{least-below}

pub record Level (p r t : ℕ) : Type 0 where
  pub reaches : r ≤ p ^ t
  pub least : (m : ℕ) → m < t → p ^ m < r

pub level-last : (p r t : ℕ) → 0 < p → r ≤ p ^ t → ((n : ℕ) → t ≡ suc n → p ^ n < r) → Level p r t
level-last p r t l b h = record { reaches = b; least = earlier t h }
  where
    earlier : (t : ℕ) → ((n : ℕ) → t ≡ suc n → p ^ n < r) → (m : ℕ) → m < t → p ^ m < r
    earlier zero h m k = absurd (omega arith)
    earlier (suc n) h m k =
        let c : m ≤ n = omega arith in
        omega (arith, h n refl, ℕ.pow-le-pow_right l c)

pub power-next : (p e q : ℕ) → q ≡ p ^ e → q * p ≡ p ^ (e + 1)
power-next p e q h = ap (λ n. n * p) h ∙ sym (ℕ.pow-suc p e) ∙ ap (◌^◌ p) (omega arith)

pub below_power : (p n : ℕ) → 1 < p → n < p ^ n
below_power p zero l = omega (arith, ℕ.pow-zero p)
below_power p (suc n) l =
    omega (arith, below_power p n l, ℕ.pow-suc p n, ℕ.mul-le-mul_left {m = 2} (p ^ n) l)

pub level-small : {p r t : ℕ} → 1 < p → Level p r t → t ≤ r
level-small {p} {r} {t} l x = go t x.least
  where
    go : (t : ℕ) → ((m : ℕ) → m < t → p ^ m < r) → t ≤ r
    go zero h = omega arith
    go (suc n) h = omega (arith, h n (omega arith), below_power p n l)

pub level-bound : {p r t : ℕ} → 0 < p → 0 < r → Level p r t → p ^ t ≤ p * r
level-bound {p} {r} {t} l k x = go t x.least
  where
    go : (t : ℕ) → ((m : ℕ) → m < t → p ^ m < r) → p ^ t ≤ p * r
    go zero h = omega (arith, ℕ.pow-zero p, ℕ.mul-pos l k)
    go (suc n) h =
        let b : p ^ n ≤ r = omega (arith, h n (omega arith)) in
        subst (λ m. m ≤ p * r) (sym (ℕ.pow-succ' p n)) (ℕ.mul-le-mul_left p b)

pub level_exists : (p r : ℕ) → 1 < p → (t : ℕ) × Level p r t
level_exists p r l =
    let (t, _, x) = least-below (λ t. dec_le r (p ^ t)) r (omega (arith, below_power p r l)) in (
      t,
      record {
        reaches = x.holds;
        least = λ m k. let h : ¬ (r ≤ p ^ m) = x.least m k in omega arith;
      },
    )
