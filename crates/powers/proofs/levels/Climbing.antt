-- Powers of p one after the other, up to a number or out of a number.
--
--   field-base        == the characteristic of a field is a base of levels
--   based-level       == a level with the base p is a power of p
--   level-rises       == the next power is larger
--   Climbing p r l    == l is a level of p, and the power before it is less than r
--   Splitting p n l m == l is a level of p, n is its power times m, and m is not 0
--
-- Assumes nothing.
use Prim.Native.Nat.{ℕ, suc, ◌+◌, ◌*◌, ◌^◌, ◌/◌, ◌%◌, ◌≤◌, ◌<◌}
use mathlib.Core.Path.{◌≡◌, sym, ap, subst, ◌∙◌}
use native.Mathlib.Nat as ℕ
use native.Mathlib.Omega.{arith}
use Rattle.bridge.proofs.Basics.Levels.{level-last, below_power}
use Rattle.arith.specs.declared.field.GaloisField.{GaloisField}
use Rattle.arith.specs.Represented.{field_of}
use Rattle.arith.proofs.Represented.{characteristic_least, characteristic_most}
use Rattle.lent.specs.declared.levels.Level.{Level}
use Rattle.powers.specs.levels.Levels.{Base, IsLevel, Reaching, Dividing}

pub field-base : (field : GaloisField) → Base (field_of field).characteristic
field-base field = record { low = characteristic_least field; high = characteristic_most field }

pub based-level : {p : ℕ} (level : Level) → level.base ≡ p → IsLevel p level
based-level level e =
    record { base = e; power = level.is_power ∙ ap (λ p. p ^ level.exponent) e }

-- an exponent is below its power, which the next exceeds
pub level-rises : (level : Level) → level.power < level.power * level.base
level-rises level =
    omega (
      arith,
      below_power level.base level.exponent level.base_least,
      level.is_power,
      ℕ.mul-le-mul_left level.power level.base_least,
    )

-- Up to a number
pub record Climbing (p r : ℕ) (level : Level) : Type 0 where
  pub base : level.base ≡ p
  pub last : (n : ℕ) → level.exponent ≡ suc n → p ^ n < r

pub climbing_none :
    {p : ℕ} (r : ℕ) {level : Level} → (level.base ≡ p) × (level.exponent ≡ 0) → Climbing p r level
climbing_none r (b, e) = record { base = b; last = λ n k. absurd (omega arith) }

pub climbing_more :
    {p r : ℕ} {level next : Level}
    → Climbing p r level
    → level.power < r
    → next.base ≡ level.base
    → next.exponent ≡ level.exponent + 1
    → Climbing p r next
climbing_more {p} {r} {level} x l b e =
    record {
      base = b ∙ x.base;
      last =
          λ n k.
          let j : level.exponent ≡ n = omega arith in
          subst (λ m. p ^ m < r) j (subst (λ m. m < r) (based-level level x.base).power l);
    }

pub climbing_end : {p r : ℕ} {level : Level} → Base p → Climbing p r level → r ≤ level.power
    → Reaching p r level
climbing_end {p} {r} {level} b x l =
    record {
      is_level = based-level level x.base;
      least =
          level-last p r level.exponent (omega (arith, b.low))
          (subst (λ m. r ≤ m) (based-level level x.base).power l) x.last;
    }

-- Out of a number
pub record Splitting (p n : ℕ) (level : Level) (m : ℕ) : Type 0 where
  pub base : level.base ≡ p
  pub product : n ≡ level.power * m
  pub positive : 0 < m

pub splitting_none :
    {p n : ℕ} {level : Level} → (level.base ≡ p) × (level.exponent ≡ 0) → 0 < n → Splitting p n level n
splitting_none {p} {n} {level} (b, e) l =
    record {
      base = b;
      product =
          sym (ap (λ q. q * n) (level.is_power ∙ ap (◌^◌ level.base) e ∙ ℕ.pow-zero level.base)
          ∙ ℕ.one-mul n);
      positive = l;
    }

module _ {p n m : ℕ} {level : Level} (b : Base p) (x : Splitting p n level m) where
  pub splitting_low : level.power ≤ n
  splitting_low = omega (arith, x.product, ℕ.le-mul_of_pos_right level.power x.positive)

  parts : m % p ≡ 0 → p * (m / p) ≡ m
  parts h = omega (arith, ℕ.div-add-mod m p)

  pub splitting_falls : m / p < m
  splitting_falls = ℕ.div-lt_self x.positive b.low

  pub splitting_more :
      {next : Level}
      → m % p ≡ 0
      → next.base ≡ level.base
      → next.power ≡ level.power * level.base
      → Splitting p n next (m / p)
  splitting_more h e q =
      record {
        base = e ∙ x.base;
        product =
            x.product
            ∙ ap (◌*◌ level.power) (sym (parts h))
            ∙ sym (ℕ.mul_assoc level.power p (m / p))
            ∙ ap (λ k. level.power * k * (m / p)) (sym x.base)
            ∙ ap (λ k. k * (m / p)) (sym q);
        positive = ℕ.pos_of_ne-zero (λ z. zero_rest z);
      }
    where
      zero_rest : m / p ≡ 0 → ⊥
      zero_rest z = omega (arith, sym (parts h) ∙ ap (◌*◌ p) z ∙ ℕ.mul-zero p, x.positive)

  pub splitting_end : (m % p ≡ 0 → ⊥) → Dividing p n level
  splitting_end h =
      record {
        is_level = based-level level x.base;
        rest = m;
        product = x.product ∙ ap (λ k. k * m) (based-level level x.base).power;
        undivided = h;
      }
