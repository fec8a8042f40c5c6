-- The period way: what the action of f^(p^w) on the period says, and what the search in its first terms
-- finds. Assumes nothing.
use Prim.Native.Nat.{ℕ, ◌*◌, ◌-◌, ◌^◌, ◌≤◌, ◌<◌, min}
use mathlib.Core.Path.{◌≡◌, sym, ap, subst, ◌∙◌}
use mathlib.Core.Bool.{Bool, true, false, not}
use mathlib.Core.List.{List}
use mathlib.Core.Option as maybe
use mathlib.Core.Option.{none, some}
use Rattle.std.specs.Prelude.{Option, Some, None}
use native.Mathlib.Nat as ℕ
use native.Mathlib.Omega.{arith}
use lib.ListN.{length, take, length-take}
use lib.Seq.{take-length}
use Rattle.meaning.specs.Field.{Field}
use Rattle.meaning.specs.Polynomial.{Polynomial, degree, power}
use Rattle.meaning.specs.Sequence.{annihilates_period}
use Rattle.meaning.specs.Result.{cleared}
use Rattle.meaning.specs.Period.{period_power}
use Rattle.meaning.proofs.Tables.{is_none_none}
use Rattle.bridge.proofs.Basics.Searches.{true-T}
use Rattle.bridge.proofs.Lists.Polynomials.{monic-nonempty, monic-elements}
use Rattle.bridge.proofs.Ways.PowerSearch.{power_found, power_acts, act_steps}
use Rattle.bridge.proofs.Ways.Periods.{PeriodSearch, period-search}
use Rattle.arith.specs.declared.field.GaloisField.{GaloisField}
use Rattle.arith.specs.Represented.{field_of}
use Rattle.arith.proofs.Represented.{field-is_field, characteristic_least}
use Rattle.lent.specs.declared.levels.Level.{Level}
use Rattle.powers.specs.levels.Levels.{Dividing}
use Rattle.lent.specs.halves.Halves.{half, Placed}
use Rattle.lent.specs.raising.Levelled.{Levelled}
use Rattle.powers.specs.digit_search.Searching.{Searchable, Searched}
use Rattle.lent.proofs.halves.Bytes.{take_min, kept_same, placed-kept, kept_trans, cleared-kept}
use Rattle.period_way.specs.Period.{told, PeriodInput, PeriodSearched, PeriodFound}

pub dividing_low : {p n : ℕ} {level : Level} → 0 < n → Dividing p n level → level.power ≤ n
dividing_low {p} {n} {level} l x =
    omega (arith, x.is_level.power, x.product, ℕ.le-mul_of_pos_right (p ^ level.exponent) some-rest)
  where
    some-rest : 0 < x.rest
    some-rest =
        ℕ.pos_of_ne-zero
        (λ z. omega (arith, x.product ∙ ap (◌*◌ (p ^ level.exponent)) z ∙ ℕ.mul-zero (p ^ level.exponent)))

-- Answers on lists
module _ (field : GaloisField) (f : Polynomial) (ts : List ℕ)
    (x : PeriodInput (field_of field) f ts) (level : Level)
    (l : Dividing (field_of field).characteristic (length ts) level) where
  period-found :
      PeriodSearch (field_of field) f ts (power_acts (field_of field) f) (field_of field).characteristic
      level.exponent
  period-found =
      period-search (field-is_field field) f ts x.monic x.positive x.irreducibility x.at_least_one
      x.in_field level.exponent l.rest l.product l.undivided (power_acts (field_of field) f)
      (act_steps (field_of field) f)

  period-some :
      annihilates_period (field_of field) (power (field_of field) f level.power) ts ≡ true
      → period_power (field_of field) f ts
      ≡ some (
      power_found (power_acts (field_of field) f) (field_of field).characteristic (degree f) level.exponent
      (take (level.power * degree f) ts)
      )
  period-some =
      subst
      (λ q.
      annihilates_period (field_of field) (power (field_of field) f q) ts ≡ true
      → period_power (field_of field) f ts
      ≡ some (
      power_found (power_acts (field_of field) f) (field_of field).characteristic (degree f) level.exponent
      (take (q * degree f) ts)
      ))
      (sym l.is_level.power)
      (λ h. period-found.finds (true-T h))

  pub period-none :
      annihilates_period (field_of field) (power (field_of field) f level.power) ts ≡ false
      → period_power (field_of field) f ts ≡ none
  period-none =
      subst
      (λ q.
      annihilates_period (field_of field) (power (field_of field) f q) ts ≡ false
      → period_power (field_of field) f ts ≡ none)
      (sym l.is_level.power)
      (λ h. is_none_none (true-T (period-found.decides ∙ ap not h)))

  -- What the search asks
  pub period-nonempty : 0 < length f
  period-nonempty = monic-nonempty (field_of field) f x.monic

  period-near : level.power ≤ 4096
  period-near = omega (arith, dividing_low x.at_least_one l, x.not_many)

  pub period-fits : level.power * (length f - 1) < 2 ^ 64
  period-fits =
      let d : length f - 1 ≤ 4096 = omega (arith, x.short) in
      omega (arith, ℕ.mul-le-mul period-near d)

  pub period_searchable : Searchable field f level
  period_searchable =
      record {
        elements = monic-elements (field_of field) f x.monic;
        nonempty = period-nonempty;
        short = x.short;
        is_level = l.is_level;
        near = omega (arith, period-near, characteristic_least field);
      }

  pub period_levelled : Levelled field f level
  period_levelled =
      record {
        elements = monic-elements (field_of field) f x.monic;
        nonempty = period-nonempty;
        short = x.short;
        base = l.is_level.base;
        near = period-near;
      }

  -- What it answers
  module _ {b : Bool}
      (e : b ≡ annihilates_period (field_of field) (power (field_of field) f level.power) ts) where
    pub searched-none : (w : List ℕ) → b ≡ false → PeriodSearched (field_of field) f ts w w None
    unfolding told
    searched-none w h = record { power = sym (period-none (sym e ∙ h)); kept = kept_same w }

    module _ {w w₁ : List ℕ} {count : ℕ} (small : count ≡ min (length ts) (level.power * (length f - 1)))
        (loaded : Placed w 0 1 (take count ts) w₁) where
      first-terms : half w₁ 0 count ≡ take (level.power * degree f) ts
      unfolding degree
      first-terms =
          let n : length (take count ts) ≡ count = omega (arith, length-take count ts) in
          sym (ap (half w₁ 0) n)
          ∙ loaded.made
          ∙ ap (λ k. take k ts) small
          ∙ sym (take_min (length ts) (level.power * degree f) ts)
          ∙ ap (take (level.power * degree f)) (take-length ts)

      pub searched-some :
          {w₂ : List ℕ} {r : ℕ}
          → b ≡ true
          → Searched field w₁ 0 count f level w₂ r
          → PeriodSearched (field_of field) f ts w w₂ (Some r)
      unfolding told
      searched-some h y =
          record {
            power =
                ap {B = maybe.Option ℕ} some
                (y.power
                ∙ ap
                (power_found (power_acts (field_of field) f) (field_of field).characteristic (degree f)
                level.exponent)
                first-terms)
                ∙ sym (period-some (sym e ∙ h));
            kept = kept_trans (placed-kept loaded) y.kept;
          }

-- a period that was searched, and the work bytes cleared
pub cleared-found :
    {F : Field} {f ts w w₁ w₂ : List ℕ} {r : Option ℕ}
    → PeriodSearched F f ts w w₁ r
    → w₂ ≡ cleared w₁
    → PeriodFound F f ts w w₂ r
cleared-found x e = record { power = x.power; work = e ∙ cleared-kept x.kept }
