-- The search in the halves of the work bytes, level by level.
--
--   Seeking field f e top s w₀ w at count l r == the power of the terms s with e levels is made of r and the
--                        digits below the level l of the `count` terms of half `at` of w; r is 0 where
--                        nothing is known yet; `top` is the power of the characteristic p by e, and w₀ has
--                        become w
--   Going …           == the same where something is left, so that r is at least 1
--   Below l b         == b is the level below l
--
-- Assumes nothing.
use Prim.Native.Nat.{ℕ, suc, ◌+◌, ◌*◌, ◌-◌, ◌^◌, ◌/◌, ◌≤◌, ◌<◌, min}
use mathlib.Core.Path.{◌≡◌, sym, ap, subst, ◌∙◌}
use mathlib.Core.List.{List}
use native.Mathlib.Nat as ℕ
use native.Mathlib.Omega.{arith}
use lib.ListN.{take}
use lib.Dec.{T}
use Rattle.meaning.specs.Polynomial.{Polynomial, degree, power}
use Rattle.bridge.proofs.Sequences.KnownActions.{all_zero, act_on_known-zeros}
use Rattle.bridge.proofs.Ways.PowerSearch.{digits_found, power_found, power_acts}
use Rattle.arith.specs.declared.field.GaloisField.{GaloisField}
use Rattle.arith.specs.Represented.{field_of}
use Rattle.arith.proofs.Represented.{field-is_field}
use Rattle.lent.specs.declared.levels.Level.{Level}
use Rattle.lent.specs.halves.Halves.{half, Halves}
use Rattle.lent.specs.halves.Kept.{Kept}
use Rattle.lent.proofs.halves.Bytes.{half-cut, kept_same, kept_trans}
use Rattle.powers.proofs.levels.Climbing.{based-level}
use Rattle.powers.proofs.digit_search.Trying.{Tried, tried-low, resumed, resumed-start, resumed-zeros}
use Rattle.powers.proofs.digit_search.Trying.{resumed-first, resumed-later, resumed-none}
use Rattle.powers.proofs.digit_search.Trying.{resumed-level, level-parts}

abbrev pub step_of : GaloisField → Polynomial → ℕ → List ℕ → List ℕ
step_of field f = power_acts (field_of field) f

abbrev pub sought : GaloisField → Polynomial → ℕ → List ℕ → ℕ
sought field f e s = power_found (step_of field f) (field_of field).characteristic (degree f) e s

-- the digits below a level, and the power that is made of a number and of them
abbrev pub digits : GaloisField → Polynomial → ℕ → List ℕ → ℕ
digits field f l s = digits_found (step_of field f) (field_of field).characteristic (degree f) l s

abbrev pub resuming : GaloisField → Polynomial → ℕ → ℕ → List ℕ → ℕ
resuming field f r l s = resumed (step_of field f) (field_of field).characteristic (degree f) r l s

pub record Seeking (field : GaloisField) (f : Polynomial) (e top : ℕ) (s w₀ w : List ℕ) (at count : ℕ)
    (level : Level) (r : ℕ) : Type 0 where
  pub halves : Halves w at count
  pub base : level.base ≡ (field_of field).characteristic
  pub result : resuming field f r level.exponent (half w at count) ≡ sought field f e s
  pub bound : r - 1 + level.power ≤ top
  pub kept : Kept w₀ w

pub record Going (field : GaloisField) (f : Polynomial) (e top : ℕ) (s w₀ w : List ℕ) (at count : ℕ)
    (level : Level) (r : ℕ) : Type 0 where
  pub halves : Halves w at count
  pub base : level.base ≡ (field_of field).characteristic
  pub positive : 0 < r
  pub result : r + digits field f level.exponent (half w at count) ≡ sought field f e s
  pub bound : r - 1 + level.power ≤ top
  pub kept : Kept w₀ w

pub seeking_start :
    (field : GaloisField) (f : Polynomial) {w : List ℕ} {h n : ℕ} (level : Level)
    → Halves w h n
    → level.base ≡ (field_of field).characteristic
    → Seeking field f level.exponent level.power (half w h n) w w h n level 0
seeking_start field f {w} {h} {n} level x p =
    record {
      halves = x;
      base = p;
      result =
          resumed-start (step_of field f) (field_of field).characteristic (degree f) level.exponent
          (half w h n);
      bound = omega arith;
      kept = kept_same w;
    }

-- The level below
pub near_below : (level : Level) (r : ℕ) {top : ℕ} {q : ℕ} → r - 1 + level.power ≤ top
    → top ≤ 4096 * level.base
    → q ≡ level.power / level.base
    → q ≤ 4096
near_below level r bound h e =
    rw e (ℕ.div-le_of_le-mul level.base (omega (arith, ℕ.mul_comm 4096 level.base)))

pub record Below (level below : Level) : Type 0 where
  pub base : below.base ≡ level.base
  pub exponent : below.exponent + 1 ≡ level.exponent
  pub power : below.power ≡ level.power / level.base

below-parts : {level below : Level} → Below level below
    → (below.base - 1) * below.power + below.power ≡ level.power
below-parts {level} {below} b =
    rw (b.base, b.power)
    (level-parts level.base level.exponent level.power (omega (arith, level.base_least))
    (λ z. omega (arith, b.exponent)) level.is_power)

module _
    {field : GaloisField} {f : Polynomial} {e top : ℕ} {s w₀ w : List ℕ} {at count : ℕ} {level : Level}
    {r : ℕ}
  where
    pub seeking_zero :
        Seeking field f e top s w₀ w at count level r
        → T (all_zero (half w at count))
        → r ≡ sought field f e s
    seeking_zero x h =
        sym (resumed-zeros (step_of field f) (field_of field).characteristic (degree f)
        (λ q. act_on_known-zeros (field-is_field field) (power (field_of field) f q)) r level.exponent
        (half w at count) h)
        ∙ x.result

    -- the power is at least 1 where something is left
    pub seeking_first :
        Seeking field f e top s w₀ w at count level r
        → ¬ T (all_zero (half w at count))
        → r ≡ 0
        → Going field f e top s w₀ w at count level 1
    seeking_first x h z =
        record {
          halves = x.halves;
          base = x.base;
          positive = omega arith;
          result =
              sym (resumed-first (step_of field f) (field_of field).characteristic (degree f) level.exponent
              (half w at count) h)
              ∙ ap (λ n. resuming field f n level.exponent (half w at count)) (sym z)
              ∙ x.result;
          bound = omega (arith, x.bound);
          kept = x.kept;
        }

    pub seeking_later :
        Seeking field f e top s w₀ w at count level r
        → (r ≡ 0 → ⊥)
        → Going field f e top s w₀ w at count level r
    seeking_later x z =
        let k : 0 < r = ℕ.pos_of_ne-zero z in
        record {
          halves = x.halves;
          base = x.base;
          positive = k;
          result =
              sym (resumed-later (step_of field f) (field_of field).characteristic (degree f) r level.exponent
              (half w at count) k)
              ∙ x.result;
          bound = x.bound;
          kept = x.kept;
        }

    module _ (x : Going field f e top s w₀ w at count level r) where
      pub going_end : level.exponent ≡ 0 → r ≡ sought field f e s
      going_end z =
          sym (resumed-none (step_of field f) (field_of field).characteristic (degree f) r (half w at count))
          ∙ ap (λ n. r + digits field f n (half w at count)) (sym z)
          ∙ x.result

      module _ {below : Level} (b : Below level below) where
        module _ {w' : List ℕ} {at' count' i : ℕ} (halves : Halves w' at' count') (kept : Kept w w')
            (tried : Tried (step_of field f) (below.base - 1) below.power (half w at count) i
            (half w' at' count')) where
          pub going_fits : r + i * below.power + below.power ≤ r + level.power
          going_fits =
              omega (arith, below-parts b, ℕ.mul-le-mul_right below.power (tried-low tried))

          pub going_next :
              Seeking field f e top s w₀ w' at' (min count' (below.power * degree f)) below
              (r + i * below.power)
          going_next =
              record {
                halves =
                    record {
                      enough = halves.enough;
                      which = halves.which;
                      few = omega (arith, halves.few);
                    };
                base = b.base ∙ x.base;
                result =
                    ap (resuming field f (r + i * below.power) below.exponent)
                    (half-cut w' at' count' (below.power * degree f))
                    ∙ found
                    ∙ x.result;
                bound = omega (arith, going_fits, x.bound, x.positive);
                kept = kept_trans x.kept kept;
              }
            where
              at_level :
                  (k : ℕ)
                  → k ≡ (field_of field).characteristic ^ below.exponent
                  → Tried (step_of field f) ((field_of field).characteristic - 1) k (half w at count) i
                  (half w' at' count')
                  → resuming field f (r + i * k) below.exponent (take (k * degree f) (half w' at' count'))
                  ≡ r
                  + digits field f (suc below.exponent) (half w at count)
              at_level k p t =
                  subst
                  (λ m.
                  Tried (step_of field f) ((field_of field).characteristic - 1) m (half w at count) i
                  (half w' at' count')
                  → resuming field f (r + i * m) below.exponent (take (m * degree f) (half w' at' count'))
                  ≡ r
                  + digits field f (suc below.exponent) (half w at count))
                  (sym p)
                  (resumed-level (step_of field f) (field_of field).characteristic (degree f) r
                  below.exponent i (half w at count) (half w' at' count') x.positive)
                  t

              found :
                  resuming field f (r + i * below.power) below.exponent
                  (take (below.power * degree f) (half w' at' count'))
                  ≡ r + digits field f level.exponent (half w at count)
              found =
                  let e : suc below.exponent ≡ level.exponent = omega (arith, b.exponent) in
                  at_level below.power (based-level below (b.base ∙ x.base)).power
                  (subst
                  (λ k.
                  Tried (step_of field f) (k - 1) below.power (half w at count) i (half w' at' count'))
                  (b.base ∙ x.base)
                  tried)
                  ∙ ap (λ m. r + digits field f m (half w at count)) e
