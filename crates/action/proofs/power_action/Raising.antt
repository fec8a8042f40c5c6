-- A power that acts in the halves of the work bytes, digit by digit.
--
--   Raising field f u m s w₀ w at rest level == f^(rest·q) on the terms of w at the place `at` is f^u on the
--                        terms s; q is the power of the level, m terms are left in the end, and w₀ has
--                        become w
--
-- Assumes nothing.
use Prim.Native.Nat.{ℕ, suc, ◌+◌, ◌*◌, ◌-◌, ◌^◌, ◌/◌, ◌%◌, ◌≤◌, ◌<◌}
use mathlib.Core.Path.{◌≡◌, sym, ap, subst, ◌∙◌}
use mathlib.Core.Bool.{Bool}
use mathlib.Core.List.{List}
use native.Mathlib.Nat as ℕ
use native.Mathlib.Omega.{arith}
use lib.ListN.{length}
use lib.Dec.{T}
use Rattle.meaning.specs.Field.{are_elements}
use Rattle.meaning.specs.Polynomial.{Polynomial, degree, power}
use Rattle.meaning.specs.Sequence.{act_on_known}
use Rattle.bridge.proofs.Sequences.KnownActions.{act_on_known-elements, act_on_known-power-zero}
use Rattle.bridge.proofs.Sequences.KnownActions.{act_on_known-power-add}
use Rattle.arith.specs.declared.field.GaloisField.{GaloisField}
use Rattle.arith.specs.Represented.{field_of}
use Rattle.arith.proofs.Represented.{field-is_field}
use Rattle.lent.specs.halves.Halves.{half, Halves, Acted}
use Rattle.lent.specs.halves.Kept.{Kept}
use Rattle.lent.specs.declared.halves.Place.{Place}
use Rattle.lent.specs.declared.levels.Level.{Level}
use Rattle.action.specs.power_action.Acting.{Actable, PowerActed}
use Rattle.lent.proofs.halves.Bytes.{acted-values, acted_halves, acted-kept, kept_same, kept_trans}

pub record Raising (field : GaloisField) (f : Polynomial) (u m : ℕ) (s w₀ w : List ℕ)
    (at : Place) (rest : ℕ) (level : Level) : Type 0 where
  pub halves : Halves w at.half at.count
  pub terms : T (are_elements (field_of field) (half w at.half at.count))
  pub base : level.base ≡ (field_of field).characteristic
  pub result :
      act_on_known (field_of field) (power (field_of field) f (rest * level.power)) (half w at.half at.count)
      ≡ act_on_known (field_of field) (power (field_of field) f u) s
  pub size : at.count ≡ m + rest * level.power * degree f
  pub few : rest * level.power ≤ u
  pub kept : Kept w₀ w

module _ (field : GaloisField) (f : Polynomial) (u : ℕ) where
  pub raising_start :
      {w : List ℕ} {at : Place} {level : Level}
      → Halves w at.half at.count
      → Actable field w at.half at.count f u
      → level.base ≡ (field_of field).characteristic
      → level.exponent ≡ 0
      → Raising field f u (at.count - u * degree f) (half w at.half at.count) w w at u level
  raising_start {w} {at} {level} x a e z =
      record {
        halves = x;
        terms = a.terms;
        base = e;
        result =
            ap (λ r. act_on_known (field_of field) (power (field_of field) f r) (half w at.half at.count))
            once;
        size = omega (arith, a.enough, ap (λ r. r * degree f) once);
        few = omega (arith, once);
        kept = kept_same w;
      }
    where
      once : u * level.power ≡ u
      once =
          ap (λ q. u * q) (level.is_power ∙ ap (λ n. level.base ^ n) z ∙ ℕ.pow-zero level.base)
          ∙ ℕ.mul-one u

  module _ {m : ℕ} {s w₀ w : List ℕ} {at : Place} {rest : ℕ} {level : Level}
      (x : Raising field f u m s w₀ w at rest level) where
    abbrev q : ℕ
    q = level.power

    -- the next digit
    pub raising_level :
        {next : Level}
        → rest % level.base ≡ 0
        → next.base ≡ level.base
        → next.power ≡ level.power * level.base
        → Raising field f u m s w₀ w at (rest / level.base) next
    raising_level {next} divides e d =
        record {
          halves = x.halves;
          terms = x.terms;
          base = e ∙ x.base;
          result =
              ap (λ r. act_on_known (field_of field) (power (field_of field) f r) (half w at.half at.count))
              exponent_same
              ∙ x.result;
          size = x.size ∙ ap (λ r. m + r * degree f) (sym exponent_same);
          few = omega (arith, exponent_same, x.few);
          kept = x.kept;
        }
      where
        exponent_same : rest / level.base * next.power ≡ rest * q
        exponent_same =
            ap (λ r. rest / level.base * r) (d ∙ ℕ.mul_comm q level.base)
            ∙ sym (ℕ.mul_assoc (rest / level.base) level.base q)
            ∙ ap (λ r. r * q) (omega (arith, ℕ.div-add-mod' rest level.base))

    -- one action
    module _ (positive : 0 < rest) where
      exponent-parts : (rest - 1) * q + q ≡ rest * q
      exponent-parts =
          let e : suc (rest - 1) ≡ rest = omega arith in
          sym (ℕ.suc-mul (rest - 1) q) ∙ ap (λ r. r * q) e

      pub raising_stride : q ≤ u
      raising_stride = omega (arith, exponent-parts, x.few)

      pub raising_enough : q * degree f ≤ at.count
      raising_enough =
          omega (
            arith,
            x.size,
            ap (λ r. r * degree f) (sym exponent-parts) ∙ ℕ.add-mul ((rest - 1) * q) q (degree f),
          )

      pub raising_act :
          {w' : List ℕ} {r : Bool}
          → 0 < length f
          → Acted w at.half
          (act_on_known (field_of field) (power (field_of field) f q) (half w at.half at.count)) w' r
          → Raising field f u m s w₀ w'
          (record { half = 1 - at.half; count = at.count - q * degree f }) (rest - 1) level
      raising_act {w'} nonempty y =
          record {
            halves = acted_halves (field-is_field field) f nonempty q x.halves y;
            terms =
                subst (λ l. T (are_elements (field_of field) l)) (sym values)
                (act_on_known-elements (field-is_field field) (power (field_of field) f q)
                (half w at.half at.count));
            base = x.base;
            result =
                ap (act_on_known (field_of field) (power (field_of field) f ((rest - 1) * q)))
                values
                ∙ sym
                (act_on_known-power-add (field-is_field field) f nonempty ((rest - 1) * q) q
                (half w at.half at.count))
                ∙ ap
                (λ r. act_on_known (field_of field) (power (field_of field) f r) (half w at.half at.count))
                exponent-parts
                ∙ x.result;
            size =
                omega (
                  arith,
                  x.size,
                  ap (λ r. r * degree f) (sym exponent-parts) ∙ ℕ.add-mul ((rest - 1) * q) q (degree f),
                );
            few = omega (arith, exponent-parts, x.few);
            kept = kept_trans x.kept (acted-kept (field-is_field field) f nonempty q x.halves y);
          }
        where
          values :
              half w' (1 - at.half) (at.count - q * degree f)
              ≡ act_on_known (field_of field) (power (field_of field) f q) (half w at.half at.count)
          values = acted-values (field-is_field field) f nonempty q x.halves y

    pub raising_end :
        {h n : ℕ}
        → 0 < length f
        → rest ≡ 0
        → m ≡ n - u * degree f
        → s ≡ half w₀ h n
        → PowerActed field w₀ h n f u w at
    raising_end {h} {n} nonempty z e p =
        record {
          values =
              sym
              (act_on_known-power-zero (field-is_field field) f nonempty (half w at.half at.count) x.terms)
              ∙ ap (λ r. act_on_known (field_of field) (power (field_of field) f r) (half w at.half at.count))
              (sym (ap (λ r. r * q) z ∙ ℕ.zero-mul q))
              ∙ x.result
              ∙ ap (act_on_known (field_of field) (power (field_of field) f u)) p;
          which = x.halves.which;
          size =
              x.size
              ∙ ap (λ r. m + r * degree f) (ap (λ r. r * q) z ∙ ℕ.zero-mul q)
              ∙ omega (arith, e, ℕ.zero-mul (degree f));
          kept = x.kept;
        }
