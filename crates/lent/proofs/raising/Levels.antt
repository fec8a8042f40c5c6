-- Elements raised level by level.
--
--   Raised F a₀ a i   == a is a₀ with each element raised to the power p^i of the characteristic p
--   raised-none, raised-more == at no level, at one level more
--   raised-part       == a list that was raised at the front of another, lent as a part
--   level-power       == the level of a polynomial, by the characteristic of the field
--
-- Assumes nothing.
use Prim.Native.Nat.{ℕ, suc, ◌+◌, ◌-◌, ◌^◌}
use mathlib.Core.Path.{◌≡◌, sym, ap, subst, ◌∙◌}
use mathlib.Core.List.{List, map}
use native.Mathlib.Nat.{sub-zero}
use native.Mathlib.Omega.{arith}
use lib.ListN.{length, take}
use lib.Dec.{T}
use Rattle.meaning.specs.Field.{Field, are_elements}
use Rattle.bridge.proofs.Basics.Interpretation.{IsField}
use Rattle.bridge.proofs.Lists.Spread.{raise, raises_none, raises_again, raises_elements}
use Rattle.arith.specs.declared.field.GaloisField.{GaloisField}
use Rattle.arith.specs.Represented.{field_of}
use Rattle.lent.specs.declared.levels.Level.{Level}
use Rattle.lent.specs.raising.Levelled.{Levelled}

pub record Raised (F : Field) (a₀ a : List ℕ) (i : ℕ) : Type 0 where
  pub elements : T (are_elements F a)
  pub values : a ≡ map (raise F (F.characteristic ^ i)) a₀

module _ {F : Field} (I : IsField F) where
  pub raised-none : (a : List ℕ) → T (are_elements F a) → Raised F a a 0
  raised-none a h = record { elements = h; values = sym (raises_none I a h) }

  pub raised-more :
      {a₀ a b : List ℕ} (i : ℕ)
      → Raised F a₀ a i
      → b ≡ map (raise F F.characteristic) a
      → Raised F a₀ b (i + 1)
  raised-more {a₀} {a} {b} i x e =
      record {
        elements = subst (λ l. T (are_elements F l)) (sym e) (raises_elements I F.characteristic a);
        values =
            let k : suc i ≡ i + 1 = omega arith in
            e
            ∙ ap (map (raise F F.characteristic)) x.values
            ∙ raises_again I i a₀
            ∙ ap (λ n. map (raise F (F.characteristic ^ n)) a₀) k;
      }

pub raised-part : (f w : List ℕ) {g : List ℕ} → take (length f) w ≡ g → take (length f - 0) w ≡ g
raised-part f w e = ap (λ n. take n w) (sub-zero (length f)) ∙ e

pub level-power :
    {field : GaloisField} {f : List ℕ} {level : Level}
    → Levelled field f level
    → level.power ≡ (field_of field).characteristic ^ level.exponent
level-power {level = level} x = level.is_power ∙ ap (λ p. p ^ level.exponent) x.base
