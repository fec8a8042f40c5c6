-- A first look at some places of the action of 2^w on a period.
--
--   field-two        == the field that is named by 2 is GF(2)
--   look_none        == a term other than 0 there, and no power annihilates the period
--
-- Assumes nothing.
use mathlib.Core.Path.{◌≡◌, sym, subst, ◌∙◌}
use mathlib.Core.Bool.{Bool, false}
use mathlib.Core.List.{List}
use Prim.Native.Nat.{ℕ}
use lib.ListN.{length}
use Rattle.meaning.specs.declared.FieldName.{FieldName}
use Rattle.meaning.specs.Field.{Field, prime}
use Rattle.meaning.specs.FieldNames.{named_field}
use Rattle.meaning.specs.Polynomial.{Polynomial}
use Rattle.bridge.proofs.Basics.Interpretation.{prime-size, prime_characteristic_number}
use Rattle.bridge.proofs.Lists.Polynomials.{monic-elements}
use Rattle.bridge.proofs.Lists.Spread.{raises_same}
use Rattle.bridge.proofs.Sequences.KnownActions.{all_zero}
use Rattle.arith.specs.declared.field.GaloisField.{GaloisField}
use Rattle.arith.specs.Represented.{field_of, FieldNamed}
use Rattle.arith.proofs.Represented.{field-is_field}
use Rattle.lent.specs.blocks.Blocks.{block_on_period, Places}
use Rattle.action.proofs.Blocks.{nonzero_block}
use Rattle.action.proofs.Powers.{power_annihilates}
use Rattle.lent.specs.declared.levels.Level.{Level}
use Rattle.powers.specs.levels.Levels.{Dividing}
use Rattle.std.specs.Prelude.{None}
use Rattle.meaning.specs.Period.{period_power}
use Rattle.period_way.specs.Period.{told, PeriodInput}
use Rattle.period_way.proofs.Periodic.{period-none, period_levelled}

pub field-two : {field : GaloisField} → FieldNamed (FieldName.Prime 2) field → field_of field ≡ prime 2
unfolding named_field
field-two h = h.is_field

-- over GF(2) the coefficients stay as they are raised
size_characteristic : {F : Field} → F ≡ prime 2 → F.size ≡ F.characteristic
size_characteristic e =
    subst (λ F. F.size ≡ F.characteristic) (sym e) (prime-size 2 ∙ sym (prime_characteristic_number 2))

pub look_none :
    {field : GaloisField} (binary : FieldNamed (FieldName.Prime 2) field) (f : Polynomial) {ts : List ℕ}
    (x : PeriodInput (field_of field) f ts) (level : Level)
    (l : Dividing (field_of field).characteristic (length ts) level) {at m : ℕ}
    (look : Places (length ts) at m)
    {b : Bool}
    → b ≡ all_zero (block_on_period (field_of field) f level.power ts at m)
    → b ≡ false
    → told None ≡ period_power (field_of field) f ts
unfolding told
look_none {field} binary f {ts} x level l look e h =
    sym
    (period-none field f ts x level l
    (sym
    (power_annihilates field (period_levelled field f ts x level l)
    (sym
    (raises_same (field-is_field field) level.exponent (size_characteristic (field-two binary)) f
    (monic-elements (field_of field) f x.monic))) ts)
    ∙ sym (nonzero_block (field_of field) f level.power ts look e h)))
