-- The power of the only factor of a set, in the work bytes.
--
--   factor_searchable == accepted input lets the search for the power of factor i begin
--   alone_found       == what the search finds in the terms is the power of the only factor
--
-- Assumes nothing.
use Prim.Native.Nat.{ℕ, ◌^◌, ◌≤◌, ◌<◌}
use mathlib.Core.Path.{◌≡◌, sym, ap, subst, ◌∙◌}
use mathlib.Core.List.{List, [], ◌∷◌}
use mathlib.Core.Option.{Option, some}
use native.Mathlib.Nat as ℕ
use native.Mathlib.Omega.{arith}
use lib.ListN.{length, get_or}
use lib.Seq.{take_all}
use lib.Dec.{T}
use Rattle.meaning.specs.Field.{Field, are_elements}
use Rattle.meaning.specs.Polynomial.{Polynomial, degree, product}
use Rattle.meaning.specs.Sequence.{act_on_known}
use Rattle.meaning.specs.Conditions.{named, total_degree}
use Rattle.meaning.specs.Portion.{with_power, least_at, set_powers}
use Rattle.bridge.proofs.Basics.Interpretation.{IsField}
use Rattle.bridge.proofs.Lists.Polynomials.{monic-nonempty, monic-elements}
use Rattle.bridge.proofs.Sequences.KnownActions.{act_on_known-power-zero}
use Rattle.bridge.proofs.Ways.PowerSearch.{power_found, power_acts, act_steps}
use Rattle.bridge.proofs.Lists.Products.{factor_at, Nonempties, monics-nonempty, length-named}
use Rattle.bridge.proofs.Lists.Products.{factor_at-named, power_at-named, product-single}
use Rattle.bridge.proofs.Ways.Portions.{portion_at, least_at-search}
use Rattle.bridge.proofs.Basics.Levels.{level-bound}
use Rattle.arith.specs.declared.field.GaloisField.{GaloisField}
use Rattle.arith.specs.Represented.{field_of}
use Rattle.arith.proofs.Represented.{field-is_field, characteristic_least}
use Rattle.lent.specs.declared.levels.Level.{Level}
use Rattle.powers.specs.levels.Levels.{Reaching}
use Rattle.lent.specs.halves.Halves.{Placed}
use Rattle.powers.specs.digit_search.Searching.{Searchable, Searched}
use Rattle.set_way.specs.actions.SetActions.{SetInput}
use Rattle.set_way.proofs.actions.Inputs.{input-monics, input-nonzero, input_few}
use Rattle.set_way.proofs.search.Halving.{set_powers_from}

-- nothing acts on what is left for the only factor
portion_alone :
    {F : Field} (I : IsField F) (l : List (Polynomial × ℕ)) (ts : List ℕ)
    → length l ≡ 1
    → Nonempties l
    → T (are_elements F ts)
    → length ts ≡ total_degree l
    → portion_at F l ts 0 ≡ ts
unfolding with_power
portion_alone I [] ts e h t n = absurd (omega arith)
portion_alone {F} I (f ∷ []) ts e h t n =
    ap (act_on_known F (product F ((f.0, 0) ∷ []))) (take_all (total_degree (f ∷ [])) ts (omega (arith, n)))
    ∙ ap (λ g. act_on_known F g ts) (product-single I f.0 0 (h 0 (omega arith)))
    ∙ act_on_known-power-zero I f.0 (h 0 (omega arith)) ts t
portion_alone I (f ∷ g ∷ l) ts e h t n = absurd (omega arith)

module _
    (field : GaloisField) {fs : List Polynomial} {us ts : List ℕ}
    (x : SetInput (field_of field) fs us ts) (alone : length fs ≡ 1) (level : Level)
    (reaching : Reaching (field_of field).characteristic (get_or us 0 0) level)
  where
    factors-nonempty : 0 < length fs
    factors-nonempty = omega arith

    pub factor_searchable : Searchable field (get_or fs 0 []) level
    factor_searchable =
        record {
          elements = monic-elements (field_of field) (get_or fs 0 []) (x.factors.monic 0 factors-nonempty);
          nonempty = monic-nonempty (field_of field) (get_or fs 0 []) (x.factors.monic 0 factors-nonempty);
          short = x.short 0 factors-nonempty;
          is_level = reaching.is_level;
          near =
              omega (
                arith,
                reaching.is_level.power,
                level-bound (omega (arith, characteristic_least field))
                    (ℕ.pos_of_ne-zero (input-nonzero x 0 factors-nonempty)) reaching.least,
                ℕ.mul-le-mul_left (field_of field).characteristic (input_few x 0 factors-nonempty),
                ℕ.mul_comm (field_of field).characteristic 4096,
              );
        }

    nonempties : Nonempties (named fs us)
    nonempties = monics-nonempty (field_of field) (named fs us) (input-monics x)

    least :
        least_at (field_of field) (named fs us) ts 0
        ≡ some (
        power_found (power_acts (field_of field) (factor_at (named fs us) 0)) (field_of field).characteristic
        (degree (factor_at (named fs us) 0)) level.exponent (portion_at (field_of field) (named fs us) ts 0)
        )
    least =
        let place : 0 < length (named fs us) = omega (arith, length-named fs us) in
        least_at-search (field-is_field field) (named fs us) nonempties ts 0 place (input-monics x 0 place)
        (power_acts (field_of field) (factor_at (named fs us) 0))
        (act_steps (field_of field) (factor_at (named fs us) 0)) level.exponent
        (subst (λ n. n ≤ (field_of field).characteristic ^ level.exponent)
        (sym (power_at-named fs us 0 factors-nonempty)) reaching.least.reaches)

    pub alone_found :
        {w w₁ w₂ : List ℕ} {r : ℕ}
        → length ts ≡ total_degree (named fs us)
        → Placed w 0 1 ts w₁
        → Searched field w₁ 0 (length ts) (get_or fs 0 []) level w₂ r
        → set_powers (field_of field) (named fs us) ts ≡ some (r ∷ [])
    alone_found {r = r} exact loaded searched =
        set_powers_from (field-is_field field) (named fs us) ts (r ∷ []) nonempties
        (omega (arith, length-named fs us))
        (λ i k.
        let e : 0 ≡ i = omega (arith, length-named fs us) in
        subst (λ n. least_at (field_of field) (named fs us) ts n ≡ some (get_or (r ∷ []) n 0)) e found)
      where
        found : least_at (field_of field) (named fs us) ts 0 ≡ some r
        found =
            least
            ∙ ap {B = Option ℕ} some
            (ap
            (λ f.
            power_found (power_acts (field_of field) f) (field_of field).characteristic
            (degree f) level.exponent
            (portion_at (field_of field) (named fs us) ts 0))
            (factor_at-named fs us 0)
            ∙ ap
            (power_found (power_acts (field_of field) (get_or fs 0 [])) (field_of field).characteristic
            (degree (get_or fs 0 [])) level.exponent)
            (portion_alone (field-is_field field) (named fs us) ts (length-named fs us ∙ alone) nonempties
            x.in_field exact
            ∙ sym loaded.made)
            ∙ sym searched.power)
