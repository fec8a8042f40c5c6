-- A meter that holds terms, after a start and after one term more, for every way to keep what it knows.
--
--   take-stored      == the first n + 1 numbers, where the one after the first n is stored
--   open_below       == 18 lets pass a meter that holds fewer than 4,096 terms
--   holding-none     == after an accepted start it holds no terms
--   holding-more     == after an accepted term it holds that too
--   reading_taken    == what an accepted term tells is what the meter then shows
--
-- Assumes nothing.
use Prim.Native.Nat.{ℕ, zero, suc, ◌<◌}
use mathlib.Core.Path.{◌≡◌, refl, sym, ap, ◌∙◌}
use mathlib.Core.Bool.{false}
use mathlib.Core.List.{List, [], ◌∷◌, ◌++◌}
use native.Mathlib.Decide.{dec_lt}
use native.Mathlib.Omega.{arith}
use lib.ListN.{length, take, set, length-append}
use lib.Dec.{T, le→leb}
use Rattle.meaning.specs.declared.FieldName.{FieldName}
use Rattle.meaning.specs.declared.Meter.{Meter}
use Rattle.meaning.specs.Field.{Field, are_elements}
use Rattle.meaning.specs.Result.{answered, first_of}
use Rattle.meaning.specs.Conditions.{term_out_of_field}
use Rattle.meaning.specs.FieldNames.{named_field}
use Rattle.meaning.specs.Meter.{start_meter, meter_full, term_table, take_term, meter_reading, MeterModel}
use Rattle.meaning.specs.Meter.{Holding}
use Rattle.meaning.proofs.Tables.{settle-none}
use Rattle.meaning.proofs.Passes.{Passes}
use Rattle.bridge.proofs.Basics.Searches.{in_answered, T-not-false, false-T}
use Rattle.bridge.proofs.Lists.Polynomials.{elements-nil, append-elements}
use Rattle.bridge.proofs.Ways.Accepted.{terms-accepted}

pub take-stored : (n : ℕ) (l : List ℕ) (t : ℕ) → n < length l
    → take (suc n) (set l n t) ≡ take n l ++ (t ∷ [])
take-stored zero (a ∷ l) t h = refl
take-stored (suc n) (a ∷ l) t h = ap (◌∷◌ a) (take-stored n l t (omega arith))
take-stored n [] t h = absurd (omega arith)

elements_pass : (F : Field) (ts : List ℕ) → T (are_elements F ts) → term_out_of_field F ts ≡ false
unfolding term_out_of_field
elements_pass F ts h = T-not-false (are_elements F ts) h

-- 18 lets pass a meter that holds fewer than 4,096 terms
pub open_below : (F : Field) (n t : ℕ) → Passes (term_table F n t) → n < 4096
unfolding meter_full term_table
open_below F n t h = elim (dec_lt n 4096) [
  | yes l ↦ l
  | no l ↦ absurd (false-T h.meter_open (le→leb 4096 n (omega arith)))
]

module _ (model : MeterModel) (name : FieldName) where
  abbrev F : Field
  F = named_field name

  pub holding-none : (terms : List ℕ) → start_meter name ≡ answered tt
      → Holding model name [] (model.meter name []) terms (model.work name [])
  unfolding start_meter
  holding-none terms e =
      record {
        field_exists = (in_answered name _ e).0;
        terms_in_field = elements_pass F [] (elements-nil F);
        count = omega arith;
        numbers = refl;
        front = refl;
        bytes = refl;
      }

  module _ {ts : List ℕ} {m : Meter} {terms work : List ℕ} (x : Holding model name ts m terms work) (t : ℕ)
      (size : length terms ≡ 4096) (h : Passes (term_table F (length ts) t)) where
    below : length ts < 4096
    below = open_below F (length ts) t h

    element : T (are_elements F (t ∷ []))
    unfolding term_table
    element = terms-accepted F (t ∷ []) h.terms_in_field

    pub holding-more :
        Holding model name (ts ++ (t ∷ [])) (model.meter name (ts ++ (t ∷ []))) (set terms (length ts) t)
        (model.work name (ts ++ (t ∷ [])))
    holding-more =
        record {
          field_exists = x.field_exists;
          terms_in_field =
              elements_pass F (ts ++ (t ∷ []))
              (append-elements F ts (t ∷ []) (terms-accepted F ts x.terms_in_field) element);
          count = omega (arith, below, length-append ts (t ∷ []));
          numbers = refl;
          front =
              ap (λ n. take n (set terms (length ts) t)) count
              ∙ take-stored (length ts) terms t (omega (arith, below))
              ∙ ap (λ l. l ++ (t ∷ [])) x.front;
          bytes = refl;
        }
      where
        count : length (ts ++ (t ∷ [])) ≡ suc (length ts)
        count = omega (arith, length-append ts (t ∷ []))

  pub reading_taken : (ts : List ℕ) (t : ℕ) → Passes (term_table F (length ts) t)
      → take_term F ts t ≡ meter_reading F (ts ++ (t ∷ []))
  unfolding take_term meter_reading first_of
  reading_taken ts t h = settle-none _ _ h.none_holds ∙ sym (settle-none [] _ refl)
