-- The search entry by entry.
--
--   binary-level     == the level for p = 2 is one for the field
--   entry-coefficients == the unpacked coefficients are those of entry i
--   entry-input, entry-searched == entry i as the period way takes it, and what its search tells of the entry
--   look_places      == the places of the first look are places of the period
--   Searching ts i   == the entries before entry i have no power for the period ts
--   searching_none, searching_more == before the first entry, and after one more
--   searching_found, searching_end == an entry with a power, and no entry left
-- Assumes nothing.
use Prim.Native.Nat.{ℕ, ◌+◌, ◌≤◌, ◌<◌, min}
use mathlib.Core.Path.{◌≡◌, sym, ap, subst, ◌∙◌}
use mathlib.Core.List.{List}
use native.Mathlib.Numerals.{add-one}
use native.Mathlib.Omega.{arith}
use lib.ListN.{length, take, get_or}
use Rattle.std.specs.Prelude.{Option, Some, None}
use Rattle.meaning.specs.declared.FieldName.{FieldName}
use Rattle.meaning.specs.Field.{Field}
use Rattle.meaning.specs.Period.{period_power}
use Rattle.meaning.specs.Polynomial.{Polynomial}
use Rattle.meaning.specs.Catalogue.{entry_polynomial, catalogue, entry_power, first_entry}
use Rattle.meaning.specs.Calls.{CatalogueCall}
use Rattle.bridge.proofs.Binary.Catalogue.{Listed, entry_length, entry-monic, entry-positive, entry_at}
use Rattle.bridge.proofs.Binary.Catalogue.{Passed, passed_first, passed-next, passed-found, passed-all}
use Rattle.bridge.proofs.Binary.CatalogueTable.{catalogue-count}
use Rattle.arith.specs.declared.field.GaloisField.{GaloisField}
use Rattle.bridge.proofs.Basics.Interpretation.{prime_characteristic_number}
use Rattle.arith.specs.Represented.{field_of, FieldNamed}
use Rattle.lent.specs.blocks.Blocks.{Places}
use Rattle.lent.specs.declared.levels.Level.{Level}
use Rattle.powers.specs.levels.Levels.{Dividing}
use Rattle.period_way.specs.Period.{told, PeriodInput}
use Rattle.find_entry.specs.Search.{Unpacked, BinaryPeriod, entry_found}
use Rattle.find_entry.proofs.Looking.{field-two}

-- ONE ENTRY
pub entry-coefficients :
    {i e : ℕ} {w : List ℕ} {c : ℕ}
    → CatalogueCall i e
    → Unpacked e w c
    → take c w ≡ entry_polynomial (get_or catalogue i 0)
entry-coefficients x y = y.front ∙ ap entry_polynomial x.answer

module _ {field : GaloisField} (h : FieldNamed (FieldName.Prime 2) field) where
  pub binary-level : {n : ℕ} {level : Level} → Dividing 2 n level → Dividing (field_of field).characteristic n
      level
  binary-level {n} {level} =
      subst (λ p. Dividing p n level)
      (sym (ap (λ (F : Field). F.characteristic) (field-two h) ∙ prime_characteristic_number 2))

  module _ {ts : List ℕ} (x : BinaryPeriod ts) {i : ℕ} (l : i < 226) {f : Polynomial}
      (e : f ≡ entry_polynomial (get_or catalogue i 0)) where
    listed : Listed (get_or catalogue i 0)
    listed = entry_at i (omega (arith, catalogue-count))

    pub entry-input : PeriodInput (field_of field) f ts
    entry-input =
        rw (field-two h, e)
        (record {
          monic = entry-monic (get_or catalogue i 0) listed.at_least listed.less;
          positive = entry-positive (get_or catalogue i 0) listed.at_least listed.less;
          irreducibility = listed.irreducibility;
          short = omega (arith, entry_length (get_or catalogue i 0));
          in_field = x.binary;
          at_least_one = x.at_least_one;
          not_many = x.not_many;
        })

    pub entry-searched :
        (r : Option ℕ)
        → told r ≡ period_power (field_of field) f ts
        → told r ≡ entry_power ts (get_or catalogue i 0)
    unfolding entry_power
    entry-searched r y = rw (field-two h, e) at y

-- THE PLACES OF THE LOOK
pub look_places :
    {ts : List ℕ} {at m : ℕ}
    → BinaryPeriod ts
    → m ≡ min (length ts) 64
    → at + m ≤ length ts
    → Places (length ts) at m
look_places x e l = record { some = omega (arith, x.at_least_one); small = omega arith; inside = l }

-- ENTRY BY ENTRY
pub record Searching (ts : List ℕ) (i : ℕ) : Type 0 where
  pub few : i ≤ 226
  pub passed : Passed ts i

pub searching_none : (ts : List ℕ) → Searching ts 0
searching_none ts = record { few = omega arith; passed = passed_first ts }

module _ {ts : List ℕ} {i : ℕ} (y : Searching ts i) where
  module _ (l : i < 226) (r : Option ℕ) (s : told r ≡ entry_power ts (get_or catalogue i 0)) where
    place : i < length catalogue
    place = omega (arith, catalogue-count)

    pub searching_more : r ≡ None → Searching ts (i + 1)
    unfolding told
    searching_more q =
        record {
          few = omega arith;
          passed = subst (Passed ts) (sym (add-one i)) (passed-next ts i place y.passed (sym s ∙ ap told q));
        }

    pub searching_found : {k e : ℕ} → r ≡ Some k → CatalogueCall i e
        → entry_found (Some (record { entry = e; power = k })) ≡ first_entry ts
    unfolding told entry_found
    searching_found {k} q c =
        ap (λ m. entry_found (Some (record { entry = m; power = k }))) c.answer
        ∙ sym (passed-found ts i place y.passed (sym s ∙ ap told q))

  pub searching_end : 226 ≤ i → entry_found None ≡ first_entry ts
  unfolding entry_found
  searching_end l =
      let all : i ≡ length catalogue = omega (arith, catalogue-count, y.few) in
      sym (passed-all ts (subst (Passed ts) all y.passed))
