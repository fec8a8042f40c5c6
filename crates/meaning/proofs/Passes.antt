-- What it says of a table of refusals that none of its conditions holds. Proofs read each condition by its
-- reason and count no places, so a table may get further conditions, and another in the place of one.
--
--   holds n table     == a condition numbered n of the table holds
--   before n table    == the conditions before the first that is numbered n
--   Passes table      == no condition of the table holds: `none_holds` says it of the table, each other field
--                        of one condition. Of a condition that the table does not have it says nothing
--   first_of_passes    == so it is where the table decides nothing; accepted-passes == of accepted factors,
--                        whose field exists (accepted-field)
--   a & b & … & nothing == the same from what is known of each condition, in the order of the table
--   first_of_decides   == a table that decides by n: n holds, and no condition before it
-- Assumes nothing.
use Prim.Native.Nat.{ℕ}
use mathlib.Core.Path.{◌≡◌, refl, sym, subst, ◌∙◌}
use mathlib.Core.Bool.{Bool, true, false, not, ◌&&◌, ◌||◌, or-true}
use mathlib.Core.List.{List, [], ◌∷◌}
use mathlib.Core.Option.{none, some, some-injective, some-ne-none, none-ne-some}
use lib.Dec.{T, eqb, eqb_refl}
use Rattle.meaning.specs.declared.FieldName.{FieldName}
use Rattle.meaning.specs.Search.{is_none}
use Rattle.meaning.specs.Polynomial.{Polynomial}
use Rattle.meaning.specs.Result.{Check, first_of}
use Rattle.meaning.specs.FieldNames.{named_field, not_field}
use Rattle.meaning.specs.Portion.{accepted_factors, factor_table}
use Rattle.meaning.proofs.Tables.{first_of_skip, first_of_stop, is_none_none}

abbrev pub holds : ℕ → List Check → Bool
holds n [] = false
holds n (c ∷ table) = elim (eqb c.0 n) [ true ↦ holds n table || c.1 tt | false ↦ holds n table ]

abbrev pub before : ℕ → List Check → List Check
before n [] = []
before n (c ∷ table) = elim (eqb c.0 n) [ true ↦ [] | false ↦ c ∷ before n table ]

pub record Passes (table : List Check) : Type 0 where
  pub none_holds : first_of table ≡ none
  pub count_in_range : holds 7 table ≡ false
  pub terms_in_field : holds 8 table ≡ false
  pub factor_count : holds 9 table ≡ false
  pub degrees_in_range : holds 10 table ≡ false
  pub coefficients_in_range : holds 11 table ≡ false
  pub irreducible : holds 12 table ≡ false
  pub different : holds 13 table ≡ false
  pub uppers_in_range : holds 14 table ≡ false
  pub enough_terms : holds 15 table ≡ false
  pub lent_enough : holds 16 table ≡ false
  pub annihilated : holds 17 table ≡ false
  pub meter_open : holds 18 table ≡ false
  pub entry_found : holds 19 table ≡ false

first_of_holds : (n : ℕ) (table : List Check) → first_of table ≡ none → holds n table ≡ false
first_of_holds n [] h = refl
first_of_holds n (c ∷ table) h = by (first_of_holds n table) (eqb c.0 n) (c.1 tt) refl
  where
    by : (first_of table ≡ none → holds n table ≡ false) → (b d : Bool) → c.1 tt ≡ d
        → elim b [ true ↦ holds n table || c.1 tt | false ↦ holds n table ] ≡ false
    by rest b true e = absurd (some-ne-none c.0 (sym (first_of_stop c table e) ∙ h))
    by rest true false e = rw (rest (sym (first_of_skip c table e) ∙ h)) e
    by rest false false e = rest (sym (first_of_skip c table e) ∙ h)

pub first_of_passes : (table : List Check) → first_of table ≡ none → Passes table
first_of_passes table h =
    record {
      none_holds = h;
      count_in_range = first_of_holds 7 table h;
      terms_in_field = first_of_holds 8 table h;
      factor_count = first_of_holds 9 table h;
      degrees_in_range = first_of_holds 10 table h;
      coefficients_in_range = first_of_holds 11 table h;
      irreducible = first_of_holds 12 table h;
      different = first_of_holds 13 table h;
      uppers_in_range = first_of_holds 14 table h;
      enough_terms = first_of_holds 15 table h;
      lent_enough = first_of_holds 16 table h;
      annihilated = first_of_holds 17 table h;
      meter_open = first_of_holds 18 table h;
      entry_found = first_of_holds 19 table h;
    }

infixr 20 ◌&◌
pub ◌&◌ : {c : Check} {table : List Check} → c.1 tt ≡ false → Passes table → Passes (c ∷ table)
◌&◌ {c} {table} e h = first_of_passes (c ∷ table) (first_of_skip c table e ∙ h.none_holds)

pub nothing : Passes []
unfolding first_of
nothing = first_of_passes [] refl

pub first_of_decides : (n : ℕ) (table : List Check) → first_of table ≡ some n
    → Passes (before n table) × (holds n table ≡ true)
unfolding first_of
first_of_decides n [] h = absurd (none-ne-some n h)
first_of_decides n (c ∷ table) h = by (first_of_decides n table) (eqb c.0 n) (c.1 tt) refl refl
  where
    by : (first_of table ≡ some n → Passes (before n table) × (holds n table ≡ true))
        → (b d : Bool)
        → eqb c.0 n ≡ b
        → c.1 tt ≡ d
        → Passes (elim b [ true ↦ [] | false ↦ c ∷ before n table ])
        × (elim b [ true ↦ holds n table || c.1 tt | false ↦ holds n table ] ≡ true)
    by rest true true i e = (nothing, rw e (or-true (holds n table)))
    by rest true false i e = (nothing, rw (rest (sym (first_of_skip c table e) ∙ h)).1)
    by rest false true i e =
        let same = some-injective c.0 n (sym (first_of_stop c table e) ∙ h) in
        absurd (subst T i (subst (λ m. T (eqb c.0 m)) same (eqb_refl c.0)))
    by rest false false i e = let (p, q) = rest (sym (first_of_skip c table e) ∙ h) in (e & p, q)

module _ (name : FieldName) (fs : List Polynomial) (us : List ℕ) (h : T (accepted_factors name fs us)) where
  abbrev table : List Check
  table = factor_table (named_field name) fs us

  accepted-both : T (not (not_field name)) × T (is_none (first_of table))
  unfolding accepted_factors
  accepted-both = both (not (not_field name)) (is_none (first_of table)) h
    where
      both : (b c : Bool) → T (b && c) → T b × T c
      both true c k = (tt, k)
      both false c k = absurd k

  pub accepted-field : not_field name ≡ false
  accepted-field = go (not_field name) accepted-both.0
    where
      go : (b : Bool) → T (not b) → b ≡ false
      go true k = absurd k
      go false k = refl

  pub accepted-passes : Passes table
  accepted-passes = first_of_passes table (is_none_none accepted-both.1)
