-- A call that is given the name of a field: the refusal of the name, or else what is told in the field.
--
--   name-decided     == the condition of the name and those in the field decide it
--   name_tells       == it refuses by the number of the name, or by those in the field
--   name_sized       == its polynomial and its lent bytes have their sizes
--   name-listed, name-keeping == the number of a name is that of a refusal, and leaves the work bytes as they
--                       were
--   name-seventeen, name-lent == a refusal by 17 is one in the field; so what an answer and 17 need is what
--                       they need there
-- Assumes nothing.
use Prim.Native.Nat.{ℕ, ◌≤◌}
use mathlib.Core.Path.{◌≡◌, refl, sym, ap, subst, ◌∙◌}
use mathlib.Core.Logic.{◌⊎◌, inl, inr}
use mathlib.Core.Bool.{Bool, true, false, true≢false}
use mathlib.Core.List.{List, [], ◌∷◌}
use lib.Dec.{T, eqb, eqb_refl, eqb→eq, lit≤}
use Rattle.meaning.specs.declared.FieldName.{FieldName}
use Rattle.meaning.specs.Search.{holds_for_some, is_none}
use Rattle.meaning.specs.Field.{Field}
use Rattle.meaning.specs.Result.{Result, Rated, refused, clearing, clears}
use Rattle.meaning.specs.FieldNames.{not_field, field_number, in_field}
use Rattle.meaning.specs.Route.{look_up}
use Rattle.meaning.proofs.Determined.{refusals, refusal_of}
use Rattle.meaning.proofs.Tables.{in_field_lem, no_field, number-keeps}
use Rattle.bridge.proofs.Basics.Searches.{true-T, false-T, some-head, some-tail}
use Rattle.bridge.proofs.Basics.Searches.{some_uncons, in_answered, in_refused}
use Rattle.bridge.proofs.Basics.Interpretation.{IsField}
use Rattle.bridge.proofs.Binary.NamedFields.{named-is_field}
use Rattle.theorems.specs.Ratings.{GF}
use Rattle.theorems.specs.Answering.{Answered, Tells, Condition, Decided}
use Rattle.theorems.proofs.Deciding.{refused_decided, append-decided}
use Rattle.theorems.proofs.Telling.{is_listed, listed_refusal, Listed, Keeping, Sized}

-- THE NUMBER OF A NAME
number-listed : (name : FieldName) → T (is_listed (field_number name))
unfolding field_number is_listed refusal_of refusals look_up is_none
number-listed (FieldName.Prime p) = tt
number-listed (FieldName.Binary n low) = tt

number-positive : (name : FieldName) → 1 ≤ field_number name
unfolding field_number
number-positive (FieldName.Prime p) = lit≤ tt
number-positive (FieldName.Binary n low) = lit≤ tt

module _ (name : FieldName) where
  pub name-listed : (numbers : List ℕ) → Listed numbers → Listed (field_number name ∷ numbers)
  name-listed numbers h n t = elim (some_uncons (eqb n) (field_number name) numbers t) [
    | inl z ↦
        let (x, e) = listed_refusal (field_number name) (number-listed name) in
        (x, e ∙ sym (eqb→eq n (field_number name) z))
    | inr z ↦ h n z
  ]

  pub name-keeping : (numbers : List ℕ) → Keeping numbers → Keeping (field_number name ∷ numbers)
  name-keeping numbers h n t = elim (some_uncons (eqb n) (field_number name) numbers t) [
    | inl z ↦
        subst (λ k. (1 ≤ k) × ((k ≡ 17 → ⊥) → clears k ≡ false)) (sym (eqb→eq n (field_number name) z))
        (number-positive name, λ _. number-keeps name)
    | inr z ↦ h n z
  ]

  -- 17 is no number of a name
  not-seventeen : 17 ≡ field_number name → ⊥
  unfolding clears clearing holds_for_some
  not-seventeen e = true≢false (ap clears e ∙ number-keeps name)

  -- WHAT IS TOLD
  module _ {A : Type 0} (answer : Field → Result A) where
    pub name-seventeen : in_field name answer ≡ refused 17
        → (not_field name ≡ false) × (answer (GF name) ≡ refused 17)
    name-seventeen e = elim (in_refused name answer e) [
      | inl (_, s) ↦ absurd (not-seventeen s)
      | inr x ↦ x
    ]

    pub name-decided : (l : List Condition)
        → (IsField (GF name) → Decided l (answer (GF name)))
        → Decided ((field_number name, T (not_field name)) ∷ l) (in_field name answer)
    name-decided l h = go (not_field name) refl
      where
        go : (b : Bool) → not_field name ≡ b
            → Decided ((field_number name, T (not_field name)) ∷ l) (in_field name answer)
        go true e = refused_decided _ (no_field name answer e) (inl (refl, true-T e))
        go false e =
            subst (Decided _) (sym (in_field_lem name answer e))
            (append-decided ((field_number name, T (not_field name)) ∷ []) l (answer (GF name))
            (false-T e, tt)
            (h (named-is_field name e)))

    pub name_tells : (numbers : List ℕ)
        → (IsField (GF name) → Tells numbers (answer (GF name)))
        → Tells (field_number name ∷ numbers) (in_field name answer)
    name_tells numbers h = go (not_field name) refl
      where
        go : (b : Bool) → not_field name ≡ b → Tells (field_number name ∷ numbers) (in_field name answer)
        go true e =
            let n = field_number name in
            inr (n, no_field name answer e, some-head (eqb n) n numbers (eqb_refl n))
        go false e = elim (h (named-is_field name e)) [
          | inl (a, q) ↦ inl (a, in_field_lem name answer e ∙ q)
          | inr (n, q, t) ↦ inr (
            n,
            in_field_lem name answer e ∙ q,
            some-tail (eqb n) (field_number name) numbers t,
          )
        ]

  -- an answer, or 17, is that in the field
  pub name-lent : {A B : Type 0} (answer : Field → Result A)
      → (IsField (GF name) → Answered (answer (GF name)) ⊎ (answer (GF name) ≡ refused 17) → B)
      → Answered (in_field name answer) ⊎ (in_field name answer ≡ refused 17)
      → B
  name-lent answer h (inl (a, e)) =
      let (exists, q) = in_answered name answer e in h (named-is_field name exists) (inl (a, q))
  name-lent answer h (inr e) =
      let (exists, q) = name-seventeen answer e in h (named-is_field name exists) (inr q)

  pub name_sized : {A : Type 0} (answer : Field → Result (Rated A)) (degree_of : A → ℕ) (size work : ℕ)
      → (IsField (GF name) → Sized degree_of (answer (GF name)) size work)
      → Sized degree_of (in_field name answer) size work
  name_sized answer degree_of size work h =
      record {
        polynomial =
            λ a e.
            let (exists, q) = in_answered name answer e in
            (h (named-is_field name exists)).polynomial a q;
        small =
            λ a e.
            let (exists, q) = in_answered name answer e in
            (h (named-is_field name exists)).small a q;
        lent = name-lent answer (λ I. (h I).lent);
      }
