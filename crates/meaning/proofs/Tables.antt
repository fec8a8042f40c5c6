-- Laws of searches and tables: what a test that passes or fails makes of them.
-- Assumes nothing.
use Prim.Native.Nat.{ℕ, zero, suc, ◌≤◌}
use mathlib.Core.Path.{◌≡◌, refl, sym, ◌∙◌}
use mathlib.Core.Bool.{Bool, true, false, true≢false}
use mathlib.Core.List.{List, [], ◌∷◌}
use mathlib.Core.Option.{Option, none, some}
use lib.Dec.{T, eqb}
use borrow.Author.Tests.{ne_eqb}
use native.Mathlib.Omega.{arith}
use Rattle.meaning.specs.declared.FieldName.{FieldName}
use Rattle.meaning.specs.Search.{least, map_option, holds_for_all, holds_for_some, first_that, selected}
use Rattle.meaning.specs.Search.{is_none}
use Rattle.meaning.specs.Field.{Field}
use Rattle.meaning.specs.Result.{Result, refused, Check, first_of, settle, value_of, clearing, clears}
use Rattle.meaning.specs.FieldNames.{named_field, not_field, field_number, in_field}

-- a condition that does not hold is passed over
pub first_of_skip : (c : Check) (table : List Check) → c.1 tt ≡ false → first_of (c ∷ table) ≡ first_of table
unfolding first_of
first_of_skip c table e = rw (e, first_of)

pub first_of_stop : (c : Check) (table : List Check) → c.1 tt ≡ true → first_of (c ∷ table) ≡ some c.0
unfolding first_of
first_of_stop c table e = rw (e, first_of)

pub is_none_none : {A : Type 0} {o : Option A} → T (is_none o) → o ≡ none
unfolding is_none
is_none_none {o = none} h = refl
is_none_none {o = some a} h = absurd h

-- behind the door: the answer in the field that a name stands for, or the refusal of the name
module _ {A : Type 0} (name : FieldName) (answer : Field → Result A) where
  pub in_field_lem : not_field name ≡ false → in_field name answer ≡ answer (named_field name)
  unfolding in_field
  in_field_lem e = rw (e, in_field)

  pub no_field : not_field name ≡ true → in_field name answer ≡ refused (field_number name)
  unfolding in_field
  no_field e = rw (e, in_field)

pub settle-none : {A : Type 0} (table : List Check) (v : Unit {0} → Option A)
    → first_of table ≡ none
    → settle table v ≡ value_of (v tt)
unfolding settle
settle-none table v e = rw (e, settle)

pub holds_for_all-every : {A : Type 0} (t : A → Bool) → ((a : A) → t a ≡ true)
    → (l : List A)
    → holds_for_all t l ≡ true
unfolding holds_for_all
holds_for_all-every t h [] = refl
holds_for_all-every t h (a ∷ l) = rw (h a, holds_for_all) (holds_for_all-every t h l)

-- of one element, a test of the whole list is a test of it
pub of_one : {A : Type 0} (t : A → Bool) (a : A) → holds_for_some t (a ∷ []) ≡ false → t a ≡ false
unfolding holds_for_some
of_one t a h = go (t a) refl
  where
    go : (b : Bool) → t a ≡ b → t a ≡ false
    go true e = absurd (true≢false (sym (rw (e, holds_for_some)) ∙ h))
    go false e = e

pub least_zero : (b : ℕ) (t : ℕ → Bool) → t 0 ≡ true → least b t ≡ some 0
unfolding least
least_zero zero t e = rw (e, least)
least_zero (suc b) t e = rw (e, least)

pub least-one : (b : ℕ) (t : ℕ → Bool) → t 0 ≡ false → t 1 ≡ true → least (suc b) t ≡ some 1
unfolding least map_option
least-one b t e h = rw (e, least_zero b (λ r. t (suc r)) h, least)

-- the first element passes
pub first_that_here : {A : Type 0} (t : A → Bool) (a : A) (l : List A) → t a ≡ true
    → first_that t (a ∷ l) ≡ some a
unfolding first_that
first_that_here t a l e = rw (e, first_that)

pub selected_here : {A : Type 0} (t : A → Bool) (a : A) (l : List A) → t a ≡ true
    → selected t (a ∷ l) ≡ a ∷ selected t l
unfolding selected
selected_here t a l e = rw (e, selected)

pub some_skip : {A : Type 0} (t : A → Bool) (a : A) (l : List A) → t a ≡ false
    → holds_for_some t (a ∷ l) ≡ holds_for_some t l
unfolding holds_for_some
some_skip t a l e = rw (e, holds_for_some)

-- the refusal of a name leaves the work bytes as they were, and so do 1 to 16
pub number-keeps : (name : FieldName) → clears (field_number name) ≡ false
unfolding field_number clears clearing holds_for_some
number-keeps (FieldName.Prime p) = refl
number-keeps (FieldName.Binary n low) = refl

pub keeps_low : (n : ℕ) → n ≤ 16 → clears n ≡ false
unfolding clears clearing holds_for_some
keeps_low n l =
    some_skip (eqb n) 17 (19 ∷ []) (ne_eqb n 17 (λ e. omega arith))
    ∙ some_skip (eqb n) 19 [] (ne_eqb n 19 (λ e. omega arith))
