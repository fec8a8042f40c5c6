-- What is left in the lent bytes after a rating, by its result.
--
--   clearing_in table == the table has a condition whose refusal leaves the work bytes cleared
--   never-clears     == a verdict by a table that has none does not refuse by such a number
--   lent_refused     == a refusal by another number leaves all as it was
--   lent-seventeen   == 17 leaves the work bytes cleared
--   lent-rated       == an answer leaves its polynomial written, and the work bytes cleared
--   name-keeps       == the refusal of a name leaves the work bytes as they were
--   lent_declined, lent_behind == the bytes of a call by its name: where the name is refused, and where the
--                       field is made
-- Assumes nothing.
use Prim.Native.Nat.{ℕ}
use mathlib.Core.Path.{◌≡◌, refl, sym, ap, subst, ◌∙◌}
use mathlib.Core.Bool.{Bool, true, false}
use mathlib.Core.List.{List, [], ◌∷◌}
use mathlib.Core.Option.{some, some-injective, none-ne-some}
use Rattle.meaning.specs.declared.FieldName.{FieldName}
use Rattle.meaning.specs.declared.Refusal.{Refusal}
use Rattle.meaning.specs.Search.{holds_for_some}
use Rattle.meaning.specs.Field.{Field}
use Rattle.meaning.specs.Result.{Result, refused, answered, Check, first_of, Rated, written, cleared}
use Rattle.meaning.specs.Result.{answer_after, clearing, clears, work_after}
use Rattle.meaning.specs.FieldNames.{in_field}
use Rattle.meaning.specs.Answers.{number_of}
use Rattle.meaning.specs.Calls.{LentAfter}
use Rattle.meaning.proofs.Tables.{first_of_skip, first_of_stop, number-keeps}
use Rattle.meaning.proofs.Passes.{nothing}
use Rattle.bridge.proofs.Basics.Searches.{none_uncons}
use Rattle.arith.specs.declared.field.GaloisField.{GaloisField}
use Rattle.arith.specs.Represented.{field_of, FieldNamed, Declined}
use Rattle.arith.proofs.Door.{behind_door, at_door}
use Rattle.std.specs.Prelude.{Err}
use Rattle.meaning.specs.Answers.{Reply}
use Rattle.refusals.specs.Verdicts.{number_in}

abbrev pub clearing_in : List Check → Bool
clearing_in table = holds_for_some (λ c. clears c.0) table

first-clears : (m : ℕ) (table : List Check) → clearing_in table ≡ false → first_of table ≡ some m
    → clears m ≡ false
first-clears m [] h e = absurd (none-ne-some m (sym nothing.none_holds ∙ e))
first-clears m (c ∷ table) h e =
    let (i, k) = none_uncons (λ c. clears c.0) c table h in go (first-clears m table k) (c.1 tt) refl i
  where
    go : (first_of table ≡ some m → clears m ≡ false) → (b : Bool) → c.1 tt ≡ b → clears c.0 ≡ false
        → clears m ≡ false
    go rest true j i = ap clears (some-injective m c.0 (sym e ∙ first_of_stop c table j)) ∙ i
    go rest false j i = rest (sym (first_of_skip c table j) ∙ e)

pub never-clears :
    (table : List Check) {v : Reply (Unit {0})} {x : Refusal}
    → clearing_in table ≡ false
    → number_in v ≡ first_of table
    → v ≡ Err x
    → clears (number_of x) ≡ false
unfolding number_in
never-clears table {x = x} h e q = first-clears (number_of x) table h (sym e ∙ ap number_in q)

module _ {A : Type 0} {result : Result (Rated A)} {answer work : List ℕ} where
  lent :
      {told : Result (Rated A)} {answer' work' : List ℕ}
      → result ≡ told
      → answer' ≡ answer_after told answer
      → work' ≡ work_after told work
      → LentAfter result answer work answer' work'
  lent e a w =
      record {
        answer_bytes = a ∙ ap (λ (r : Result (Rated A)). answer_after r answer) (sym e);
        work_bytes = w ∙ ap (λ (r : Result (Rated A)). work_after r work) (sym e);
      }

  pub lent_refused : {n : ℕ} → result ≡ refused n → clears n ≡ false
      → LentAfter result answer work answer work
  unfolding answer_after work_after
  lent_refused {n} e h = lent e refl (sym (rw (h, work_after)))

  pub lent-seventeen :
      {work' : List ℕ} → result ≡ refused 17 → work' ≡ cleared work
      → LentAfter result answer work answer work'
  unfolding answer_after work_after clears clearing holds_for_some
  lent-seventeen e w = lent e refl w

  pub lent-rated :
      {a : Rated A} {answer' work' : List ℕ}
      → result ≡ answered a
      → answer' ≡ written a.polynomial answer
      → work' ≡ cleared work
      → LentAfter result answer work answer' work'
  unfolding answer_after work_after
  lent-rated e a w = lent e a w

-- the refusal of a name leaves the work bytes as they were
pub name-keeps : {name : FieldName} {x : Refusal} → Declined name x → clears (number_of x) ≡ false
name-keeps {name} d = ap clears d.number ∙ number-keeps name

module _ {A : Type 0} {name : FieldName} (rated : Field → Result (Rated A)) {answer work : List ℕ} where
  pub lent_declined : {x : Refusal} → Declined name x → LentAfter (in_field name rated) answer work answer
      work
  lent_declined d = lent_refused (at_door rated d) (name-keeps d)

  pub lent_behind : {f : GaloisField} {answer' work' : List ℕ} → FieldNamed name f
      → LentAfter (rated (field_of f)) answer work answer' work'
      → LentAfter (in_field name rated) answer work answer' work'
  lent_behind {answer' = answer'} {work'} o l =
      subst (λ r. LentAfter r answer work answer' work') (sym (behind_door rated o)) l
