-- Where numbers are suited to a leaf, and a number names a field.
--
--   field-prime       == the field that is named by p is GF(p)
--   named-prime, declined_prime == then p is a prime in range; it is none where the name is refused
--   where_yes, where_no == what a leaf answers
--   answer_unsuited, answer_declined, answer-named, answer_made == what it answers in the field of a name:
--                        other numbers are not suited, the name is that of no field, and all is as it asks
--   answer-prime      == the same modulo p
--   suited-first, suited_few == what suited numbers are
--
-- Assumes nothing.
use Prim.Native.Nat.{ℕ, ◌≤◌}
use mathlib.Core.Path.{◌≡◌, refl, sym, ap, ap₂, subst, ◌∙◌}
use mathlib.Core.Bool.{Bool, true, false, not, ◌&&◌}
use lib.Dec.{T, leb, leb→le}
use Rattle.std.specs.Prelude.{Result as Answer, MatchResult, Ok, Err}
use Rattle.meaning.specs.declared.FieldName.{FieldName}
use Rattle.meaning.specs.declared.Refusal.{Refusal}
use Rattle.meaning.specs.Field.{Field, prime, prime_in_range}
use Rattle.meaning.specs.Conditions.{not_prime}
use Rattle.meaning.specs.FieldNames.{named_field, not_field}
use Rattle.bridge.proofs.Basics.Searches.{T_and, not-true, not-not_true}
use Rattle.arith.specs.Represented.{field_of, FieldNamed, FieldMade, Declined}
use Rattle.arith.specs.declared.field.GaloisField.{GaloisField}
use Rattle.leaves.specs.Suited.{suited, where_suited}

-- A number that names a field
module _ {p : ℕ} {field : GaloisField} (h : FieldNamed (FieldName.Prime p) field) where
  pub field-prime : field_of field ≡ prime p
  unfolding named_field
  field-prime = h.is_field

  pub named-prime : prime_in_range p ≡ true
  unfolding not_field not_prime
  named-prime = not-not_true (prime_in_range p) h.exists

pub declined_prime : {p : ℕ} {r : Refusal} → Declined (FieldName.Prime p) r → prime_in_range p ≡ false
unfolding not_field not_prime
declined_prime {p} d = not-true (prime_in_range p) d.holds

-- What a leaf answers
pub where_yes : {A : Type 0} (b : Bool) (x y : A) {r : A} → b ≡ true → r ≡ x → r ≡ where_suited b x y
unfolding where_suited
where_yes b x y h e = rw (h, where_suited) e

pub where_no : {A : Type 0} (b : Bool) (x y : A) → b ≡ false → y ≡ where_suited b x y
unfolding where_suited
where_no b x y e = rw (e, where_suited)

pub and_second : (b c : Bool) → c ≡ false → (b && c) ≡ false
and_second true c e = e
and_second false c e = refl

-- in the field of a name, where b is what it asks of other numbers
module _ {A : Type 0} (name : FieldName) (b : Bool) (x : Field → A) (y : A) where
  abbrev suiting : Bool
  suiting = b && not (not_field name)

  pub answer_unsuited : b ≡ false → y ≡ where_suited suiting (x (named_field name)) y
  answer_unsuited e = where_no suiting (x (named_field name)) y (ap (λ c. c && not (not_field name)) e)

  pub answer_declined : {r : Refusal} → Declined name r → y ≡ where_suited suiting (x (named_field name)) y
  answer_declined d =
      where_no suiting (x (named_field name)) y (and_second b (not (not_field name)) (ap not d.holds))

  pub answer-named : {field : GaloisField} {r : A} → b ≡ true → FieldNamed name field
      → r ≡ x (field_of field)
      → r ≡ where_suited suiting (x (named_field name)) y
  answer-named e h k =
      where_yes suiting (x (named_field name)) y (ap₂ (λ c d. c && not d) e h.exists) (k ∙ ap x h.is_field)

  -- what a closure answers in the field that is made
  pub answer_made : (made : Answer GaloisField Refusal) {r : A} {P : GaloisField → Type 0} → b ≡ true
      → FieldMade name made
      → MatchResult made P (λ _. r ≡ y)
      → ((field : GaloisField) → P field → r ≡ x (field_of field))
      → r ≡ where_suited suiting (x (named_field name)) y
  answer_made (Ok field) e h k s = answer-named e h (s field k)
  answer_made (Err refusal) e h k s = k ∙ answer_declined h

-- modulo p
twice-not : (b : Bool) → not (not b) ≡ b
twice-not true = refl
twice-not false = refl

pub answer-prime : {A : Type 0} (p : ℕ) (b : Bool) (x : Field → A) (y : A) {r : A}
    → r ≡ where_suited (b && not (not_field (FieldName.Prime p))) (x (named_field (FieldName.Prime p))) y
    → r ≡ where_suited (b && prime_in_range p) (x (prime p)) y
unfolding named_field not_field not_prime
answer-prime p b x y {r} e =
    subst (λ c. r ≡ where_suited (b && c) (x (prime p)) y) (twice-not (prime_in_range p)) e

-- Suited numbers
module _ (m n : ℕ) {b : Bool} (e : b ≡ suited m n) (h : b ≡ true) where
  parts : T (leb m n) × T (leb m 65536)
  unfolding suited
  parts = T_and (leb m n) (leb m 65536) (subst T (sym h ∙ e) tt)

  pub suited-first : m ≤ n
  suited-first = leb→le m n parts.0

  pub suited_few : m ≤ 65536
  suited_few = leb→le m 65536 parts.1
