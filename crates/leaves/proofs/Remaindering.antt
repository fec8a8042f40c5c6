-- What is left in f after a division.
--
--   kept-coefficient, kept_out_of_field == where its conditions do not hold
--   remainder_declined, remainder-named == modulo p, where p is no prime in range, and where it is one
--
-- Assumes nothing.
use Prim.Native.Nat.{ℕ}
use mathlib.Core.Path.{◌≡◌, refl, sym, subst, subst₂, ◌∙◌}
use mathlib.Core.Logic.{◌≢◌}
use mathlib.Core.Bool.{Bool, true, false}
use mathlib.Core.List.{List}
use lib.Dec.{T}
use borrow.Author.Tests.{ne_eqb}
use Rattle.meaning.specs.declared.FieldName.{FieldName}
use Rattle.meaning.specs.declared.Refusal.{Refusal}
use Rattle.meaning.specs.Field.{Field, prime, prime_in_range, are_elements}
use Rattle.meaning.specs.Polynomial.{Polynomial, leading}
use Rattle.meaning.specs.Conditions.{term_out_of_field, coefficient_out_of_range}
use Rattle.bridge.proofs.Basics.Searches.{T_true, false-T}
use Rattle.arith.specs.Represented.{field_of, FieldNamed, Declined}
use Rattle.arith.specs.declared.field.GaloisField.{GaloisField}
use Rattle.leaves.specs.Remaindered.{Remaindered}
use Rattle.leaves.proofs.Suiting.{field-prime, named-prime, declined_prime}

module _ (F : Field) where
  leading-passes :
      (g : Polynomial) → T (are_elements F g) → leading g ≢ 0 → coefficient_out_of_range F g ≡ false
  unfolding coefficient_out_of_range
  leading-passes g e n = rw (T_true {b = are_elements F g} e, ne_eqb (leading g) 0 n)

  elements_pass : (f : List ℕ) → T (are_elements F f) → term_out_of_field F f ≡ false
  unfolding term_out_of_field
  elements_pass f e = rw (T_true {b = are_elements F f} e)

module _ (F : Field) (g : Polynomial) (f : List ℕ) {b : Bool} where
  pub kept-coefficient : b ≡ coefficient_out_of_range F g → b ≡ true → Remaindered true F g f f
  kept-coefficient e h =
      record {
        divided = λ t d. absurd (false-T (leading-passes F g d.divisor d.nonzero)
            (subst T (sym h ∙ e) tt));
        kept = λ n. refl;
      }

  pub kept_out_of_field : b ≡ term_out_of_field F f → b ≡ true → Remaindered true F g f f
  kept_out_of_field e h =
      record {
        divided = λ t d. absurd (false-T (elements_pass F f d.elements) (subst T (sym h ∙ e) tt));
        kept = λ n. refl;
      }

-- modulo p
module _ {p : ℕ} {g : Polynomial} {f : List ℕ} where
  pub remainder_declined : {r : Refusal} → Declined (FieldName.Prime p) r
      → Remaindered (prime_in_range p) (prime p) g f f
  remainder_declined d =
      record { divided = λ t _. absurd (false-T (declined_prime d) t); kept = λ n. refl }

  pub remainder-named : {field : GaloisField} {f' : List ℕ} → FieldNamed (FieldName.Prime p) field
      → Remaindered true (field_of field) g f f'
      → Remaindered (prime_in_range p) (prime p) g f f'
  remainder-named {f' = f'} h r =
      subst₂ (λ b F. Remaindered b F g f f') (sym (named-prime h)) (field-prime h) r
