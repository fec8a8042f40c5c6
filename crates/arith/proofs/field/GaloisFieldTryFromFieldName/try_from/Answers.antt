-- A `GaloisField` is made from a name as the contract of the conversion says. Assumes nothing.
use mathlib.Core.Path.{sym, subst, ◌∙◌}
use Rattle.meaning.specs.declared.Refusal.TheVariants.{NotPrime, NotBinaryField}
use Rattle.bridge.proofs.Basics.Searches.{true-T, not-true, not-not_true}
use Rattle.arith.specs.declared.field.GaloisField.{GaloisField}
use Rattle.arith.specs.Represented.{FieldNamed, Declined}
use Rattle.arith.proofs.Sorts.{prime-made, binary-made, not-prime_declined, not-binary_declined}
use Rattle.arith.proofs.field.GaloisFieldTryFromFieldName.try_from.Goals as goal

pub returns-then-prime_in_range : goal.returns-then-prime_in_range
returns-then-prime_in_range c =
    subst (λ name. FieldNamed name (GaloisField.Prime c.new.result)) (sym c.in-Prime.is)
    (prime-made _ _ (true-T (sym c.prime_in_range.ensures ∙ c.if-prime_in_range.true)) c.new.ensures)

pub returns-else-prime_in_range : goal.returns-else-prime_in_range
returns-else-prime_in_range c =
    subst (λ name. Declined name NotPrime) (sym c.in-Prime.is)
    (not-prime_declined _ (sym c.prime_in_range.ensures ∙ c.if-prime_in_range.false))

pub returns-then-names_binary_field : goal.returns-then-names_binary_field
returns-then-names_binary_field c =
    subst (λ name. FieldNamed name (GaloisField.Extension c.new-then-names_binary_field.result))
    (sym c.in-Binary.is)
    (binary-made _ _ _ (not-true _ (sym c.names_binary_field.ensures ∙ c.if-names_binary_field.true))
    c.new-then-names_binary_field.ensures.0
    c.new-then-names_binary_field.ensures.1)

pub returns-else-names_binary_field : goal.returns-else-names_binary_field
returns-else-names_binary_field c =
    subst (λ name. Declined name NotBinaryField) (sym c.in-Binary.is)
    (not-binary_declined _ _ (not-not_true _ (sym c.names_binary_field.ensures ∙
    c.if-names_binary_field.false)))
