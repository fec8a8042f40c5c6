-- What a name stands for, the questions and the continuation, and that the tests for primes and irreducible
-- polynomials are the words of the request.
--
--   field_of         == the field with a name is a field, of whatever size
--   …-answered       == an answer in a field is right
--   …-promise, …-words == the promises
-- Assumes nothing.
use Prim.Native.Nat.{ℕ}
use native.Mathlib.Omega.{arith}
use mathlib.Core.Path.{◌≡◌, refl, sym, ap, subst, ◌∙◌}
use mathlib.Core.Logic.{◌↔◌}
use mathlib.Core.Bool.{Bool, false}
use mathlib.Core.List.{List}
use mathlib.Core.Option.{some-injective}
use borrow.Author.Tests.{eq-eqb, ne_eqb}
use lib.ListN.{length}
use lib.Dec.{T, eqb, eqb→eq}
use Rattle.meaning.specs.declared.FieldName.{FieldName}
use Rattle.meaning.specs.Field.{Field, prime_in_range, are_elements}
use Rattle.meaning.specs.Polynomial.{Polynomial, degree, leading, is_monic, is_monic_over, irreducible}
use Rattle.meaning.specs.Polynomial.{power, monic_multiple, NotAProduct}
use Rattle.meaning.specs.Sequence.{Sequence, AnnihilatesEndless, continuation}
use Rattle.meaning.specs.Result.{answered}
use Rattle.meaning.specs.Conditions.{not_prime, start_unlike_degree}
use Rattle.meaning.specs.FieldNames.{named_field, not_field, field_number}
use Rattle.meaning.specs.Continuation.{continue_table, filled, continue_in, continue_sequence}
use Rattle.meaning.specs.Irreducibility.{irreducible_table, irreducible_in, ask_irreducible}
use Rattle.meaning.specs.File.{field_in}
use Rattle.meaning.specs.Exports.{named_by}
use Rattle.meaning.specs.Calls.{buffer_after}
use Rattle.theorems.specs.Ratings.{GF, NamesField, NameWords, PrimeWords, IrreducibleWords}
use Rattle.theorems.specs.Ratings.{PrimePromise, IrreduciblePromise, ContinueFilled, ContinuePromise}
use Rattle.theorems.specs.Ratings.{MultiplePromise, MultiplesPromise}
use Rattle.bridge.proofs.Lists.Multiples.{Leads}
use Rattle.bridge.proofs.Basics.Searches.{and_T, not-false, settle_answered, in_answered, map_answered}
use Rattle.bridge.proofs.Basics.Searches.{map_refused}
use Rattle.bridge.proofs.Basics.Interpretation.{IsField, prime-is_field, in_range_prime}
use Rattle.bridge.proofs.Basics.Interpretation.{prime-InRange, is_prime-prime, prime-is_prime}
use Rattle.bridge.proofs.Basics.Interpretation.{is_prime_meaning}
use Rattle.bridge.proofs.Basics.Interpretation.{meaning_is_prime}
use Rattle.bridge.proofs.Basics.Interpretation.{prime_meaning, meaning_prime}
use Rattle.bridge.proofs.Lists.Polynomials.{monic-nonempty}
use Rattle.bridge.proofs.Lists.Multiples.{coefficients_lead, multiple-monic, multiple-ten}
use Rattle.bridge.proofs.Lists.Multiples.{multiple-degree, multiple-product, product-multiple, multiple-back}
use Rattle.bridge.proofs.Lists.Multiples.{multiple_self, multiple_associates, associates_power}
use Rattle.bridge.proofs.Lists.Multiples.{associates_annihilate, associates_product, multiples-total}
use Rattle.bridge.proofs.Lists.Irreducibles as bridge
use Rattle.bridge.proofs.Binary.Extension.{extension_is_field}
use Rattle.bridge.proofs.Binary.BinaryNumbers.{binary-name}
use Rattle.bridge.proofs.Binary.NamedFields.{named-is_field}
use Rattle.bridge.proofs.Sequences.Continuations.{continuation_continues, continues_unique}
use Rattle.bridge.proofs.Ways.Accepted.{terms-accepted}

-- WHAT A NAME STANDS FOR
pub field_of : (name : FieldName) → NamesField name → IsField (GF name)
unfolding named_field
field_of (FieldName.Prime p) h = prime-is_field (is_prime-prime p h)
field_of (FieldName.Binary n low) h = extension_is_field n low h.0 h.1

admitted : (name : FieldName) → not_field name ≡ false → NamesField name
unfolding not_field not_prime
admitted (FieldName.Prime p) h = prime-is_prime (in_range_prime p (not-false (prime_in_range p) h)).1
admitted (FieldName.Binary n low) h =
    let b = binary-name n low h in (omega (arith, b.least), b.is_irreducible)

pub name-words : NameWords
unfolding named_field field_number field_in named_by
name-words =
    record {
      prime-field = λ p. refl;
      prime_number = λ p. refl;
      binary-field = λ n low. refl;
      binary_number = λ n low. refl;
      file_prime = λ rs e. rw (field_in, e);
      file_binary = λ rs body rest e. rw (field_in, e);
      numbers_prime = λ f e. rw (named_by, eq-eqb _ _ e);
      numbers_binary = λ f e. rw (named_by, ne_eqb _ _ e);
      admitted = admitted;
    }

pub prime-words : PrimeWords
prime-words n = (is_prime_meaning n, meaning_is_prime)

pub irreducible-words : IrreducibleWords
irreducible-words name f h m d =
    (bridge.irreducible-words (field_of name h) f m d, bridge.words-irreducible (field_of name h) f)

-- THE MONIC MULTIPLE
monic_of : (F : Field) (f : Polynomial) → T (are_elements F f) → leading f ≡ 1 → T (is_monic_over F f)
unfolding is_monic_over is_monic
monic_of F f els one =
    and_T (eqb (leading f) 1) (are_elements F f) (subst (λ c. T (eqb c 1)) (sym one) tt) els

pub multiple_promise : MultiplePromise
multiple_promise name f h els nonzero =
    let I = field_of name h in
    let F = GF name in
    let g = monic_multiple F f in
    let leads : Leads F f = record { elements = els; nonzero = nonzero } in
    let same : (e : ℕ) (s : Sequence)
    → AnnihilatesEndless F (power F f e) s ↔ AnnihilatesEndless F (power F g e) s =
    λ e. associates_annihilate I (associates_power I (multiple_associates I leads) e) in
    record {
      monic = multiple-monic I leads;
      multiple = multiple-back I leads;
      same-degree = multiple-degree I leads;
      annihilates = same;
      least =
          λ s r. (
            λ x. record {
              annihilates = (same r s).0 x.annihilates;
              smallest = λ e y. x.smallest e ((same e s).1 y);
            },
            λ x. record {
              annihilates = (same r s).1 x.annihilates;
              smallest = λ e y. x.smallest e ((same e s).0 y);
            },
          );
      itself = λ one. multiple_self I f (monic_of F f els one);
    }

pub multiples_promise : MultiplesPromise
multiples_promise name fs vs h eleven =
    let I = field_of name h in
    record {
      same_total = multiples-total I fs vs eleven;
      annihilates = associates_annihilate I (associates_product I fs vs eleven);
    }

-- THE TWO QUESTIONS
pub prime_promise : PrimePromise
prime_promise n r c = (
  λ h. let x = in_range_prime n (subst T c.answer h) in (prime_meaning x.1, x.0),
  λ x. subst T (sym c.answer) (prime-InRange x.1 (meaning_prime x.0)),
)

irreducible_answered :
    {F : Field} (I : IsField F) (f : Polynomial) (said : Bool)
    → irreducible_in F f ≡ answered said
    → T said ↔ NotAProduct F f
unfolding irreducible_in irreducible_table
irreducible_answered {F} I f said e =
    let (h, w) = settle_answered _ (irreducible_table F f) e in
    let g = monic_multiple F f in
    let leads = coefficients_lead F f h.coefficients_in_range in
    let m = multiple-monic I leads in
    let d = bridge.accepted-degree F g (monic-nonempty F g m) (multiple-ten I leads ∙ h.degrees_in_range) in
    let same : irreducible F g ≡ said = some-injective _ _ w in (
      λ t. product-multiple I leads (bridge.irreducible-words I g m d (subst T (sym same) t)),
      λ n. subst T same (bridge.words-irreducible I g (multiple-product I leads n)),
    )

pub irreducible_promise : IrreduciblePromise
unfolding ask_irreducible
irreducible_promise name f r c said e =
    let (exists, q) = in_answered name (λ F. irreducible_in F f) (sym c.answer ∙ e) in
    irreducible_answered (named-is_field name exists) f said q

-- THE CONTINUATION
-- 15 of a continuation
start-length : (g : Polynomial) (start : List ℕ) → start_unlike_degree g start ≡ false → length start ≡
    degree g
unfolding start_unlike_degree
start-length g start h = eqb→eq (length start) (degree g) (not-false (eqb (length start) (degree g)) h)

continue_answered :
    {F : Field} (I : IsField F) (g : Polynomial) (start buffer : List ℕ) (place : ℕ) (after : List ℕ)
    → continue_in F g start place buffer ≡ answered after
    → ContinueFilled F (monic_multiple F g) start buffer place after
unfolding continue_in continue_table filled
continue_answered {F} I g start buffer place after e =
    let (h, w) = settle_answered _ (continue_table F g start place (length buffer)) e in
    let f = monic_multiple F g in
    let leads = coefficients_lead F g h.coefficients_in_range in
    let m = multiple-monic I leads in
    let size = start-length g start h.enough_terms ∙ sym (multiple-degree I leads) in
    record {
      sequence = continuation F f start;
      continues = continuation_continues I f m start size (terms-accepted F start h.terms_in_field);
      only = λ s x. continues_unique I f m start size s x;
      bytes = sym (some-injective _ _ w);
    }

pub continue_promise : ContinuePromise
unfolding continue_sequence buffer_after
continue_promise name g start buffer place r buffer' c =
    record {
      filled =
          λ e.
          let (after, q, _) =
          map_answered (λ _. tt) (continue_sequence name g start place buffer) (sym c.filling ∙ e) in
          let (exists, rest) = in_answered name (λ F. continue_in F g start place buffer) q in
          subst (ContinueFilled (GF name) (monic_multiple (GF name) g) start buffer place)
          (sym (c.buffer_bytes ∙ ap (λ x. buffer_after x buffer) q))
          (continue_answered (named-is_field name exists) g start buffer place after rest);
      untouched =
          λ n e.
          let q = map_refused (λ _. tt) (continue_sequence name g start place buffer) (sym c.filling ∙ e) in
          c.buffer_bytes ∙ ap (λ x. buffer_after x buffer) q;
    }
