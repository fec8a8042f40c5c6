-- One turn of Euclid's algorithm: a leaves its remainder by b.
--
--   euclid-ends       == where the remainder is 0, b is a greatest common divisor
--   euclid_turns      == b and the remainder, without the zeros at its end, are what the next turn asks for
--   euclid_goes_on    == and what it finds is a greatest common divisor of a and b
--   euclid_turned     == all of this, as the code makes it; `turned-…`: what the recursion takes of it
--
-- Assumes nothing.
use Prim.Native.Nat.{ℕ, ◌-◌, ◌≤◌, ◌<◌}
use mathlib.Core.Path.{◌≡◌, sym, ap, subst, ◌∙◌}
use mathlib.Core.Logic.{◌≢◌}
use mathlib.Core.List.{List}
use native.Mathlib.Decide.{dec_lt}
use native.Mathlib.Omega.{arith}
use lib.ListN.{length, get_or, take, length-take, get_or-eq_default}
use lib.Seq.{get_or-take, length-take-le}
use Rattle.meaning.specs.Field.{Field}
use Rattle.meaning.specs.Polynomial.{Polynomial, degree, leading}
use Rattle.bridge.proofs.Basics.Interpretation.{IsField}
use Rattle.bridge.proofs.Lists.Polynomials.{length-degree, leading-get_or, leading-nonempty}
use Rattle.bridge.proofs.Sequences.Continuations.{take-elements}
use Rattle.bridge.proofs.Lists.Remainders.{Congruent, congruent_trans, congruent-places}
use Rattle.bridge.proofs.Lists.IrreducibleTests.{CommonDegree, common_nothing, common_step}
use Rattle.arith.specs.Represented.{field_of}
use Rattle.arith.specs.declared.field.GaloisField.{GaloisField}
use Rattle.arith.proofs.Represented.{field-is_field}
use Rattle.poly.specs.division.Division.{Divisible, Divided}
use Rattle.poly.specs.common_divisor.Common.{Trimmed, Euclidean, Turned, Common}
use Rattle.poly.proofs.division.Dividing.{divided_congruent}

module _ {F : Field} (I : IsField F) {a b : Polynomial} (E : Euclidean F a b) where
  abbrev e : ℕ
  e = length b - 1

  pub divisor-nonempty : 0 < length b
  divisor-nonempty = leading-nonempty b E.nonzero

  degree-b : degree b ≡ e
  degree-b = length-degree b (omega (arith, divisor-nonempty))

  pub euclid_divisible : Divisible F a b
  euclid_divisible = record { divisor = E.divisor; nonzero = E.nonzero; elements = E.dividend }

  module _ {c : ℕ} {a' : List ℕ} (d : Divided F c b a a') where
    pub divided_size : e ≤ length a'
    divided_size = omega (arith, d.size, E.shorter)

    abbrev rest : List ℕ
    rest = take (e - 0) a'

    rest-congruent : Congruent I b a rest
    rest-congruent =
        let same : degree b ≡ e - 0 = degree-b ∙ omega arith in
        subst (λ n. Congruent I b a (take n a')) same (divided_congruent I d)

    module _ {n : ℕ} (t : Trimmed rest n) where
      -- where the remainder is 0, b is a greatest common divisor
      euclid-ends : n ≡ 0 → CommonDegree I a b e
      euclid-ends z =
          common_step I rest-congruent
          (subst (CommonDegree I b rest) degree-b
          (common_nothing I b rest E.divisor E.nonzero (λ i. t.zeros i (omega arith))))

      abbrev next : List ℕ
      next = take n a'

      remainder-short : n ≤ e
      remainder-short = omega (arith, t.within, length-take (e - 0) a')

      length-next : length next ≡ n
      length-next = length-take-le n a' (omega (arith, remainder-short, divided_size))

      trimmed_congruent : Congruent I b a next
      trimmed_congruent = congruent_trans I rest-congruent (congruent-places I rest next places)
        where
          places : (i : ℕ) → get_or rest i 0 ≡ get_or next i 0
          places i = elim (dec_lt i n) [
            | yes l ↦
                get_or-take (e - 0) a' i 0 (omega (arith, remainder-short)) ∙ sym (get_or-take n a' i 0 l)
            | no l ↦
                t.zeros i (omega arith)
                ∙ sym (get_or-eq_default next 0 (omega (arith, length-next)))
          ]

      pub euclid_turns : n ≢ 0 → Euclidean F b next
      euclid_turns h =
          record {
            dividend = E.divisor;
            divisor = take-elements F n a' d.elements;
            shorter = omega (arith, length-next, remainder-short);
            nonzero = λ z. t.last (omega arith) (last ∙ z);
          }
        where
          last : get_or rest (n - 1) 0 ≡ leading next
          last =
              let below : n - 1 < e - 0 = omega (arith, remainder-short) in
              let within : n - 1 < n = omega arith in
              let top-place : degree next ≡ n - 1 = length-degree next (length-next ∙ omega arith) in
              get_or-take (e - 0) a' (n - 1) 0 below
              ∙ sym (get_or-take n a' (n - 1) 0 within)
              ∙ ap (λ i. get_or next i 0) (sym top-place)
              ∙ sym (leading-get_or next)

      pub euclid_goes_on : {k : ℕ} → CommonDegree I b next k → CommonDegree I a b k
      euclid_goes_on g = common_step I trimmed_congruent g

-- The turn as the code makes it
pub euclid_turned :
    (field : GaloisField) {a b a' : List ℕ} {c n : ℕ}
    → Euclidean (field_of field) a b
    → Divided (field_of field) c b a a'
    → Trimmed (take (length b - 1 - 0) a') n
    → Turned field a b a' n
euclid_turned field E d t =
    record {
      first = d.size;
      falls =
          let I = field-is_field field in
          omega (arith, remainder-short I E d t, divisor-nonempty I E);
      ends = λ z. euclid-ends (field-is_field field) E d t z;
      turns = λ h. euclid_turns (field-is_field field) E d t h;
      goes_on = λ k g. euclid_goes_on (field-is_field field) E d t g;
    }

-- The recursion
module _ {field : GaloisField} {a b a' : List ℕ} {n : ℕ} (t : Turned field a b a' n) where
  length-lent : n ≡ n - 0
  length-lent = omega arith

  pub turned_ends : n ≡ 0 → Common field a b (length b - 1)
  turned_ends z = record { degree = t.ends z }

  pub turned_goes_on : {k : ℕ} → Common field b (take (n - 0) a') k → Common field a b k
  turned_goes_on {k} c =
      record {
        degree =
            t.goes_on k
            (subst (λ m. CommonDegree (field-is_field field) b (take m a') k) (sym length-lent) c.degree);
      }
