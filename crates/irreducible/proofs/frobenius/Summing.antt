-- The sum of the rows of a table with the coefficients of h: h^q modulo f.
--
--   Summing field table h sum j == what the loop keeps: the sum of the first j rows
--   summing_start, summing_next, summing_end == at the start, one row more, at the end
--
-- Assumes nothing.
use Prim.Native.Nat.{ℕ, ◌+◌, ◌*◌, ◌-◌, ◌≤◌, ◌<◌}
use mathlib.Core.Path.{◌≡◌, sym, ap, subst, ◌∙◌}
use mathlib.Core.List.{List, [], ◌∷◌}
use native.Mathlib.Nat.{add-sub_cancel_left}
use native.Mathlib.Numerals.{add-one}
use native.Mathlib.Omega.{arith}
use lib.ListN.{length, get_or, take, drop, replicate, length-take}
use lib.Seq.{take_all}
use lib.Dec.{T}
use Rattle.meaning.specs.Field.{Field, are_elements}
use Rattle.meaning.specs.Polynomial.{Polynomial, degree, power}
use Rattle.bridge.proofs.Basics.Interpretation.{IsField}
use Rattle.bridge.proofs.Lists.Polynomials.{plus-elements, scale-elements}
use Rattle.bridge.proofs.Lists.Coefficients.{get_or-zeros}
use Rattle.bridge.proofs.Lists.Remainders.{Congruent}
use Rattle.bridge.proofs.Lists.Residues.{rows_start, rows_next}
use Rattle.arith.specs.Represented.{field_of}
use Rattle.arith.specs.Slices.{combined}
use Rattle.arith.specs.declared.field.GaloisField.{GaloisField}
use Rattle.arith.proofs.Represented.{field-is_field, size-power}
use Rattle.arith.proofs.Slices.{length-combined}
use Rattle.irreducible.specs.frobenius.Table.{row, Rows, Summed}
use Rattle.bridge.proofs.Lists.Polynomials.{zeros-elements}

pub record Summing (field : GaloisField) (table h sum : List ℕ) (j : ℕ) : Type 0 where
  pub within : j ≤ length h
  pub size : length sum ≡ length h
  pub elements : T (are_elements (field_of field) sum)
  pub raised :
      (f : Polynomial)
      → length h ≡ degree f
      → Rows field f table
      → Congruent (field-is_field field) f (power (field_of field) (take j h) (field_of field).size) sum

module _ (field : GaloisField) (table h : List ℕ) (s : length table ≡ 1024)
    (short : length h ≤ 32) where
  abbrev F : Field
  F = field_of field

  pub summing_start :
      {sum : List ℕ} → length sum ≡ length h → sum ≡ replicate (length sum) 0 → Summing field table h sum 0
  summing_start {sum} e z =
      record {
        within = omega arith;
        size = e;
        elements =
            subst (λ u. T (are_elements F u)) (sym z) (zeros-elements (field-is_field field) (length sum));
        raised = λ f _ _.
            rows_start (field-is_field field) h sum
            (λ i. ap (λ u. get_or u i 0) z ∙ get_or-zeros (length sum) i);
      }

  module _ {sum : List ℕ} {j : ℕ} (m : Summing field table h sum j) (l : j < length h) where
    abbrev lent : List ℕ
    lent = take (32 * j + length h - 32 * j) (drop (32 * j) table)

    lent_row : lent ≡ row table j (length h)
    lent_row = ap (λ n. take n (drop (32 * j) table)) (add-sub_cancel_left (32 * j) (length h))

    pub row-lent : length lent ≤ length sum
    row-lent =
        omega (arith, ap length lent_row, length-take (length h) (drop (32 * j) table), m.size)

    pub summing_next :
        {ys : List ℕ} → ys ≡ combined F sum (get_or h j 0) lent → Summing field table h ys (j + 1)
    summing_next {ys} e =
        record {
          within = omega arith;
          size = ap length e ∙ length-combined F sum (get_or h j 0) lent row-lent ∙ m.size;
          elements =
              subst (λ u. T (are_elements F u)) (sym e)
              (plus-elements (field-is_field field) sum _ m.elements
              (scale-elements (field-is_field field) (get_or h j 0) lent));
          raised = λ f k r.
              let I : IsField F = field-is_field field in
              let (a, b) = size-power field in
              let same : row table j (degree f) ≡ lent = ap (row table j) (sym k) ∙ sym lent_row in
              subst (Congruent I f (power F (take (j + 1) h) F.size)) (sym e)
              (subst (λ n. Congruent I f (power F (take n h) F.size) (combined F sum (get_or h j 0) lent))
              (sym (add-one j))
              (rows_next I a b h sum lent j l (m.raised f k r)
              (subst (Congruent I f (power F (0 ∷ 1 ∷ []) (j * F.size))) same
              (r.at j (omega arith)).congruent)));
        }

  pub summing_end : {sum : List ℕ} {j : ℕ} → Summing field table h sum j → length h ≤ j
      → Summed field table h sum
  summing_end {sum} {j} m l =
      record {
        size = m.size;
        raised = λ f k r. (
          m.elements,
          subst (λ u. Congruent (field-is_field field) f (power F u F.size) sum) (take_all j h l)
              (m.raised f k r),
        );
      }
