-- The table of the powers x^(j·q) modulo f, row by row.
--
--   Filling field f y table row j == what the loop keeps: row has x^(j·q), and the table the rows before
--   filling-start, filling-next, filling-end == at the start, one row more, at the end
--   old-back, row-factors == the row that the next one is made of
--   power_trimmed     == x^q without the zeros at its end
--
-- Assumes nothing.
use Prim.Native.Nat.{ℕ, zero, suc, ◌+◌, ◌*◌, ◌-◌, ◌≤◌, ◌<◌}
use mathlib.Core.Path.{◌≡◌, refl, sym, ap, subst, ◌∙◌}
use mathlib.Core.List.{List, [], ◌∷◌, ◌++◌}
use native.Mathlib.Nat.{suc-mul, add_comm, zero-mul}
use native.Mathlib.Numerals.{add-one}
use native.Mathlib.Decide.{dec_lt}
use native.Mathlib.Omega.{arith}
use lib.ListN.{length, get_or, take, drop, set, replicate, length-take, length-set, length-replicate}
use lib.ListN.{get_or-eq_default, length-drop, length-append}
use lib.Seq.{get_or-take, length-take-le, take_at, paste, length-paste, take_all}
use lib.Dec.{T}
use borrow.Rule.Slice.PartMut.{put_mid}
use Rattle.meaning.specs.Field.{Field, are_elements}
use Rattle.meaning.specs.Polynomial.{Polynomial, degree, times, power}
use Rattle.bridge.proofs.Basics.Interpretation.{IsField, size-two}
use Rattle.bridge.proofs.Lists.Coefficients.{get_or-zeros}
use Rattle.bridge.proofs.Sequences.Continuations.{take-elements}
use Rattle.bridge.proofs.Lists.Remainders.{Congruent, congruent_trans, congruent-places}
use Rattle.bridge.proofs.Lists.Residues.{monomial-congruent, heights_times}
use Rattle.arith.specs.Represented.{field_of}
use Rattle.arith.specs.declared.field.GaloisField.{GaloisField}
use Rattle.arith.proofs.Represented.{field-is_field}
use Rattle.arith.proofs.Slices.{part_paste_inside, part_paste_before}
use Rattle.lent.proofs.Parts.{put_paste}
use Rattle.poly.specs.common_divisor.Common.{Trimmed}
use Rattle.poly.specs.residues.Residues.{Modulus, Factors, Residue}
use Rattle.irreducible.specs.frobenius.Table.{row, Table}
use Rattle.bridge.proofs.Lists.Polynomials.{set-elements, zeros-elements}
use Rattle.lent.proofs.Parts.{copied-back}
use Rattle.poly.proofs.common_divisor.Trimming.{trimmed_within, trimmed_part, trimmed_size, trimmed_places}

module _ (field : GaloisField) (f y : Polynomial) where
  abbrev F₁ : Field
  F₁ = field_of field

  abbrev IsPower : Type 0
  IsPower = Congruent (field-is_field field) f (power F₁ (0 ∷ 1 ∷ []) F₁.size) y

  pub record Filling (table now : List ℕ) (j : ℕ) : Type 0 where
    pub table_size : length table ≡ 1024
    pub row_size : length now ≡ 32
    pub within : j ≤ degree f
    pub elements : T (are_elements F₁ (take (degree f) now))
    pub current : IsPower
        → Congruent (field-is_field field) f (power F₁ (0 ∷ 1 ∷ []) (j * F₁.size)) (take (degree f) now)
    pub rows : IsPower → (k : ℕ) → k < j
        → Residue field f (power F₁ (0 ∷ 1 ∷ []) (k * F₁.size)) (row table k (degree f))

module _ (field : GaloisField) {f : Polynomial} (y : Polynomial)
    (M : Modulus (field_of field) f) where
  abbrev F : Field
  F = field_of field

  abbrev d : ℕ
  d = degree f

  -- x^0
  abbrev one : List ℕ
  one = set (replicate 32 0) 0 1

  one-length : length one ≡ 32
  one-length = length-set {A = ℕ} (replicate 32 0) 0 1 ∙ length-replicate {A = ℕ} 32 0

  pub filling-start : {table : List ℕ} → length table ≡ 1024 → Filling field f y table one 0
  filling-start {table} s =
      record {
        table_size = s;
        row_size = one-length;
        within = omega arith;
        elements =
            take-elements F d one
            (set-elements F (replicate 32 0) 0 1 (size-two (field-is_field field))
            (zeros-elements (field-is_field field) 32));
        current = λ _.
            subst (λ n. Congruent (field-is_field field) f (power F (0 ∷ 1 ∷ []) n) (take d one))
            (sym (zero-mul F.size))
            (congruent_trans (field-is_field field)
            (monomial-congruent (field-is_field field) 32 0 (omega arith))
            (congruent-places (field-is_field field) one (take d one) places));
        rows = λ _ k l. absurd (omega arith);
      }
    where
      rest : (i : ℕ) → 0 < i → get_or one i 0 ≡ 0
      rest zero l = absurd (omega arith)
      rest (suc i) l = get_or-zeros 31 i

      places : (i : ℕ) → get_or one i 0 ≡ get_or (take d one) i 0
      places i = elim (dec_lt i d) [
        | yes l ↦ sym (get_or-take d one i 0 l)
        | no l ↦
            rest i (omega (arith, M.positive))
            ∙ sym (get_or-eq_default (take d one) 0 (omega (arith, length-take d one)))
      ]

  module _ {e : ℕ} (s : e ≡ d) {table now : List ℕ} {j : ℕ} (h : Filling field f y table now j)
      (l : j < d) where
    abbrev src : List ℕ
    src = take (e - 0) now

    src-whole : src ≡ take d now
    src-whole = let same : e - 0 ≡ d = omega arith in ap (λ n. take n now) same

    src-length : length src ≡ d
    src-length = ap length src-whole ∙ length-take-le d now (omega (arith, h.row_size, M.small))

    pub src-fits : length src ≤ length (take (32 * j + e - 32 * j) (drop (32 * j) table))
    src-fits =
        omega (
          arith,
          src-length,
          length-take (32 * j + e - 32 * j) (drop (32 * j) table),
          length-drop (32 * j) table,
          h.table_size,
          M.small,
        )

    pub src-elements : T (are_elements F src)
    src-elements = subst (λ u. T (are_elements F u)) (sym src-whole) h.elements

    pub src-degree : length src ≡ degree f
    src-degree = src-length

    module _ {ys zs : List ℕ}
        (c : ys ≡ src)
        (r : Residue field f (times F y src) zs) where
      ys_length : length ys ≡ d
      ys_length = ap length c ∙ src-length

      row_fits : 32 * j + d ≤ length table
      row_fits = omega (arith, h.table_size, M.small)

      row-pasted : put_mid (32 * j) (32 * j + e - 32 * j) table ys ≡ paste table (32 * j) ys d
      row-pasted =
          ap (λ n. put_mid (32 * j) (32 * j + n - 32 * j) table ys) s ∙ put_paste table (32 * j) d ys
          ys_length

      old-rows :
          (k : ℕ) → k < j → row (put_mid (32 * j) (32 * j + e - 32 * j) table ys) k d ≡ row table k d
      old-rows k m =
          ap (λ u. row u k d) row-pasted
          ∙ part_paste_before table (32 * j) ys d row_fits (omega (arith, ys_length)) (32 * k) d
          (omega (arith, M.small))

      new_row : row (put_mid (32 * j) (32 * j + e - 32 * j) table ys) j d ≡ take d now
      new_row =
          ap (λ u. row u j d) row-pasted
          ∙ part_paste_inside table (32 * j) ys d row_fits (omega (arith, ys_length))
          ∙ take_all d ys (omega (arith, ys_length))
          ∙ c
          ∙ src-whole

      next_row : take d (zs ++ drop (e - 0) now) ≡ zs
      next_row = take_at zs (drop (e - 0) now) d r.size

      pub filling-next :
          Filling field f y (put_mid (32 * j) (32 * j + e - 32 * j) table ys) (zs ++ drop (e - 0) now) (j + 1)
      filling-next =
          record {
            table_size =
                ap length row-pasted
                ∙ length-paste table (32 * j) ys d row_fits (omega (arith, ys_length))
                ∙ h.table_size;
            row_size =
                length-append zs (drop (e - 0) now)
                ∙ omega (arith, r.size, length-drop (e - 0) now, h.row_size, M.small);
            within = omega arith;
            elements = subst (λ u. T (are_elements F u)) (sym next_row) r.elements;
            current = λ p.
                let I : IsField F = field-is_field field in
                let more : F.size + j * F.size ≡ (j + 1) * F.size =
                add_comm F.size (j * F.size) ∙ sym (suc-mul j F.size)
                ∙ ap (λ n. n * F.size) (sym (add-one j)) in
                subst (λ u. Congruent I f (power F (0 ∷ 1 ∷ []) ((j + 1) * F.size)) u) (sym next_row)
                (subst (λ n. Congruent I f (power F (0 ∷ 1 ∷ []) n) zs) more
                (heights_times I F.size (j * F.size) p
                (subst (Congruent I f (power F (0 ∷ 1 ∷ []) (j * F.size))) (sym src-whole) (h.current p))
                r.congruent));
            rows = λ p k m. elim (dec_lt k j) [
              | yes a ↦ subst (Residue field f _) (sym (old-rows k a)) (h.rows p k a)
              | no a ↦
                  let same : k ≡ j = omega arith in
                  subst
                  (λ i. Residue field f (power F (0 ∷ 1 ∷ []) (i * F.size))
                  (row (put_mid (32 * j) (32 * j + e - 32 * j) table ys) i d))
                  (sym same)
                  (subst (Residue field f (power F (0 ∷ 1 ∷ []) (j * F.size))) (sym new_row)
                  (record {
                    size = length-take-le d now (omega (arith, h.row_size, M.small));
                    elements = h.elements;
                    congruent = h.current p;
                  }))
            ];
          }

  pub filling-end : {table now : List ℕ} {j : ℕ} → Filling field f y table now j → d ≤ j
      → Table field f y table
  filling-end h l =
      record {
        rows = λ p. record { size = h.table_size; at = λ k m. h.rows p k (omega arith) };
      }

-- The row that the next one is made of
abbrev old : List ℕ → List ℕ
old row₀ = row₀ ++ drop (length row₀) (replicate 32 0)

module _ (field : GaloisField) {f : List ℕ} (y row₀ : List ℕ) (M : Modulus (field_of field) f)
    (s : length row₀ ≡ degree f) (k : T (are_elements (field_of field) row₀))
    (m : T (are_elements (field_of field) y)) where
  pub old-back : take (length row₀ - 0) (old row₀) ≡ row₀
  old-back = copied-back row₀ 32 refl

  pub row-factors : Factors (field_of field) (take (length row₀ - 0) (old row₀)) y
  row-factors =
      record {
        first = subst (λ u. T (are_elements (field_of field) u)) (sym old-back) k;
        second = m;
        some = omega (arith, ap length old-back, M.positive);
      }

  pub row-short : length (take (length row₀ - 0) (old row₀)) ≤ 32
  row-short = omega (arith, ap length old-back, M.small)

-- x^q without the zeros at its end
module _ {field : GaloisField} {f : List ℕ} (M : Modulus (field_of field) f) {e q n : ℕ} {ys : List ℕ}
    (t : List ℕ) (s : e ≡ degree f)
    (r : Residue field f (power (field_of field) (0 ∷ 1 ∷ []) q) ys)
    (z : q ≡ (field_of field).size)
    (u : Trimmed (take (e - 0) (ys ++ t)) n) where
  size : length ys ≡ e
  size = r.size ∙ sym s

  abbrev short : List ℕ
  short = take (n - 0) (ys ++ t)

  pub short-length : length short ≤ 32
  short-length = omega (arith, trimmed_size ys t size u, trimmed_within ys t size u, M.small)

  pub short-elements : T (are_elements (field_of field) short)
  short-elements =
      subst (λ g. T (are_elements (field_of field) g)) (sym (trimmed_part ys t size u))
      (take-elements (field_of field) n ys r.elements)

  pub power_trimmed : IsPower field f short
  power_trimmed =
      subst (λ k. Congruent (field-is_field field) f (power (field_of field) (0 ∷ 1 ∷ []) k) short) z
      (congruent_trans (field-is_field field) r.congruent
      (congruent-places (field-is_field field) ys short (λ i. sym (trimmed_places ys t size u i))))
