-- The reducing polynomials of the fields of 2^n elements, by their numbers 2^n + low.
--
--   is_reducing m      == m is a number of the catalogue
--   reducing-number   == for n up to 8 the polynomial y^n + low is irreducible exactly if its number is one
--   binary-named      == within the limits `not_binary` goes by the number
--   binary-low-degree, binary-high-degree, binary-large-low == beyond the limits it holds
--
-- Assumes nothing.
use Prim.Native.Nat.{ℕ, ◌+◌, ◌*◌, ◌^◌, ◌≤◌, ◌<◌}
use mathlib.Core.Path.{◌≡◌, refl, sym, ap, subst, ◌∙◌}
use mathlib.Core.Bool.{Bool, true, false, not, ◌&&◌}
use mathlib.Core.List.{Memᴰ}
use native.Mathlib.Nat.{mul-one}
use native.Mathlib.Omega.{arith}
use lib.ListN.{length}
use lib.Dec.{T, leb, ltb, eqb, eqb→eq, eqb_refl, le→leb, lt→ltb, leb→le, ltb→lt}
use Rattle.meaning.specs.Search.{holds_for_some}
use Rattle.meaning.specs.Field.{prime}
use Rattle.meaning.specs.Polynomial.{Polynomial, degree, irreducible}
use Rattle.meaning.specs.Catalogue.{entry_polynomial}
use Rattle.meaning.specs.Extension.{bits, reducing}
use Rattle.meaning.specs.Conditions.{not_binary, least_extension, largest_extension}
use Rattle.bridge.proofs.Basics.Searches.{T-same, T_true, T_false, some-member, member-some}
use Rattle.bridge.proofs.Binary.Words.{value, value_snoc, value-digits}
use Rattle.bridge.proofs.Lists.Monics.{digits, length_digits}
use Rattle.bridge.proofs.Binary.Catalogue.{number-entry, number-large, number_small, member-listed}
use Rattle.bridge.proofs.Binary.Catalogue.{listed-member}
use Rattle.bridge.proofs.Binary.CatalogueTable.{table, catalogue-table}
use Rattle.bridge.proofs.Binary.Extension.{bits-digits, reducing-monic, degree-reducing}

unfoldable pub is_reducing : ℕ → Bool
is_reducing m = holds_for_some (eqb m) table

module _ (n low : ℕ) (least : 2 ≤ n) (most : n ≤ 8) (small : low < 2 ^ n) where
  abbrev f : Polynomial
  f = reducing n low

  value-reducing : value 2 f ≡ 2 ^ n + low
  unfolding reducing
  value-reducing =
      value_snoc 2 (bits n low) 1
      ∙ ap (λ l. value 2 l + 2 ^ length l * 1) (bits-digits n low)
      ∙ ap (λ (v : ℕ). v + 2 ^ length (digits 2 n low) * 1) (value-digits 2 n low (omega arith) small)
      ∙ ap (λ (k : ℕ). low + 2 ^ k * 1) (length_digits 2 n low)
      ∙ omega (arith, mul-one (2 ^ n))

  positive : 1 ≤ degree f
  positive = omega (arith, degree-reducing n low)

  narrow : degree f ≤ 10
  narrow = omega (arith, degree-reducing n low)

  entry : entry_polynomial (2 ^ n + low) ≡ f
  entry = ap entry_polynomial (sym value-reducing) ∙ number-entry f (reducing-monic n low) positive narrow

  pub reducing-number : irreducible (prime 2) f ≡ is_reducing (2 ^ n + low)
  unfolding is_reducing
  reducing-number = T-same there back
    where
      there : T (irreducible (prime 2) f) → T (holds_for_some (eqb (2 ^ n + low)) table)
      there h =
          let m = listed-member (record {
            at_least =
                subst (λ v. 2 ≤ v) value-reducing (number-large f (reducing-monic n low) positive narrow);
            less =
                subst (λ v. v < 2048) value-reducing (number_small f (reducing-monic n low) positive narrow);
            irreducibility = subst (λ g. T (irreducible (prime 2) g)) (sym entry) h;
          }) in
          member-some (eqb (2 ^ n + low)) table (2 ^ n + low)
          (subst (Memᴰ (2 ^ n + low)) catalogue-table m) (eqb_refl (2 ^ n + low))

      back : T (holds_for_some (eqb (2 ^ n + low)) table) → T (irreducible (prime 2) f)
      back h =
          let (i, m, e) = some-member (eqb (2 ^ n + low)) table h in
          let same : 2 ^ n + low ≡ i = eqb→eq (2 ^ n + low) i e in
          let l = member-listed (subst (Memᴰ i) (sym catalogue-table) m) in
          subst (λ g. T (irreducible (prime 2) g)) (ap entry_polynomial (sym same) ∙ entry) l.irreducibility

  -- `not_binary` by the number
  pub binary-named : not (not_binary n low) ≡ is_reducing (2 ^ n + low)
  unfolding not_binary least_extension largest_extension
  binary-named =
      rw (
        T_true {b = leb 2 n} (le→leb 2 n least),
        T_true {b = leb n 8} (le→leb n 8 most),
        T_true {b = ltb low (2 ^ n)} (lt→ltb low (2 ^ n) small),
        reducing-number,
        not_binary,
      ) (twice (is_reducing (2 ^ n + low)))
    where
      twice : (b : Bool) → not (not b) ≡ b
      twice true = refl
      twice false = refl

pub binary-low-degree : (n low : ℕ) → n < 2 → not_binary n low ≡ true
unfolding not_binary least_extension largest_extension
binary-low-degree n low l = rw (T_false {b = leb 2 n} (λ h. omega (arith, leb→le 2 n h)), not_binary) refl

pub binary-high-degree : (n low : ℕ) → 8 < n → not_binary n low ≡ true
unfolding not_binary least_extension largest_extension
binary-high-degree n low l = go (leb 2 n)
  where
    go :
        (b : Bool)
        → elim (b && leb n 8) [
          | false ↦ true
          | true ↦ elim (ltb low (2 ^ n)) [
            | false ↦ true
            | true ↦ not (irreducible (prime 2) (reducing n low))
          ]
        ] ≡ true
    go false = refl
    go true = rw (T_false {b = leb n 8} (λ h. omega (arith, leb→le n 8 h))) refl

pub binary-large-low : (n low : ℕ) → 2 ^ n ≤ low → not_binary n low ≡ true
unfolding not_binary least_extension largest_extension
binary-large-low n low l = go (leb 2 n && leb n 8)
  where
    go :
        (b : Bool)
        → elim b [
          | false ↦ true
          | true ↦ elim (ltb low (2 ^ n)) [
            | false ↦ true
            | true ↦ not (irreducible (prime 2) (reducing n low))
          ]
        ] ≡ true
    go false = refl
    go true = rw (T_false {b = ltb low (2 ^ n)} (λ h. omega (arith, ltb→lt low (2 ^ n) h))) refl
