-- The fields that names stand for have the laws of a field, and the sums and products that they are said to
-- have.
--
--   field_laws       == the laws, of any field
--   prime-residues, binary-polynomials == the sums and products of the two sorts
--   binary-only      == no other product on GF(2^n) has the laws and takes y so
-- Assumes nothing.
use Prim.Native.Nat.{ℕ, suc, ◌+◌, ◌*◌, ◌-◌, ◌%◌, ◌^◌, ◌<◌}
use mathlib.Core.Path.{◌≡◌, sym, ap, subst, ◌∙◌}
use mathlib.Core.Bool.{false}
use native.Mathlib.Nat.{pow-succ'}
use native.Mathlib.Omega.{arith}
use lib.Bits.{bit_xor, xor_zero_l}
use lib.Pow.{pow-lt}
use Rattle.meaning.specs.declared.FieldName.{FieldName}
use Rattle.meaning.specs.Field.{Field, negative}
use Rattle.meaning.specs.Extension.{binary}
use Rattle.meaning.specs.FieldNames.{named_field, not_field}
use Rattle.bridge.proofs.Basics.Interpretation.{IsField, prime-size, prime-add, prime-mul, size-two}
use Rattle.bridge.proofs.Basics.Interpretation.{add-below, mul-below, negative-below, reciprocal-below}
use Rattle.bridge.proofs.Basics.Interpretation.{number-add_comm, number-add_assoc, number-zero-add}
use Rattle.bridge.proofs.Basics.Interpretation.{number-mul_comm, number-mul_assoc, number-mul-add}
use Rattle.bridge.proofs.Basics.Interpretation.{number-one-mul, number-add-negative, number-mul-reciprocal}
use Rattle.bridge.proofs.Basics.Interpretation.{reciprocal}
use Rattle.bridge.proofs.Lists.Monics.{digit}
use Rattle.bridge.proofs.Binary.WordLists.{digit_xor}
use Rattle.bridge.proofs.Binary.BinaryNumbers.{BinaryName, binary-name, binary-size, binary-add, bit-low}
use Rattle.bridge.proofs.Binary.BinaryNumbers.{binary-double-small, binary-double-large}
use Rattle.bridge.proofs.Binary.BinaryNumbers.{admitted-is_field}
use Rattle.bridge.proofs.Binary.OneProduct.{Product, product-only}
use Rattle.bridge.proofs.Binary.NamedFields.{named-is_field}
use Rattle.theorems.specs.Ratings.{GF}
use Rattle.theorems.specs.Fields.{FieldLaws, Residues, Polynomials, bit}
use Rattle.theorems.specs.Fields.{Multiplies, FieldPromise}

field_laws : {F : Field} → IsField F → FieldLaws F
field_laws {F} I =
    record {
      two_or_more = size-two I;
      add-below = add-below I;
      mul-below = mul-below I;
      add_comm = number-add_comm I;
      mul_comm = number-mul_comm I;
      add_assoc = number-add_assoc I;
      mul_assoc = number-mul_assoc I;
      mul-add = number-mul-add I;
      zero-add = λ a l. number-zero-add I l;
      one-mul = λ a l. number-one-mul I l;
      opposite = λ a. (negative F a, negative-below I a, number-add-negative I a);
      inverse = λ a l nonzero. (reciprocal I a, reciprocal-below I a, number-mul-reciprocal I l nonzero);
    }

prime-residues : (p : ℕ) → Residues (GF (FieldName.Prime p)) p
unfolding named_field
prime-residues p = record { size = prime-size p; sum = prime-add p; product = prime-mul p }

module _ {n low : ℕ} (b : BinaryName n low) where
  abbrev F : Field
  F = binary n low

  sum-bits : (x y i : ℕ) → i < n → bit (F.add x y) i ≡ (bit x i + bit y i) % 2
  unfolding digit
  sum-bits x y i l =
      ap (λ s. bit s i) (binary-add n low x y)
      ∙ digit_xor (x % 2 ^ n) (y % 2 ^ n) i
      ∙ rw (bit-low n i x l, bit-low n i y l)

  onward : (i : ℕ) → suc i < n → F.mul 2 (2 ^ i) ≡ 2 ^ suc i
  onward i l =
      binary-double-small n low b.least b.is_irreducible (2 ^ i)
      (subst (λ x. x < 2 ^ n) (pow-succ' 2 i) (pow-lt l))
      ∙ sym (pow-succ' 2 i)

  top : F.mul 2 (2 ^ (n - 1)) ≡ low
  top =
      let last : suc (n - 1) ≡ n = omega (arith, b.least) in
      let twice : 2 * 2 ^ (n - 1) ≡ 2 ^ n = sym (pow-succ' 2 (n - 1)) ∙ ap (λ m. 2 ^ m) last in
      let rest : 2 * 2 ^ (n - 1) - 2 ^ n ≡ 0 = omega (arith, twice) in
      binary-double-large n low b.least b.is_irreducible (2 ^ (n - 1))
      (pow-lt (omega (arith, b.least))) (omega (arith, twice)) b.small
      ∙ ap (λ x. bit_xor x low) rest
      ∙ xor_zero_l low

  inside : {a : ℕ} → a < 2 ^ n → a < F.size
  inside {a} l = subst (λ k. a < k) (sym (binary-size n low)) l

  -- a product on elements, in the words of the bridge
  product_of : {mul : ℕ → ℕ → ℕ} → Multiplies F n low mul → Product n low mul
  product_of {mul} m =
      record {
        below = λ a b l k. subst (λ s. mul a b < s) (binary-size n low) (m.below a b (inside l) (inside k));
        comm = λ a b l k. m.comm a b (inside l) (inside k);
        assoc = λ a b c l k h. m.assoc a b c (inside l) (inside k) (inside h);
        distributes = λ a b c l k h. m.distributes a b c (inside l) (inside k) (inside h);
        one = λ a l. m.one a (inside l);
        onward = m.times_y.onward;
        top = m.times_y.top;
      }

  -- that of the field is one
  field_multiplies : IsField F → Multiplies F n low F.mul
  field_multiplies I =
      record {
        below = λ a b l k. mul-below I a b;
        comm = λ a b l k. number-mul_comm I a b;
        assoc = λ a b c l k h. number-mul_assoc I a b c;
        distributes = λ a b c l k h. number-mul-add I a b c;
        one = λ a l. number-one-mul I l;
        times_y = record { onward = onward; top = top };
      }

binary-only : (n low : ℕ) (mul : ℕ → ℕ → ℕ) → not_field (FieldName.Binary n low) ≡ false
    → Multiplies (GF (FieldName.Binary n low)) n low mul
    → (a b : ℕ)
    → a < 2 ^ n
    → b < 2 ^ n
    → mul a b ≡ (GF (FieldName.Binary n low)).mul a b
unfolding named_field not_field
binary-only n low mul h m =
    let b = binary-name n low h in
    product-only b (product_of b m) (product_of b (field_multiplies b (admitted-is_field n low h)))

binary-polynomials : (n low : ℕ) → not_field (FieldName.Binary n low) ≡ false
    → Polynomials (GF (FieldName.Binary n low)) n low
unfolding named_field not_field
binary-polynomials n low h =
    let b = binary-name n low h in
    record {
      size = binary-size n low;
      sum = sum-bits b;
      times_y = record { onward = onward b; top = top b };
    }

pub field_promise : FieldPromise
field_promise =
    record {
      laws = λ name h. field_laws (named-is_field name h);
      prime = λ p h. prime-residues p;
      binary = binary-polynomials;
      only = binary-only;
    }
