-- Sums of products by the bits of the coefficients, from the highest down.
--
--   upper n j a       == the number of the bits of a from j on, among its n lowest
--   Summing f c s total j == what the loop over the bits keeps: total is the sum of the products of these
--                        numbers with the terms
--   summing_start, summing_more, summing_end == the turns of the loop
--   bit_shifted       == a bit of a byte, as it is shifted
--
-- Assumes nothing.
use Prim.Native.Nat.{ℕ, zero, suc, ◌+◌, ◌*◌, ◌-◌, ◌/◌, ◌%◌, ◌^◌, ◌≤◌, ◌<◌}
use mathlib.Core.Path.{◌≡◌, refl, sym, ap, ap₂, subst, ◌∙◌}
use mathlib.Core.List.{List, [], ◌∷◌, map}
use native.Mathlib.Nat.{mod-lt, mod-mod, mod-eq_of_lt, div-eq_of_lt, div-div-eq-div-mul, div-one}
use native.Mathlib.Nat.{pow-zero, pow-suc}
use native.Mathlib.Nat.{zero-mul, one-mul, zero-mod, div-le_self}
use native.Mathlib.Omega.{arith}
use lib.Bits.{bit_and, bit_xor, and_high}
use lib.Pow.{pow_pos, pow_mono}
use Rattle.meaning.specs.Field.{Field}
use Rattle.meaning.specs.Sequence.{Sequence, act_at, known}
use Rattle.bridge.proofs.Basics.Interpretation.{IsField, number-mul-zero, number-zero-mul, number-zero-add}
use Rattle.bridge.proofs.Basics.Interpretation.{number-add_comm}
use Rattle.bridge.proofs.Basics.Interpretation.{number-add_assoc, number-mul-add, number-mul_comm}
use Rattle.bridge.proofs.Basics.Interpretation.{number-mul_assoc, size-positive}
use Rattle.bridge.proofs.Basics.Interpretation.{number-one-mul, add-below}
use Rattle.bridge.proofs.Binary.BinaryNumbers.{binary-add, binary-digits, picked, bit-low}
use Rattle.arith.specs.declared.extension.ExtensionField.{ExtensionField}
use Rattle.arith.specs.extension.Extension.{extension_of}
use Rattle.arith.specs.extension.Planes.{plane_of}
use Rattle.arith.proofs.extension.Elements.{name, extension_of-is_field, extension_size, sum-element}
use Rattle.arith.proofs.extension.Elements.{mul-element}
use Rattle.arith.proofs.extension.Elements.{picked_none, picked-some, size_low, element_byte}
use Rattle.arith.proofs.extension.Elements.{mul-element-right}

unfoldable pub upper : ℕ → ℕ → ℕ → ℕ
upper n j a = a % 2 ^ n / 2 ^ j

upper-below : (n j a : ℕ) → upper n j a < 2 ^ n
unfolding upper
upper-below n j a =
    omega (arith, div-le_self (a % 2 ^ n) (2 ^ j), mod-lt a {m = 2 ^ n} (pow_pos n))

-- bit j of a number, by a mask and by a division
bit-and : (a j : ℕ) → bit_and a (2 ^ j) ≡ (a / 2 ^ j % 2) * 2 ^ j
bit-and a j =
    ap (bit_and a) (omega (arith, pow-suc 2 j, ap (λ k. 2 ^ k) one))
    ∙ and_high a 1 j
    ∙ ap (λ (k : ℕ). (a / 2 ^ j % k) * 2 ^ j) (omega (arith, pow-suc 2 0, pow-zero 2))
  where
    one : 1 + j ≡ suc j
    one = omega arith

-- a bit of a byte, as it is shifted
pub bit_shifted : (j : ℕ) → j < 8 → 1 * 2 ^ j % 256 ≡ 2 ^ j
bit_shifted j l =
    let k : j ≤ 7 = omega arith in
    let h : 2 ^ j ≤ 2 ^ 7 = pow_mono k in
    ap (λ (n : ℕ). n % 256) (one-mul (2 ^ j)) ∙ mod-eq_of_lt (omega arith)

module _ (f : ExtensionField) where
  abbrev F : Field
  F = extension_of f

  abbrev I : IsField F
  I = extension_of-is_field f

  abbrev n : ℕ
  n = f.degree

  -- a sum looks at the lowest bits of its second number
  add_low : (y z : ℕ) → F.add y (z % 2 ^ n) ≡ F.add y z
  unfolding extension_of
  add_low y z =
      binary-add n f.low y (z % 2 ^ n)
      ∙ ap (bit_xor (y % 2 ^ n)) (mod-mod z (2 ^ n))
      ∙ sym (binary-add n f.low y z)

  add_xor : (y p r : ℕ) → F.add y (bit_xor p r) ≡ F.add y (F.add p r)
  add_xor y p r = sym (add_low y (bit_xor p r)) ∙ ap (F.add y) (sum-element f p r)

  rearranged : (p q a r : ℕ) → F.add (F.add p q) (F.add a r) ≡ F.add (F.add q a) (F.add p r)
  rearranged p q a r =
      ap (λ x. F.add x (F.add a r)) (number-add_comm I p q)
      ∙ number-add_assoc I q p (F.add a r)
      ∙ ap (F.add q)
      (sym (number-add_assoc I p a r)
      ∙ ap (λ x. F.add x r) (number-add_comm I p a)
      ∙ number-add_assoc I a p r)
      ∙ sym (number-add_assoc I q a (F.add p r))

  module _ (j : ℕ) (l : j < n) where
    half : (a : ℕ) → upper n j a / 2 ≡ upper n (suc j) a
    unfolding upper
    half a = div-div-eq-div-mul (a % 2 ^ n) (2 ^ j) 2 ∙ ap (λ (k : ℕ). a % 2 ^ n / k) (sym (pow-suc 2 j))

    -- the bit of a coefficient among its n lowest
    bit-same : (a : ℕ) → upper n j a % 2 ≡ a / 2 ^ j % 2
    unfolding upper
    bit-same a = bit-low n j a l

    -- the product with that bit
    bit-product : (a x : ℕ) → picked (bit_and a (2 ^ j)) x % 2 ^ n ≡ F.mul (upper n j a % 2) x
    bit-product a x = go (a / 2 ^ j % 2) refl (mod-lt (a / 2 ^ j) (omega arith))
      where
        position : 0 < 2 ^ j
        position = pow_pos j

        go :
            (t : ℕ) → a / 2 ^ j % 2 ≡ t → t < 2
            → picked (bit_and a (2 ^ j)) x % 2 ^ n ≡ F.mul (upper n j a % 2) x
        go zero e h =
            ap (λ (k : ℕ). k % 2 ^ n)
            (sym (picked_none x (bit-and a j ∙ ap (λ (k : ℕ). k * 2 ^ j) e ∙ zero-mul (2 ^ j))))
            ∙ zero-mod (2 ^ n)
            ∙ sym (ap (λ k. F.mul k x) (bit-same a ∙ e) ∙ number-zero-mul I x)
        go (suc zero) e h =
            ap (λ (k : ℕ). k % 2 ^ n)
            (sym (picked-some x
            (λ z. omega (arith, position, bit-and a j ∙ ap (λ (k : ℕ). k * 2 ^ j) e ∙ one-mul (2 ^ j)))))
            ∙ sym (number-one-mul I (subst (λ s. x % 2 ^ n < s) (sym (extension_size f)) (element_byte f x)))
            ∙ mul-element-right f 1 x
            ∙ sym (ap (λ k. F.mul k x) (bit-same a ∙ e))
        go (suc (suc t)) e h = absurd (omega arith)

    -- one coefficient: its bit, and y times the bits above it
    level : (a x : ℕ) → F.mul (upper n j a) x
        ≡ F.add (F.mul (upper n j a % 2) x) (F.mul 2 (F.mul (upper n (suc j) a) x))
    level a x =
        number-mul_comm I (upper n j a) x
        ∙ ap (F.mul x) (sym whole)
        ∙ number-mul-add I x (upper n j a % 2) (F.mul 2 (upper n j a / 2))
        ∙ ap₂ F.add (number-mul_comm I x (upper n j a % 2))
        (number-mul_comm I x (F.mul 2 (upper n j a / 2))
        ∙ number-mul_assoc I 2 (upper n j a / 2) x
        ∙ ap (λ k. F.mul 2 (F.mul k x)) (half a))
      where
        small : upper n j a < 2 ^ n
        small = upper-below n j a

        whole : F.add (upper n j a % 2) (F.mul 2 (upper n j a / 2)) ≡ upper n j a
        whole =
            unfold extension_of in
            binary-digits n f.low (name f).least (name f).is_irreducible (upper n j a) small

    -- all coefficients
    pub planes :
        (c : List ℕ) (s : Sequence) (k : ℕ)
        → act_at F (map (upper n j) c) s k
        ≡ F.add (F.mul 2 (act_at F (map (upper n (suc j)) c) s k)) (plane_of (2 ^ j) c s k)
    unfolding act_at plane_of
    planes [] s k =
        sym (ap (λ x. F.add x 0) (number-mul-zero I 2) ∙ number-zero-add I (size-positive I))
    planes (a ∷ c) s k =
        ap₂ F.add (level a (s k)) (planes c s (suc k))
        ∙ rearranged _ _ _ _
        ∙ ap₂ F.add (sym (number-mul-add I 2 _ _))
        (number-add_comm I _ _
        ∙ ap (F.add (plane_of (2 ^ j) c s (suc k))) (sym (bit-product a (s k)))
        ∙ add_low _ _
        ∙ number-add_comm I _ _)
        ∙ sym (add_xor _ _ _)

  act_at-below : (c : List ℕ) (s : Sequence) (k : ℕ) → act_at F c s k < 2 ^ n
  unfolding act_at
  act_at-below [] s k = omega (arith, size_low f)
  act_at-below (a ∷ c) s k =
      subst (λ q. F.add (F.mul a (s k)) (act_at F c s (suc k)) < q) (extension_size f) (add-below I _ _)

  -- no bits, and all of them
  none_left : (c : List ℕ) (s : Sequence) (k : ℕ) → act_at F (map (upper n n) c) s k ≡ 0
  unfolding act_at
  none_left [] s k = refl
  none_left (a ∷ c) s k =
      ap₂ F.add (ap (λ x. F.mul x (s k)) (upper-none a) ∙ number-zero-mul I (s k))
      (none_left c s (suc k))
      ∙ number-zero-add I (size-positive I)
    where
      upper-none : (a : ℕ) → upper n n a ≡ 0
      upper-none a = unfold upper in div-eq_of_lt (mod-lt a (pow_pos n))

  all_left : (c : List ℕ) (s : Sequence) (k : ℕ) → act_at F (map (upper n 0) c) s k ≡ act_at F c s k
  unfolding act_at
  all_left [] s k = refl
  all_left (a ∷ c) s k =
      ap₂ F.add (ap (λ x. F.mul x (s k)) (upper-all a) ∙ mul-element f a (s k)) (all_left c s (suc k))
    where
      upper-all : (a : ℕ) → upper n 0 a ≡ a % 2 ^ n
      upper-all a = unfold upper in ap (◌/◌ (a % 2 ^ n)) (pow-zero 2) ∙ div-one (a % 2 ^ n)

-- The sum of the products with the bits from j on of the coefficients
pub record Summing (f : ExtensionField) (c s : List ℕ) (total j : ℕ) : Type 0 where
  pub within : j ≤ f.degree
  pub is_sum : total ≡ act_at (extension_of f) (map (upper f.degree j) c) (known s) 0

module _ (f : ExtensionField) (c s : List ℕ) where
  pub summing_start : Summing f c s 0 f.degree
  summing_start = record { within = omega arith; is_sum = sym (none_left f c (known s) 0) }

  module _ {total j : ℕ} (r : Summing f c s total j) where
    pub summing_below : total < 2 ^ f.degree
    summing_below = subst (λ x. x < 2 ^ f.degree) (sym r.is_sum) (act_at-below f _ (known s) 0)

    pub summing_more :
        {d bit p t : ℕ} → 0 < j
        → d ≡ (extension_of f).mul 2 total
        → bit ≡ 2 ^ (j - 1)
        → p ≡ plane_of bit c (known s) 0
        → t ≡ (extension_of f).add d p
        → Summing f c s t (j - 1)
    summing_more l e b g h =
        let less : suc (j - 1) ≡ j = omega arith in
        record {
          within = omega (arith, r.within);
          is_sum =
              h
              ∙ ap₂ (extension_of f).add
              (e
              ∙ ap ((extension_of f).mul 2)
              (r.is_sum ∙ ap (λ k. act_at (extension_of f) (map (upper f.degree k) c) (known s) 0)
              (sym less)))
              (g ∙ ap (λ k. plane_of k c (known s) 0) b)
              ∙ sym (planes f (j - 1) (omega (arith, r.within)) c (known s) 0);
        }

    pub summing_end : j ≡ 0 → total ≡ act_at (extension_of f) c (known s) 0
    summing_end e =
        r.is_sum
        ∙ ap (λ k. act_at (extension_of f) (map (upper f.degree k) c) (known s) 0) e
        ∙ all_left f c (known s) 0
