-- Bit planes of coefficients: the exclusive or of the terms whose coefficient has a bit.
--
--   xor_assoc         == an exclusive or of three numbers
--   collecting_start, -more, -end == the turns of a loop that makes a plane
--
-- Assumes nothing.
use Prim.Native.Nat.{ℕ, zero, suc, ◌+◌, ◌*◌, ◌/◌, ◌%◌, ◌^◌, ◌≤◌, ◌<◌}
use mathlib.Core.Path.{◌≡◌, refl, sym, ap, ap₂, ◌∙◌}
use mathlib.Core.List.{List}
use native.Mathlib.Nat.{pow-zero, pow-suc, mod-add-mod, add-mod-mod}
use native.Mathlib.Numerals.{add-one}
use native.Mathlib.Omega.{arith}
use lib.ListN.{length, get_or, drop, drop_of_length-le}
use lib.Seq.{drop-cons}
use lib.Bits.{bit_xor, bit_and, differ, xor_step, xor_zero_l, xor_zero_r}
use Rattle.meaning.specs.Sequence.{known}
use Rattle.bridge.proofs.Binary.Bits.{differ-bits}
use Rattle.bridge.proofs.Binary.BinaryNumbers.{picked}
use Rattle.arith.specs.extension.Planes.{plane_of, Collecting}

bit-differ : (x y : ℕ) → differ (x % 2) (y % 2) ≡ (x % 2 + y % 2) % 2
bit-differ x y = differ-bits (x % 2) (y % 2) (omega arith) (omega arith)

xor_parts : (a b : ℕ) → bit_xor a b ≡ bit_xor (a / 2) (b / 2) * 2 + (a % 2 + b % 2) % 2
xor_parts a b = xor_step a b ∙ ap (◌+◌ (bit_xor (a / 2) (b / 2) * 2)) (bit-differ a b)

xor_half : (a b : ℕ) → bit_xor a b / 2 ≡ bit_xor (a / 2) (b / 2)
xor_half a b = omega (arith, xor_parts a b)

xor_bit : (a b : ℕ) → bit_xor a b % 2 ≡ (a % 2 + b % 2) % 2
xor_bit a b = omega (arith, xor_parts a b)

parity : (x y z : ℕ) → ((x + y) % 2 + z) % 2 ≡ (x + (y + z) % 2) % 2
parity x y z =
    mod-add-mod (x + y) 2 z ∙ ap (λ (m : ℕ). m % 2) (omega arith) ∙ sym (add-mod-mod x (y + z) 2)

assoc_within : (k a b c : ℕ) → a < 2 ^ k → b < 2 ^ k → c < 2 ^ k
    → bit_xor (bit_xor a b) c ≡ bit_xor a (bit_xor b c)
assoc_within zero a b c h i j =
    let x : a ≡ 0 = omega (arith, pow-zero 2) in
    let y : c ≡ 0 = omega (arith, pow-zero 2) in
    rw (x, y) (rw (xor_zero_l b, xor_zero_r b) refl)
assoc_within (suc k) a b c h i j =
    xor_parts (bit_xor a b) c
    ∙ ap₂ (λ (x y : ℕ). bit_xor x (c / 2) * 2 + (y + c % 2) % 2) (xor_half a b) (xor_bit a b)
    ∙ ap₂ (λ (x y : ℕ). x * 2 + y)
    (assoc_within k (a / 2) (b / 2) (c / 2) (omega (arith, pow-suc 2 k)) (omega (arith, pow-suc 2 k))
    (omega (arith, pow-suc 2 k)))
    bits
    ∙ sym
    (xor_parts a (bit_xor b c)
    ∙ ap₂ (λ (x y : ℕ). bit_xor (a / 2) x * 2 + (a % 2 + y) % 2) (xor_half b c) (xor_bit b c))
  where
    bits : ((a % 2 + b % 2) % 2 + c % 2) % 2 ≡ (a % 2 + (b % 2 + c % 2) % 2) % 2
    bits = parity (a % 2) (b % 2) (c % 2)

power-above : (n : ℕ) → n < 2 ^ n
power-above zero = omega (arith, pow-zero 2)
power-above (suc n) = omega (arith, power-above n, pow-suc 2 n)

pub xor_assoc : (a b c : ℕ) → bit_xor (bit_xor a b) c ≡ bit_xor a (bit_xor b c)
xor_assoc a b c =
    let l = power-above (a + b + c) in
    assoc_within (a + b + c) a b c (omega arith) (omega arith) (omega arith)

module _ (bit : ℕ) (c s : List ℕ) where
  pub collecting_start : Collecting bit c s 0 0
  collecting_start = xor_zero_l _

  pub collecting_end : (i x : ℕ) → Collecting bit c s i x → length c ≤ i → x ≡ plane_of bit c (known s) 0
  unfolding plane_of
  collecting_end i x e l =
      let f : plane_of bit (drop i c) (known s) i ≡ 0 = rw (drop_of_length-le c l, plane_of) in
      sym (xor_zero_r x) ∙ ap (bit_xor x) (sym f) ∙ e

  pub collecting_more :
      (i x v : ℕ) → Collecting bit c s i x → i < length c → v ≡ picked (bit_and (get_or c i 0) bit)
      (get_or s i 0)
      → Collecting bit c s (i + 1) (bit_xor x v)
  unfolding plane_of known
  collecting_more i x v e l f =
      let g : plane_of bit (drop i c) (known s) i ≡ bit_xor v
      (plane_of bit (drop (i + 1) c) (known s) (i + 1)) =
      rw (drop-cons c i 0 l, add-one, plane_of, f) in
      xor_assoc x v (plane_of bit (drop (i + 1) c) (known s) (i + 1)) ∙ ap (bit_xor x) (sym g) ∙ e
