-- Rings of prime characteristic.
--
--   Characteristic R p   == p is prime and the p-fold sum of 1 in the ring R is 0; the ring with 0 = 1
--                           has every prime as a characteristic
--   multiple-divides     == an n-fold sum is 0 where p divides n
--   hom_characteristic   == a homomorphism carries the characteristic over
--
-- Assumes nothing.
use Prim.Native.Nat.{ℕ, ◌*◌, ◌/◌, ◌%◌, ◌∣◌}
use mathlib.Core.Path.{◌≡◌, sym, ap, ◌∙◌}
use native.Mathlib.Nat.{mod-add-div, mod-eq-zero_of_dvd}
use Rattle.algebra.proofs.Rings.Ring.{Ring, Hom, zero-mul}
use Rattle.algebra.proofs.Rings.Multiple.{numeral, multiple}
use Rattle.algebra.proofs.Rings.Multiple.{
  numeral-zero,
  numeral-add,
  numeral-mul,
  multiple-numeral,
  hom-numeral,
}
use Rattle.algebra.proofs.Numbers.Number.{Prime}

pub record Characteristic {K : Type 0} (R : Ring K) (p : ℕ) : Type 0 where
  pub prime : Prime p
  pub vanishes : numeral R p ≡ R.0#

module _ {K : Type 0} {R : Ring K} {p : ℕ} (C : Characteristic R p) where
  open R use {0#, ◌⊕◌, ◌⊗◌, add-zero}

  infixl 60 ◌⊕◌
  infixl 70 ◌⊗◌
  numeral-times : (n : ℕ) → numeral R (p * n) ≡ 0#
  numeral-times n = numeral-mul R p n ∙ ap (λ x. x ⊗ numeral R n) C.vanishes ∙ zero-mul R (numeral R n)

  pub numeral-mod : (n : ℕ) → numeral R (n % p) ≡ numeral R n
  numeral-mod n =
      sym (add-zero (numeral R (n % p)))
      ∙ ap (λ x. numeral R (n % p) ⊕ x) (sym (numeral-times (n / p)))
      ∙ sym (numeral-add R (n % p) (p * (n / p)))
      ∙ ap (numeral R) (mod-add-div n p)

  pub numeral-divides : {n : ℕ} → p ∣ n → numeral R n ≡ 0#
  numeral-divides {n} d = sym (numeral-mod n) ∙ ap (numeral R) (mod-eq-zero_of_dvd p d) ∙ numeral-zero R

  pub multiple-divides : {n : ℕ} → p ∣ n → (a : K) → multiple R n a ≡ 0#
  multiple-divides {n} d a = multiple-numeral R n a ∙ ap (λ x. x ⊗ a) (numeral-divides d) ∙ zero-mul R a

-- A homomorphism carries the characteristic over.
pub hom_characteristic :
    {K L : Type 0} {R : Ring K} {S : Ring L} {f : K → L} {p : ℕ}
    → Hom R S f → Characteristic R p → Characteristic S p
hom_characteristic {f = f} {p = p} h C =
    record { prime = C.prime; vanishes = sym (hom-numeral h p) ∙ ap f C.vanishes ∙ h.zero }
