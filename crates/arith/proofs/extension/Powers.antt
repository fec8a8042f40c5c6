-- The inverse as a power: the turns of the loop that raises a to 2^n − 2.
--
--   Raising f a x i   == x is a^(2^i − 2), and i is from 1 to n
--   raising_start, raising_more, raising_end == the turns of the loop
--
-- Assumes nothing.
use Prim.Native.Nat.{ℕ, suc, ◌+◌, ◌-◌, ◌^◌, ◌≤◌, ◌<◌}
use mathlib.Core.Path.{◌≡◌, sym, ap, ap₂, ◌∙◌}
use native.Mathlib.Nat.{pow-succ'}
use native.Mathlib.Omega.{arith}
use lib.Pow.{pow_mono}
use Rattle.meaning.specs.Field.{Field}
use Rattle.bridge.proofs.Basics.Interpretation.{IsField}
use Rattle.bridge.proofs.Lists.Spread.{raise, raise-zero-power}
use Rattle.bridge.proofs.Lists.Reciprocals.{raise-add, raise-last, raise-reciprocal}
use Rattle.arith.specs.Inverse.{inverse}
use Rattle.arith.specs.declared.extension.ExtensionField.{ExtensionField}
use Rattle.arith.specs.extension.Extension.{extension_of}
use Rattle.arith.proofs.Inverse.{inverse-reciprocal}
use Rattle.arith.proofs.extension.Elements.{name, extension_of-is_field, extension_size, size_low}

pub record Raising (f : ExtensionField) (a x i : ℕ) : Type 0 where
  pub some : 1 ≤ i
  pub within : i ≤ f.degree
  pub raised : x ≡ raise (extension_of f) (2 ^ i - 2) a

module _ (f : ExtensionField) (a : ℕ) where
  abbrev F : Field
  F = extension_of f

  abbrev I : IsField F
  I = extension_of-is_field f

  pub raising_start : Raising f a 1 1
  raising_start =
      record {
        some = omega arith;
        within = omega (arith, (name f).least);
        raised = sym (raise-zero-power F a);
      }

  module _ {x i : ℕ} (r : Raising f a x i) where
    pub raising_more :
        {y x' : ℕ} → i < f.degree → y ≡ F.mul x a → x' ≡ F.mul y y → Raising f a x' (i + 1)
    raising_more {y} {x'} l e g =
        record {
          some = omega arith;
          within = omega arith;
          raised =
              g
              ∙ ap₂ F.mul next next
              ∙ raise-add I (suc (2 ^ i - 2)) (suc (2 ^ i - 2)) a
              ∙ ap (λ k. raise F k a) (omega (arith, large, pow-succ' 2 i, again));
        }
      where
        large : 2 ≤ 2 ^ i
        large = let h : 2 ^ 1 ≤ 2 ^ i = pow_mono r.some in h

        again : 2 ^ (i + 1) ≡ 2 ^ suc i
        again = let h : i + 1 ≡ suc i = omega arith in ap (λ k. 2 ^ k) h

        next : y ≡ raise F (suc (2 ^ i - 2)) a
        next = e ∙ ap (λ u. F.mul u a) r.raised ∙ raise-last I (2 ^ i - 2) a

    pub raising_end : f.degree ≤ i → x ≡ inverse F a
    raising_end l =
        let d : i ≡ f.degree = omega (arith, r.within) in
        let e : 2 ^ i ≡ F.size = ap (λ k. 2 ^ k) d ∙ sym (extension_size f) in
        let n : 2 < F.size = omega (arith, extension_size f, size_low f) in
        let s : x ≡ raise F (F.size - 2) a = r.raised ∙ ap (λ k. raise F (k - 2) a) e in
        s ∙ sym (inverse-reciprocal I a (raise F (F.size - 2) a) (raise-reciprocal I n a))
