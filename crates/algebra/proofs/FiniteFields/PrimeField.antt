-- The numbers below p: a ring for every p > 0, a field for every prime p.
--
--   Residue p          == the numbers below p, each with the proof that it is; `x.0` is the number
--   residue p pos n    == the remainder of n modulo p > 0, as a number below p
--   residue_ring p pos  == the ring of the numbers below p > 0, with sums and products modulo p
--   prime_ring P        == the same for a prime p, P the proof that it is prime
--   prime_field P       == prime_ring P is a field
--   residue-numeral    == the remainder of n is the n-fold sum of 1
--   elements p         == the list of all numbers below p, each once, the greatest first
--
-- Assumes nothing.
use Prim.Native.Nat.{ℕ, zero, suc, ◌+◌, ◌-◌, ◌*◌, ◌%◌, ◌≤◌, ◌<◌, ◌∣◌, Fin, suc-le-suc}
use mathlib.Core.Path.{◌≡◌, refl, sym, ap, ◌∙◌, fst_path}
use mathlib.Core.HLevel.{hedberg, ⊥_prop}
use mathlib.Core.Logic.{inl, inr, ∥∥₁_elim}
use mathlib.Core.List.Memᴰ
use mathlib.Core.List.Pairwise
use mathlib.Core.List.{
  List,
  [],
  ◌∷◌,
  Memᴰ,
  Nodup,
}
use native.Mathlib.Nat.{
  add_assoc,
  add_comm,
  add-zero,
  mul_assoc,
  mul_comm,
  mul-one,
  mul-add,
  mod-lt,
  mod-eq_of_lt,
  mod-add-mod,
  add-mod-mod,
  mod_self,
  add-sub_of_le,
  le_of_lt,
  zero-mod,
  add-mod,
  le_of_suc-le,
  pos_of_ne-zero,
  le_refl,
  eq-or-lt_of_le,
  le_of_suc-le-suc,
  le_step,
  le_of_eq,
  ne_of_gt,
}
use native.Mathlib.Decide.{Fin-discrete}
use native.Mathlib.Numerals.{add-one}
use native.Mathlib.Omega.{arith}
use lib.ListN.{length}
use Rattle.algebra.proofs.Rings.Ring.{Ring, Field}
use Rattle.algebra.proofs.Rings.Multiple.{numeral, numeral-zero, numeral-suc}
use Rattle.algebra.proofs.Rings.Characteristic.{Characteristic}
use Rattle.algebra.proofs.Numbers.Number.{
  Prime,
  prime-pos,
  prime-inverse,
  mul-mod,
  mul-mod-mod,
  mod-mul-mod,
  one-mod-prime,
  not-divides-below,
}

abbrev pub Residue : ℕ → Type 0
Residue p = Fin p

pub residue_path : {p : ℕ} {a b : Residue p} → a.0 ≡ b.0 → a ≡ b
residue_path e = native.Mathlib.Fin.val_path e

module _ (p : ℕ) (pos : 0 < p) where
  unfoldable pub residue : ℕ → Residue p
  residue n = (n % p, mod-lt n pos)

  unfoldable pub residue_ring : Ring (Residue p)
  unfolding residue
  residue_ring =
      record {
        is_set = hedberg (Fin-discrete p);
        0# = residue 0;
        1# = residue 1;
        ◌⊕◌ = λ a b. residue (a.0 + b.0);
        ◌⊗◌ = λ a b. residue (a.0 * b.0);
        ⊖◌ = λ a. residue (p - a.0);
        add_assoc = λ a b c. residue_path (simp (mod-add-mod, add-mod-mod, add_assoc));
        add_comm = λ a b. ap residue (add_comm a.0 b.0);
        add-zero = λ a. residue_path (simp (add-mod-mod, add-zero) (mod-eq_of_lt a.1));
        add_neg = λ a. residue_path (simp (add-mod-mod, add-sub_of_le (le_of_lt a.1), mod_self, zero-mod));
        mul_assoc = λ a b c. residue_path (simp (mod-mul-mod, mul-mod-mod, mul_assoc));
        mul_comm = λ a b. ap residue (mul_comm a.0 b.0);
        mul-one = λ a. residue_path (simp (mul-mod-mod, mul-one) (mod-eq_of_lt a.1));
        mul-add = λ a b c. residue_path (simp (mul-mod-mod, mul-add, mod-add-mod, add-mod-mod));
      }

  open residue_ring use {0#, 1#, ◌⊕◌, ◌⊗◌, ⊖◌}

  infixl 60 ◌⊕◌
  infixl 70 ◌⊗◌
  infix 80 ⊖◌
  -- The number that stands in a result
  pub value-residue : (n : ℕ) → (residue n).0 ≡ n % p
  unfolding residue
  value-residue n = refl

  pub value-zero : 0#.0 ≡ 0
  unfolding residue_ring residue
  value-zero = zero-mod p

  -- The map from the numbers onto the numbers below p carries 0, 1, sums and products
  pub residue-value : (a : Residue p) → residue a.0 ≡ a
  unfolding residue
  residue-value a = residue_path (mod-eq_of_lt a.1)

  pub residue-zero : residue 0 ≡ 0#
  unfolding residue_ring
  residue-zero = refl

  pub residue-one : residue 1 ≡ 1#
  unfolding residue_ring
  residue-one = refl

  pub residue-add : (m n : ℕ) → residue (m + n) ≡ residue m ⊕ residue n
  unfolding residue_ring residue
  residue-add m n = residue_path (add-mod m n p)

  pub residue-mul : (m n : ℕ) → residue (m * n) ≡ residue m ⊗ residue n
  unfolding residue_ring residue
  residue-mul m n = residue_path (mul-mod m n p)

  pub residue-same : (m n : ℕ) → m % p ≡ n % p → residue m ≡ residue n
  unfolding residue
  residue-same m n e = residue_path e

  pub residue-numeral : (n : ℕ) → residue n ≡ numeral residue_ring n
  residue-numeral zero = residue-zero ∙ sym (numeral-zero residue_ring)
  residue-numeral (suc n) =
      rw (numeral-suc residue_ring n, ← residue-numeral n, ← residue-one, ← residue-add, add-one)

abbrev pub prime_ring : {p : ℕ} → Prime p → Ring (Residue p)
prime_ring {p} P = residue_ring p (prime-pos P)

module _ {p : ℕ} (P : Prime p) where
  open prime_ring P use {0#, 1#, ◌⊗◌}

  infixl 70 ◌⊗◌
  nonzero-value : (a : Residue p) → ¬ (a ≡ 0#) → ¬ (p ∣ a.0)
  nonzero-value a h =
      not-divides-below (pos_of_ne-zero (λ e. h (residue_path (e ∙ sym (value-zero p (prime-pos P)))))) a.1

  pub value-one : 1#.0 ≡ 1
  unfolding residue_ring residue
  value-one = one-mod-prime P

  inverse-decided : (a : Residue p) → Dec (a ≡ 0#) → Residue p
  inverse-decided a (yes e) = a
  inverse-decided a (no h) = residue p (prime-pos P) (prime-inverse P a.0 (nonzero-value a h)).0

  mul-inverse-decided : (a : Residue p) (d : Dec (a ≡ 0#)) → ¬ (a ≡ 0#) → a ⊗ inverse-decided a d ≡ 1#
  unfolding residue_ring residue inverse-decided
  mul-inverse-decided a (yes e) h = absurd (h e)
  mul-inverse-decided a (no k) h =
      let f = prime-inverse P a.0 (nonzero-value a k) in
      residue_path (simp mul-mod-mod (f.1 ∙ sym (one-mod-prime P)))

  one_is_not_zero : ¬ (1# ≡ 0#)
  unfolding residue_ring residue
  one_is_not_zero e = omega (arith, one-mod-prime P, zero-mod p, fst_path e)

  pub prime_characteristic : Characteristic (prime_ring P) p
  prime_characteristic = record { prime = P; vanishes = sym (residue-numeral p s p) ∙ wraps }
    where
      s : 0 < p
      s = prime-pos P

      wraps : residue p s p ≡ 0#
      wraps = residue-same p s p 0 (mod_self p ∙ sym (zero-mod p)) ∙ residue-zero p s

  pub prime_field : Field (prime_ring P)
  prime_field =
      record {
        discrete = Fin-discrete p;
        inverse = λ a. inverse-decided a (Fin-discrete p a 0#);
        one_nonzero = one_is_not_zero;
        mul_inverse = λ a h. mul-inverse-decided a (Fin-discrete p a 0#) h;
      }

-- All numbers below p: those below k, for k at most p
first : {p : ℕ} (k : ℕ) → k ≤ p → List (Residue p)
first zero l = []
first (suc k) l = (k, l) ∷ first k (le_of_suc-le l)

module _ {p : ℕ} where
  first-length : (k : ℕ) (l : k ≤ p) → length (first k l) ≡ k
  unfolding first
  first-length zero l = refl
  first-length (suc k) l = ap suc (first-length k (le_of_suc-le l))

  first_complete : (k : ℕ) (l : k ≤ p) (a : Residue p) → a.0 < k → Memᴰ a (first k l)
  unfolding first
  first_complete zero l a c = absurd (omega arith)
  first_complete (suc k) l a c = elim (eq-or-lt_of_le (le_of_suc-le-suc c)) [
    | inl e ↦ Memᴰ.head (residue_path e)
    | inr d ↦ Memᴰ.tail (first_complete k (le_of_suc-le l) a d)
  ]

  first_sound : (k : ℕ) (l : k ≤ p) (a : Residue p) → Memᴰ a (first k l) → a.0 < k
  unfolding first
  first_sound zero l a m = absurd (Memᴰ.not-nil m)
  first_sound (suc k) l a m = elim (Memᴰ.cases_cons m) [
    | inl e ↦ suc-le-suc (le_of_eq (fst_path e))
    | inr n ↦ le_step (first_sound k (le_of_suc-le l) a n)
  ]

  first-once : (k : ℕ) (l : k ≤ p) → Nodup (first k l)
  unfolding first
  first-once zero l = Pairwise.nil
  first-once (suc k) l =
      Pairwise.cons
      (λ a m e. ∥∥₁_elim m ⊥_prop (λ n. ne_of_gt (first_sound k (le_of_suc-le l) a n) (fst_path e)))
      (first-once k (le_of_suc-le l))

pub elements : (p : ℕ) → List (Residue p)
elements p = first p (le_refl p)

pub elements-length : (p : ℕ) → length (elements p) ≡ p
unfolding elements
elements-length p = first-length p (le_refl p)

pub elements_complete : {p : ℕ} (a : Residue p) → Memᴰ a (elements p)
unfolding elements
elements_complete {p} a = first_complete p (le_refl p) a a.1

pub elements-once : (p : ℕ) → Nodup (elements p)
unfolding elements
elements-once p = first-once p (le_refl p)
