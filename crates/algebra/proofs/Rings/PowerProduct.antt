-- Products of powers of coprime elements, and the ideals that they generate.
--
--   power-product R fs e
--                   == the product of the members of fs, the member at i to the power e i; 1# for no member
--   update e i k    == the exponents e with the one at i replaced by k
--   CoprimeAtoms R fs
--                   == the members of fs are atoms, any two at different places coprime
--   LeastPowers R I fs u r
--                   == the product with the upper powers u is in I, and at each place i, r i is the least
--                      power of that member that is in I when the other members have their upper powers
--   least-power-divides
--                   == f an atom, and r the least number for which f^r·o is in I: f^r divides all of I
--   power-generator == if f^r is the least power of an atom f in the ideal I, it generates I
--   least-powers_generate
--                   == the product of the least powers of coprime atoms generates I: it is in I, and it
--                      divides all of I
--   power-divides-product, powers-product-divides
--                   == each power divides the product; what each power of coprime atoms divides, the product
--                      divides
--
-- Assumes nothing.
use mathlib.Core.Path.{◌≡◌, refl}
use mathlib.Core.List.{List, [], ◌∷◌}
use mathlib.Core.Logic.{inl, inr}
use Prim.Native.Nat.{ℕ, zero, suc, ◌≤◌, ◌<◌, suc-le-suc}
use lib.ListN.{length, get_or}
use native.Mathlib.Nat.{le_refl, le_of_suc-le-suc, not-suc-le-zero}
use native.Mathlib.Omega.{arith}
use Rattle.algebra.proofs.Numbers.Number.{Least}
use Rattle.algebra.proofs.Rings.Ring.{Ring, mul_left_comm}
use Rattle.algebra.proofs.Rings.Power.{power, power_zero, power-suc-left}
use Rattle.algebra.proofs.Rings.Ideal.{Ideal, Divides, Coprime, Atom, Generator, one-divides}
use Rattle.algebra.proofs.Rings.Ideal.{divides-refl, divides-mul, divides-product, divides-multiple}
use Rattle.algebra.proofs.Rings.Ideal.{divides_trans, quotient-ideal, coprime-member, coprime-one}
use Rattle.algebra.proofs.Rings.Ideal.{coprime_sym, coprime-mul, coprime-power-right, coprime-power}
use Rattle.algebra.proofs.Rings.Ideal.{coprime-product-divides}

unfoldable pub update : (ℕ → ℕ) → ℕ → ℕ → ℕ → ℕ
update e zero k zero = k
update e zero k (suc j) = e (suc j)
update e (suc i) k zero = e zero
update e (suc i) k (suc j) = update (λ j. e (suc j)) i k j

module _ {K : Type 0} (R : Ring K) where
  open R use {0#, 1#, ◌⊗◌, mul_assoc, mul_comm, mul-one}

  infixl 70 ◌⊗◌
  unfoldable pub power-product : List K → (ℕ → ℕ) → K
  power-product [] e = 1#
  power-product (f ∷ fs) e = power R f (e 0) ⊗ power-product fs (λ i. e (suc i))

  pub power-product-nil : (e : ℕ → ℕ) → power-product [] e ≡ 1#
  unfolding power-product
  power-product-nil e = refl

  pub power-product-cons : (f : K) (fs : List K) (e : ℕ → ℕ)
      → power-product (f ∷ fs) e ≡ power R f (e 0) ⊗ power-product fs (λ i. e (suc i))
  unfolding power-product
  power-product-cons f fs e = refl

  pub record CoprimeAtoms (fs : List K) : Type 0 where
    pub atom : (i : ℕ) → i < length fs → Atom R (get_or fs i 0#)
    pub coprime : (i j : ℕ) → i < j → j < length fs → Coprime R (get_or fs i 0#) (get_or fs j 0#)

  pub record LeastPowers (I : K → Type 0) (fs : List K) (u r : ℕ → ℕ) : Type 0 where
    pub upper : I (power-product fs u)
    pub least : (i : ℕ) → i < length fs → Least (λ k. I (power-product fs (update u i k))) (r i)

  pub power-coprime-product : {a : K} (m : ℕ) (fs : List K) (e : ℕ → ℕ)
      → ((i : ℕ) → i < length fs → Coprime R a (get_or fs i 0#)) → Coprime R (power R a m)
      (power-product fs e)
  unfolding power-product
  power-coprime-product m [] e p = coprime-one R _
  power-coprime-product m (f ∷ fs) e p = coprime-mul R
      (coprime-power R (p 0 (omega arith)) m (e 0))
      (power-coprime-product m fs (λ i. e (suc i)) (λ i h. p (suc i) (suc-le-suc h)))

  module _ {I : K → Type 0} (ideal : Ideal R I) where
    open ideal use {multiple}

    -- An atom to its least power, when o stands beside it, divides all of the ideal
    module _ {f o h : K} {r : ℕ}
        (atom : Atom R f) (least : Least (λ k. I (power R f k ⊗ o)) r) (m : I h) where
      coprime_lowers : (k : ℕ) (d : Divides R (power R f k) h)
          → Coprime R f d.quotient → I (power R f k ⊗ o)
      coprime_lowers k d p = coprime-member R ideal
          (coprime_sym R (coprime-power-right R (coprime_sym R p) r))
          (rw mul_left_comm (multiple _ least.holds))
          (rw (← mul_assoc, ← d.equation, mul_comm) (multiple o m))

      next : (k : ℕ) → k < r → Divides R (power R f k) h → Divides R (power R f (suc k)) h
      next k l d = elim (atom d.quotient) [
        | inl e ↦ rw (d.equation, power-suc-left) (divides-mul R e (divides-refl R (power R f k)))
        | inr p ↦ absurd (least.least k l (coprime_lowers k d p))
      ]

      powers-divide : (k : ℕ) → k ≤ r → Divides R (power R f k) h
      powers-divide zero l = rw power_zero (one-divides R h)
      powers-divide (suc k) l = next k l (powers-divide k (omega arith))

      pub least-power-divides : Divides R (power R f r) h
      least-power-divides = powers-divide r (le_refl r)

    pub power-generator : {f : K} {r : ℕ}
        → Atom R f → Least (λ k. I (power R f k)) r → Generator R I (power R f r)
    power-generator atom least = record {
      member = least.holds;
      divides = λ h. least-power-divides {o = 1#} atom (simp mul-one least);
    }

    -- One more factor: a is its upper power, o and g are the products of the others' upper and least powers
    generator-more : {f a o g : K} {r : ℕ} → Atom R f → Coprime R a o → Coprime R (power R f r) g
        → Least (λ k. I (power R f k ⊗ o)) r → Generator R (λ c. I (a ⊗ c)) g
        → Generator R I (power R f r ⊗ g)
    generator-more {o = o} {g} atom p q least others = record {
      member = coprime-member R ideal p
          (rw mul_left_comm (multiple _ others.member))
          (rw (mul_left_comm R o, mul_comm o g, mul_left_comm R _ g o) (multiple g least.holds));
      divides = λ h m. coprime-product-divides R q
          (least-power-divides atom least m)
          (others.divides h (multiple _ m));
    }

  coprime-atoms-rest : {f : K} {fs : List K} → CoprimeAtoms (f ∷ fs) → CoprimeAtoms fs
  coprime-atoms-rest atoms = record {
    atom = λ i l. atoms.atom (suc i) (suc-le-suc l);
    coprime = λ i j k l. atoms.coprime (suc i) (suc j) (suc-le-suc k) (suc-le-suc l);
  }

  least-powers-rest : {I : K → Type 0} {f : K} {fs : List K} {u r : ℕ → ℕ} → LeastPowers I (f ∷ fs) u r
      → LeastPowers (λ c. I (power R f (u 0) ⊗ c)) fs (λ i. u (suc i)) (λ i. r (suc i))
  unfolding power-product update
  least-powers-rest powers = record {
    upper = powers.upper;
    least = λ i l. powers.least (suc i) (suc-le-suc l);
  }

  first-coprime : {f : K} {fs : List K} → CoprimeAtoms (f ∷ fs)
      → (m : ℕ) (e : ℕ → ℕ) → Coprime R (power R f m) (power-product fs e)
  first-coprime {fs = fs} atoms m e =
      power-coprime-product m fs e (λ i l. atoms.coprime 0 (suc i) (omega arith) (suc-le-suc l))

  pub least-powers_generate : {I : K → Type 0} (ideal : Ideal R I) {fs : List K} {u r : ℕ → ℕ}
      → CoprimeAtoms fs → LeastPowers I fs u r → Generator R I (power-product fs r)
  unfolding power-product update
  least-powers_generate ideal {fs = []} atoms powers = record {
    member = powers.upper;
    divides = λ h _. one-divides R h;
  }
  least-powers_generate {I} ideal {fs = f ∷ fs} {u} {r} atoms powers =
      let others = quotient-ideal R ideal (power R f (u 0)) in
      generator-more ideal (atoms.atom 0 (omega arith))
      (first-coprime atoms (u 0) _)
      (first-coprime atoms (r 0) _)
      (powers.least 0 (omega arith))
      (least-powers_generate {I = λ c. I (power R f (u 0) ⊗ c)} others {fs = fs}
      (coprime-atoms-rest atoms) (least-powers-rest powers))

  -- What the product divides, and what divides it
  pub power-divides-product : (fs : List K) (e : ℕ → ℕ) (i : ℕ)
      → i < length fs → Divides R (power R (get_or fs i 0#) (e i)) (power-product fs e)
  unfolding power-product
  power-divides-product [] e i l = absurd (not-suc-le-zero l)
  power-divides-product (f ∷ fs) e zero l = divides-product R (power R f (e 0)) _
  power-divides-product (f ∷ fs) e (suc i) l = divides_trans R
      (power-divides-product fs (λ j. e (suc j)) i (le_of_suc-le-suc l))
      (divides-multiple R (power R f (e 0)) _)

  pub powers-product-divides : (fs : List K) (e : ℕ → ℕ) {h : K} → CoprimeAtoms fs
      → ((i : ℕ) → i < length fs → Divides R (power R (get_or fs i 0#) (e i)) h)
      → Divides R (power-product fs e) h
  unfolding power-product
  powers-product-divides [] e atoms d = one-divides R _
  powers-product-divides (f ∷ fs) e atoms d = coprime-product-divides R
      (first-coprime atoms (e 0) _)
      (d 0 (omega arith))
      (powers-product-divides fs (λ i. e (suc i)) (coprime-atoms-rest atoms)
      (λ i l. d (suc i) (suc-le-suc l)))
