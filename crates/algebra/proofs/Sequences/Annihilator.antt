-- Annihilators of a sequence and the minimal polynomial.
--
--   kills-ideal s      == the polynomials that annihilate the sequence s form an ideal
--   kills-act          == h annihilates the sequence that g makes of s exactly where h·g annihilates s
--   kills-part         == Lemma 5 of document 001: if h·g annihilates s, h and g monic of degrees e and a,
--                         and the action of g on a sequence with the same first e + a terms is 0 at its
--                         first e places, then g annihilates s
--   kills-decided      == where a monic polynomial annihilates s, it is decided whether a given one does
--   Minimal s g n      == g is the minimal polynomial of s: monic of degree n, annihilates s, and no monic
--                         polynomial that annihilates s has a smaller degree; 1 for the zero sequence
--   minimal-divides    == over a field, it divides every polynomial that annihilates s
--   minimal-unique     == over a field, there is at most one
--   generator-minimal  == a monic generator of the ideal is minimal
--   minimal-generator  == over a field, the minimal polynomial generates the ideal
--   minimal_larger     == over a field, every other monic polynomial that annihilates s has a larger degree
--
-- Assumes nothing.
use mathlib.Core.Path.{◌≡◌, sym, ap₂, subst⁻¹, ◌∙◌}
use mathlib.Core.Logic.{◌⊎◌, inl, inr, ◌↔◌}
use Prim.Native.Nat.{ℕ, ◌+◌, ◌≤◌, ◌<◌, zero-le}
use native.Mathlib.Nat as ℕ
use native.Mathlib.Omega.{arith}
use Rattle.algebra.proofs.Rings.Ring.{Ring, Field, sub-unique}
use Rattle.algebra.proofs.Rings.Ideal.{Ideal, Divides, Generator, sub-member}
use Rattle.algebra.proofs.Polynomials.Polynomial.{Polynomial, Below, polynomials, constant}
use Rattle.algebra.proofs.Polynomials.Monic.{
  Monic,
  Degree,
  Nontrivial,
  leading-term,
  degree-below,
  monic-degree,
  monic-one,
  monic-scale,
}
use Rattle.algebra.proofs.Polynomials.Division.{
  Division,
  divide,
  division_divides,
  divisor-degree,
  divisor-same-degree,
  divisors_equal,
}
use Rattle.algebra.proofs.Sequences.Action.{
  act,
  act-zero,
  act-one,
  act-add,
  act-mul,
  act_comm,
  act-vanishes,
  Agree,
  agree_decided,
  act_agree,
  Kills,
}
use Rattle.algebra.proofs.Sequences.Continuation.{monic-zero}

module _ {K : Type 0} {R : Ring K} {D : Discrete K} where
  open R use {0#, ◌⊕◌, add-zero}
  open polynomials R D use {1# as 1ₚ, ◌⊗◌ as ◌⊠◌}

  infixl 60 ◌⊕◌
  infixl 70 ◌⊠◌
  pub kills-act : (s : ℕ → K) (g h : Polynomial R D) → Kills s (h ⊠ g) ↔ Kills (act g s) h
  kills-act s g h = (
    λ z. record { vanishes = λ k. sym (act-mul h g s k) ∙ z.vanishes k },
    λ z. record { vanishes = λ k. act-mul h g s k ∙ z.vanishes k },
  )

  pub kills-ideal : (s : ℕ → K) → Ideal (polynomials R D) (Kills s)
  kills-ideal s =
      record {
        has_zero = record { vanishes = act-zero R D s };
        sum =
            λ {a} {b} y z.
            record {
              vanishes = λ k. act-add a b s k ∙ ap₂ ◌⊕◌ (y.vanishes k) (z.vanishes k) ∙ add-zero 0#;
            };
        multiple =
            λ q {a} z. record { vanishes = λ k. act-mul q a s k ∙ act-vanishes q z.vanishes k };
      }

  -- 1 annihilates the zero sequence alone.
  pub kills-one : (s : ℕ → K) → Kills s 1ₚ ↔ ((i : ℕ) → s i ≡ 0#)
  kills-one s = (
    λ z i. sym (act-one R D s i) ∙ z.vanishes i,
    λ h. record { vanishes = λ k. act-one R D s k ∙ h k },
  )

  -- Lemma 5 of document 001, and its converse.
  pub kills-part :
      {g h : Polynomial R D} {a e : ℕ} {s t : ℕ → K}
      → Monic g a
      → Monic h e
      → Kills s (h ⊠ g)
      → Agree (e + a) s t
      → Agree e (act g t) (λ _. 0#)
      → Kills s g
  kills-part {g} {h} {s = s} m n z c v =
      record {
        vanishes =
            monic-zero n ((kills-act s g h).0 z) (λ k l. act_agree m.below c k l ∙ v k l);
      }

  -- Decided where some monic polynomial annihilates s.
  pub kills-decided :
      {f : Polynomial R D} {d : ℕ} {s : ℕ → K}
      → Monic f d
      → Kills s f
      → (g : Polynomial R D)
      → Dec (Kills s g)
  kills-decided {f} {d} {s} m z g = go (agree_decided D d (act g s) (λ _. 0#))
    where
      kept : Kills (act g s) f
      kept = record { vanishes = λ k. act_comm f g s k ∙ act-vanishes g z.vanishes k }

      go : Dec (Agree d (act g s) (λ _. 0#)) → Dec (Kills s g)
      go (yes h) = yes (record { vanishes = monic-zero m kept h })
      go (no h) = no (λ y. h (λ i _. y.vanishes i))

-- The minimal polynomial.
pub record Minimal {K : Type 0} {R : Ring K} {D : Discrete K} (s : ℕ → K) (g : Polynomial R D) (n : ℕ)
    : Type 0 where
  pub monic : Monic g n
  pub kills : Kills s g
  pub least : (h : Polynomial R D) (m : ℕ) → Monic h m → Kills s h → n ≤ m

module _ {K : Type 0} (R : Ring K) (D : Discrete K) where
  open R use {0#}
  open polynomials R D use {1# as 1ₚ}

  pub minimal-one : {s : ℕ → K} → ((i : ℕ) → s i ≡ 0#) → Minimal s 1ₚ 0
  minimal-one {s} h =
      record { monic = monic-one R D; kills = (kills-one s).1 h; least = λ g m a z. zero-le }

module _ {K : Type 0} {R : Ring K} {D : Discrete K} (nontrivial : Nontrivial R) where
  pub generator-minimal :
      {s : ℕ → K} {g : Polynomial R D} {n : ℕ}
      → Monic g n
      → Generator (polynomials R D) (Kills s) g
      → Minimal s g n
  generator-minimal m x =
      record {
        monic = m;
        kills = x.member;
        least = λ h k a z. divisor-degree m (monic-degree nontrivial a) (x.divides h z);
      }

  pub generator_larger :
      {s : ℕ → K} {g h : Polynomial R D} {n m : ℕ}
      → Monic g n
      → Generator (polynomials R D) (Kills s) g
      → Monic h m
      → Kills s h
      → ¬ (h ≡ g)
      → n < m
  generator_larger {g = g} {h} {n} {m} a x b z d =
      go (ℕ.eq-or-lt_of_le ((generator-minimal a x).least h m b z))
    where
      go : (n ≡ m) ⊎ (n < m) → n < m
      go (inl e) = absurd (d (divisor-same-degree nontrivial (rw e at a) b (x.divides h z)))
      go (inr l) = l

-- Over a field.
module _ {K : Type 0} {R : Ring K} {D : Discrete K} (F : Field R) where
  open polynomials R D use {0# as 0ₚ}

  -- No polynomial below its degree other than 0 annihilates s.
  pub minimal-below :
      {s : ℕ → K} {g r : Polynomial R D} {n : ℕ} → Minimal s g n → Below r n → Kills s r → r ≡ 0ₚ
  minimal-below {s} {g} {r} {n} x b z = go (leading-term r)
    where
      go : (r ≡ 0ₚ) ⊎ ((k : ℕ) × Degree r k) → r ≡ 0ₚ
      go (inl e) = e
      go (inr (k, d)) =
          let l : n ≤ k = x.least _ k (monic-scale F d) ((kills-ideal s).multiple (constant R D _) z) in
          absurd (omega (arith, degree-below d b))

  pub minimal-divides :
      {s : ℕ → K} {g : Polynomial R D} {n : ℕ}
      → Minimal s g n
      → (h : Polynomial R D)
      → Kills s h
      → Divides (polynomials R D) g h
  minimal-divides {s} {g} {n} x h z =
      let d : Division g h n = divide x.monic h in
      division_divides
      d
      (
      minimal-below
      x
      d.small
      (
      subst⁻¹
      (Kills s)
      (sub-unique (polynomials R D) ((polynomials R D).add_comm _ _ ∙ sym d.equation))
      (sub-member (polynomials R D) (kills-ideal s) z ((kills-ideal s).multiple d.quotient x.kills))
      )
      )

  pub minimal-generator :
      {s : ℕ → K} {g : Polynomial R D} {n : ℕ} → Minimal s g n → Generator (polynomials R D) (Kills s) g
  minimal-generator x = record { member = x.kills; divides = minimal-divides x }

  pub minimal-unique :
      {s : ℕ → K} {g h : Polynomial R D} {n m : ℕ} → Minimal s g n → Minimal s h m → g ≡ h
  minimal-unique {g = g} {h} x y =
      divisors_equal
      F.one_nonzero
      y.monic
      x.monic
      (minimal-divides y g x.kills)
      (minimal-divides x h y.kills)

  pub minimal_larger :
      {s : ℕ → K} {g h : Polynomial R D} {n m : ℕ}
      → Minimal s g n
      → Monic h m
      → Kills s h
      → ¬ (h ≡ g)
      → n < m
  minimal_larger x = generator_larger F.one_nonzero x.monic (minimal-generator x)
