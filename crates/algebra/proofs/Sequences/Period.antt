-- Powers of an irreducible polynomial in an ideal that contains x^N − 1; sequences with the period N.
--
--   Valuation p N w M    == N = p^w·M and p does not divide M: w is the p-adic valuation of N; for a prime p,
--                           N is not 0
--   numeral-unit         == in characteristic p, a number that p does not divide is invertible
--   unity-power          == (x^M − 1)^(p^w) = x^(p^w·M) − 1 in characteristic p
--   atom-power_lowers    == if t is squarefree, and t^n and some power of the atom f are in an ideal, f^n is
--   atom-divides-base    == if the ideal is not the whole ring, f divides t then
--   period-power         == in characteristic p, if x^N − 1 and some power of the atom f are in an ideal,
--                           f^(p^w) is, where w is the valuation of N
--   period-least         == so the least such power is at most p^w, and p^w ≤ N by `valuation-le`
--   period-divides       == if the ideal is not the whole ring, f divides x^M − 1
--   period-size          == so p^w times the degree of f is at most N
--   periodic-power, periodic-least, periodic-size
--                        == the same for a sequence with the period N, over a field, and an irreducible f
--   periodic-search      == of the powers of f, none annihilates the sequence, or there is a least one that
--                           does, at most p^w
--
-- Assumes nothing.
use mathlib.Core.Path.{◌≡◌, sym, ap, ap₂, subst, ◌∙◌}
use mathlib.Core.Logic.{◌⊎◌, inl, inr}
use Prim.Native.Nat.{ℕ, zero, suc, ◌*◌, ◌^◌, ◌∣◌, ◌≤◌, ◌<◌}
use native.Mathlib.Nat as ℕ
use native.Mathlib.Omega.{arith}
use Rattle.algebra.proofs.Numbers.Number.{Least, Prime, least-below}
use Rattle.algebra.proofs.Numbers.Number.{prime-inverse, prime-power-pos, split-power}
use Rattle.algebra.proofs.Rings.Ring.{Ring, Field}
use Rattle.algebra.proofs.Rings.Multiple.{numeral, numeral-mul, numeral-one}
use Rattle.algebra.proofs.Rings.Characteristic.{Characteristic, numeral-mod}
use Rattle.algebra.proofs.Rings.Power.{power, power-mul, power-power, power_of_one}
use Rattle.algebra.proofs.Rings.Ideal.{
  Ideal,
  Divides,
  Coprime,
  Atom,
  divides-mul,
  divides-powers,
  divides-refl,
  divides-member,
  one-member,
  coprime-member,
  coprime-power,
  coprime-whole,
  divides_trans,
  multiples-ideal,
}
use Rattle.algebra.proofs.Polynomials.Polynomial.{
  Polynomial,
  below_weaken,
  polynomials,
  coefficient,
  coefficient-one-zero,
  X,
  constant,
  constant-polynomial-hom,
}
use Rattle.algebra.proofs.Polynomials.Monic.{
  Monic,
  Nontrivial,
  monic-one,
  monic-x-power,
  monic-add-below,
  monic-degree,
  below-neg,
}
use Rattle.algebra.proofs.Polynomials.Division.{divisor-degree, x-divides, x-divides-constant}
use Rattle.algebra.proofs.Polynomials.Frobenius.{frobenius, polynomial_characteristic}
use Rattle.algebra.proofs.Polynomials.Derivative.{Squarefree, unity, unity_squarefree}
use Rattle.algebra.proofs.Polynomials.Irreducible.{Irreducible, irreducible-atom}
use Rattle.algebra.proofs.Sequences.Action.{Kills}
use Rattle.algebra.proofs.Sequences.Annihilator.{kills-ideal, kills-one, kills-decided}
use Rattle.algebra.proofs.Sequences.Cut.{Periodic, periodic-kills, coprime-unity}

pub record Valuation (p N w M : ℕ) : Type 0 where
  pub product : N ≡ p ^ w * M
  pub rest : ¬ (p ∣ M)

pub valuation : {p : ℕ} → Prime p → (N : ℕ) → 0 < N → (w M : ℕ) × Valuation p N w M
valuation {p} P N pos =
    let (w, M, e, h) = split-power p P.large N pos in (w, M, record { product = e; rest = h })

pub valuation-rest-pos : {p N w M : ℕ} → Valuation p N w M → 0 < M
valuation-rest-pos {p} {M = M} v = go M v.rest
  where
    go : (m : ℕ) → ¬ (p ∣ m) → 0 < m
    go zero h = absurd (h (ℕ.dvd-zero p))
    go (suc m) h = omega arith

pub valuation-le : {p N w M : ℕ} → Valuation p N w M → p ^ w ≤ N
valuation-le {p} {w = w} v =
    omega (arith, v.product, ℕ.le-mul_of_pos_right (p ^ w) (valuation-rest-pos v))

pub valuation-pos : {p N w M : ℕ} → Prime p → Valuation p N w M → 0 < N
valuation-pos {w = w} P v = omega (arith, prime-power-pos P w, valuation-le v)

-- In any ring with any ideal.
module _ {K : Type 0} (R : Ring K) {I : K → Type 0} (ideal : Ideal R I) {f : K} (atom : Atom R f) where
  open R use {1#, ◌⊗◌, mul_comm}
  open ideal use {multiple}

  infixl 70 ◌⊗◌
  powers-whole : {t : K} → Coprime R f t → (n e : ℕ) → I (power R t n) → I (power R f e) → I 1#
  powers-whole p n e a b = coprime-whole R ideal (coprime-power R p e n) b a

  -- t = q·f with q coprime to f.
  cofactor_lowers :
      {t : K} (d : Divides R f t)
      → Coprime R f d.quotient
      → (n e : ℕ)
      → I (power R t n)
      → I (power R f e)
      → I (power R f n)
  cofactor_lowers d p n e a b =
      coprime-member
      R
      ideal
      (coprime-power R p e n)
      (rw mul_comm (multiple (power R f n) b))
      (rw (← power-mul, ← d.equation) a)

  unit-whole : Divides R f 1# → (e : ℕ) → I (power R f e) → I 1#
  unit-whole d e b = divides-member R ideal (rw power_of_one at (divides-powers R e d)) b

  pub atom-power_lowers :
      {t : K} → Squarefree R t → (n e : ℕ) → I (power R t n) → I (power R f e) → I (power R f n)
  atom-power_lowers {t} free n e a b = elim (atom t) [
    | inr p ↦ one-member R ideal (power R f n) (powers-whole p n e a b)
    | inl d ↦ elim (atom d.quotient) [
      | inr p ↦ cofactor_lowers d p n e a b
      | inl c ↦
          let square : Divides R (f ⊗ f) t = rw d.equation (divides-mul R c (divides-refl R f)) in
          one-member R ideal (power R f n) (unit-whole (free f square) e b)
    ]
  ]

  pub atom-divides-base :
      ¬ I 1# → {t : K} (n e : ℕ) → I (power R t n) → I (power R f e) → Divides R f t
  atom-divides-base proper {t} n e a b = elim (atom t) [
    | inl d ↦ d
    | inr p ↦ absurd (proper (powers-whole p n e a b))
  ]

-- In a ring of characteristic p.
module _ {K : Type 0} {R : Ring K} {p : ℕ} (C : Characteristic R p) where
  open R use {1#, ◌⊕◌, ◌⊗◌, ⊖◌}

  infixl 60 ◌⊕◌
  infixl 70 ◌⊗◌
  infix 80 ⊖◌
  -- A number that p does not divide is invertible.
  pub numeral-unit : (n : ℕ) → ¬ (p ∣ n) → (c : K) × (numeral R n ⊗ c ≡ 1#)
  numeral-unit n h =
      let (x, e) = prime-inverse C.prime n h in (
        numeral R x,
        sym (numeral-mul R n x) ∙ sym (numeral-mod C (n * x)) ∙ ap (numeral R) e ∙ numeral-one R,
      )

  pub unity-power : (x : K) (w n : ℕ) → power R (unity R x n) (p ^ w) ≡ unity R x (p ^ w * n)
  unity-power x w n =
      (frobenius C w).add (power R x n) (⊖ 1#)
      ∙ ap₂
      ◌⊕◌
      (power-power R x n (p ^ w) ∙ ap (power R x) (ℕ.mul_comm n (p ^ w)))
      ((frobenius C w).neg 1# ∙ ap ⊖◌ (frobenius C w).one)

-- The polynomial x^n − 1.
module _ {K : Type 0} (R : Ring K) (D : Discrete K) where
  open R use {0#}
  open polynomials R D use {1# as 1ₚ}

  pub unity-monic : (n : ℕ) → 0 < n → Monic (unity (polynomials R D) (X R D) n) n
  unity-monic n pos =
      monic-add-below (monic-x-power n) (below-neg (below_weaken (monic-one R D).below pos))

  pub unity-divisor-constant-term :
      Nontrivial R
      → (n : ℕ)
      → 0 < n
      → {f : Polynomial R D}
      → Divides (polynomials R D) f (unity (polynomials R D) (X R D) n)
      → ¬ (coefficient f 0 ≡ 0#)
  unity-divisor-constant-term h n pos {f} d z =
      h (sym (coefficient-one-zero R D) ∙ x-divides-constant x-divides-one)
    where
      x-divides-one : Divides (polynomials R D) (X R D) 1ₚ
      x-divides-one =
          coprime-whole
          (polynomials R D)
          (multiples-ideal (polynomials R D) (X R D))
          (coprime-unity (polynomials R D) (X R D) n pos)
          (divides-refl (polynomials R D) (X R D))
          (divides_trans (polynomials R D) (x-divides f z) d)

-- Ideals of polynomials that contain x^N − 1.
module _
    {K : Type 0} {R : Ring K} {D : Discrete K} {I : Polynomial R D → Type 0}
    (ideal : Ideal (polynomials R D) I)
  where
    open R use {0#}
    open polynomials R D use {0# as 0ₚ, 1# as 1ₚ}

    proper_nontrivial : ¬ I 1ₚ → Nontrivial R
    proper_nontrivial proper e = proper (subst I (sym same) ideal.has_zero)
      where
        same : 1ₚ ≡ 0ₚ
        same =
            sym (constant-polynomial-hom R D).one
            ∙ ap (constant R D) e
            ∙ (constant-polynomial-hom R D).zero

    -- In characteristic p.
    module _
        {p N w M : ℕ} (C : Characteristic R p) (v : Valuation p N w M)
        (periodic : I (unity (polynomials R D) (X R D) N)) {f : Polynomial R D}
        (atom : Atom (polynomials R D) f)
      where
        base-power : I (power (polynomials R D) (unity (polynomials R D) (X R D) M) (p ^ w))
        base-power =
            subst
            I
            (
            ap (unity (polynomials R D) (X R D)) v.product
            ∙ sym (unity-power (polynomial_characteristic C D) (X R D) w M)
            )
            periodic

        base_squarefree : Squarefree (polynomials R D) (unity (polynomials R D) (X R D) M)
        base_squarefree = let (c, e) = numeral-unit C M v.rest in unity_squarefree R D M c e

        pub period-power :
            (e : ℕ) → I (power (polynomials R D) f e) → I (power (polynomials R D) f (p ^ w))
        period-power e b =
            atom-power_lowers (polynomials R D) ideal atom base_squarefree (p ^ w) e base-power b

        pub period-least : {r : ℕ} → Least (λ k. I (power (polynomials R D) f k)) r → r ≤ p ^ w
        period-least {r} least =
            let m = period-power r least.holds in
            let not-less : ¬ (p ^ w < r) = λ l. least.least (p ^ w) l m in
            omega arith

        pub period-divides :
            ¬ I 1ₚ
            → (e : ℕ)
            → I (power (polynomials R D) f e)
            → Divides (polynomials R D) f (unity (polynomials R D) (X R D) M)
        period-divides proper e b =
            atom-divides-base (polynomials R D) ideal atom proper (p ^ w) e base-power b

        pub period-degree :
            ¬ I 1ₚ → {n : ℕ} → Monic f n → (e : ℕ) → I (power (polynomials R D) f e) → n ≤ M
        period-degree proper {n} m e b =
            divisor-degree
            m
            (monic-degree (proper_nontrivial proper) (unity-monic R D M (valuation-rest-pos v)))
            (period-divides proper e b)

        pub period-size :
            ¬ I 1ₚ → {n : ℕ} → Monic f n → (e : ℕ) → I (power (polynomials R D) f e) → p ^ w * n ≤ N
        period-size proper {n} m e b =
            omega (arith, v.product, ℕ.mul-le-mul_left (p ^ w) (period-degree proper m e b))

-- Sequences of period N over a field, and an irreducible f of degree n.
module _
    {K : Type 0} {R : Ring K} {D : Discrete K} (F : Field R) {s : ℕ → K} {N : ℕ} (periodic : Periodic s N)
    {f : Polynomial R D} {n : ℕ} (irreducible : Irreducible f n)
  where
    open R use {0#}

    module _ {p w M : ℕ} (C : Characteristic R p) (v : Valuation p N w M) where
      periodic-unity : Kills s (unity (polynomials R D) (X R D) N)
      periodic-unity = (periodic-kills R D s N).0 periodic

      pub periodic-power :
          (e : ℕ) → Kills s (power (polynomials R D) f e) → Kills s (power (polynomials R D) f (p ^ w))
      periodic-power = period-power (kills-ideal s) C v periodic-unity (irreducible-atom F irreducible)

      pub periodic-least : {r : ℕ} → Least (λ k. Kills s (power (polynomials R D) f k)) r → r ≤ p ^ w
      periodic-least = period-least (kills-ideal s) C v periodic-unity (irreducible-atom F irreducible)

      pub periodic-size :
          ¬ ((i : ℕ) → s i ≡ 0#) → (e : ℕ) → Kills s (power (polynomials R D) f e) → p ^ w * n ≤ N
      periodic-size nonzero =
          period-size
          (kills-ideal s)
          C
          v
          periodic-unity
          (irreducible-atom F irreducible)
          (λ z. nonzero ((kills-one s).0 z))
          irreducible.monic

      -- The least power that annihilates s, if any does.
      pub periodic-search :
          ((r : ℕ) × (r ≤ p ^ w) × Least (λ k. Kills s (power (polynomials R D) f k)) r)
          ⊎ ((e : ℕ) → ¬ Kills s (power (polynomials R D) f e))
      periodic-search = go (decided (p ^ w))
        where
          decided : (k : ℕ) → Dec (Kills s (power (polynomials R D) f k))
          decided k =
              kills-decided
              (unity-monic R D N (valuation-pos C.prime v))
              periodic-unity
              (power (polynomials R D) f k)

          go :
              Dec (Kills s (power (polynomials R D) f (p ^ w)))
              → ((r : ℕ) × (r ≤ p ^ w) × Least (λ k. Kills s (power (polynomials R D) f k)) r)
              ⊎ ((e : ℕ) → ¬ Kills s (power (polynomials R D) f e))
          go (yes z) = inl (least-below decided (p ^ w) z)
          go (no h) = inr (λ e z. h (periodic-power e z))
