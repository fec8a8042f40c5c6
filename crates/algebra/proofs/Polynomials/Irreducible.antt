-- Irreducible polynomials.
--
--   Reducible f         == two monic polynomials of positive degree have f as their product, with those two
--   Irreducible f n     == f is monic of degree n, n is positive, and no two monic polynomials of positive
--                          degree have f as their product; 1 is not irreducible
--   factor_reducible    == a monic divisor of positive degree below that of f makes f reducible
--   reducible_factor    == a reducible polynomial has a monic divisor of positive degree, at most half its
--                          own
--   irreducible-half    == irreducible: no monic g of degree a, 0 < a and 2·a ≤ n, divides f
--   irreducible-divisor == a monic divisor of positive degree of an irreducible polynomial is that polynomial
--   irreducibles-equal  == an irreducible polynomial that divides another one is that one
--   irreducible-degrees == over a field the two polynomials need not be monic
--   irreducible-atom    == over a field, an irreducible polynomial is an atom: each h is a multiple of it or
--                          coprime to it
--   irreducible-product == if an irreducible polynomial divides a product, it divides a factor
--   irreducibles-coprime
--                       == different irreducible polynomials are coprime
--   irreducibles-atoms  == so different irreducible polynomials are coprime atoms, as PowerProduct wants them
--   irreducible_linear  == each monic polynomial of degree 1 is irreducible
--   irreducible-constant-term
--                       == an irreducible polynomial other than x has a constant term other than 0
--
-- Assumes nothing.
use mathlib.Core.Path.{◌≡◌, sym, subst}
use mathlib.Core.Logic.{◌⊎◌, inl, inr, ◌↔◌}
use mathlib.Core.List.{List}
use lib.ListN.{length, get_or}
use Prim.Native.Nat.{ℕ, ◌+◌, ◌*◌, ◌≤◌, ◌<◌}
use native.Mathlib.Nat as ℕ
use native.Mathlib.Decide.{dec_le, dec_lt}
use native.Mathlib.Omega.{arith}
use Rattle.algebra.proofs.Rings.Ring.{Ring, Field}
use Rattle.algebra.proofs.Rings.Ideal.{Divides, Coprime, Atom, divides-multiple, divides-product}
use Rattle.algebra.proofs.Rings.Ideal.{divides_trans, atom-product}
use Rattle.algebra.proofs.Rings.PowerProduct.{CoprimeAtoms}
use Rattle.algebra.proofs.Polynomials.Polynomial.{Polynomial, polynomials, coefficient, scale, X}
use Rattle.algebra.proofs.Polynomials.Monic.{
  Degree,
  Monic,
  Nontrivial,
  degree-unique,
  degree-mul,
  monic-degree,
  monic-unique,
  monic-nonzero,
  monic-mul,
  monic-scale,
  monic-x,
}
use Rattle.algebra.proofs.Polynomials.Division.{
  monic-divisor,
  divisor-same-degree,
  divisor-degree,
  monic-scale-divides,
  x-divides,
}
use Rattle.algebra.proofs.Polynomials.Divisor.{Factor, coprime-or_common}

module _ {K : Type 0} {R : Ring K} {D : Discrete K} where
  open polynomials R D use {◌⊗◌ as ◌⊠◌}

  infixl 70 ◌⊠◌
  pub record Reducible (f : Polynomial R D) : Type 0 where
    pub left : Polynomial R D
    pub right : Polynomial R D
    pub left-degree : ℕ
    pub right-degree : ℕ
    pub left-positive : 0 < left-degree
    pub right_positive : 0 < right-degree
    pub left-monic : Monic left left-degree
    pub right-monic : Monic right right-degree
    pub product : left ⊠ right ≡ f

  pub record Irreducible (f : Polynomial R D) (n : ℕ) : Type 0 where
    pub monic : Monic f n
    pub positive : 0 < n
    pub no_factors : ¬ Reducible f

  pub irreducible-factor :
      {f h : Polynomial R D} {n : ℕ} → Irreducible f n → Divides (polynomials R D) f h → Factor h f n
  irreducible-factor i d = record { monic = i.monic; positive = i.positive; divides = d }

-- Over any ring with 1 other than 0.
module _ {K : Type 0} {R : Ring K} {D : Discrete K} (nontrivial : Nontrivial R) where
  open R use {0#}

  pub reducible_degrees :
      {f : Polynomial R D} {n : ℕ} → Monic f n → (r : Reducible f) → r.left-degree + r.right-degree ≡ n
  reducible_degrees m r =
      monic-unique nontrivial (rw r.product at (monic-mul r.left-monic r.right-monic)) m

  -- Divisors and factorisations.
  pub factor_reducible :
      {f g : Polynomial R D} {n a : ℕ} → Monic f n → Factor f g a → a < n → Reducible f
  factor_reducible {f} {g} {n} {a} m x l =
      let (k, e, o) = monic-divisor nontrivial x.monic m x.divides in
      record {
        left = x.divides.quotient;
        right = g;
        left-degree = k;
        right-degree = a;
        left-positive = omega arith;
        right_positive = x.positive;
        left-monic = o;
        right-monic = x.monic;
        product = sym x.divides.equation;
      }

  pub reducible_factor :
      {f : Polynomial R D} {n : ℕ}
      → Monic f n
      → Reducible f
      → (g : Polynomial R D) × (a : ℕ) × (2 * a ≤ n) × Factor f g a
  reducible_factor {f} {n} m r = go (dec_le r.left-degree r.right-degree)
    where
      degrees : r.left-degree + r.right-degree ≡ n
      degrees = reducible_degrees m r

      go :
          Dec (r.left-degree ≤ r.right-degree)
          → (g : Polynomial R D) × (a : ℕ) × (2 * a ≤ n) × Factor f g a
      go (yes l) = (
        r.left,
        r.left-degree,
        omega (arith, degrees),
        record {
          monic = r.left-monic;
          positive = r.left-positive;
          divides = rw r.product at (divides-product (polynomials R D) r.left r.right);
        },
      )
      go (no l) = (
        r.right,
        r.right-degree,
        omega (arith, degrees),
        record {
          monic = r.right-monic;
          positive = r.right_positive;
          divides = rw r.product at (divides-multiple (polynomials R D) r.left r.right);
        },
      )

  -- Irreducible by search among divisors of at most half the degree.
  pub irreducible-half :
      {f : Polynomial R D} {n : ℕ}
      → Monic f n
      → 0 < n
      → Irreducible f n
      ↔ ((g : Polynomial R D) (a : ℕ) → 1 ≤ a → 2 * a ≤ n → Monic g a → ¬ Divides (polynomials R D) g f)
  irreducible-half m p = (
    λ i g a l k u d.
        i.no_factors (factor_reducible m (record { monic = u; positive = l; divides = d }) (omega arith)),
    λ none.
        record {
          monic = m;
          positive = p;
          no_factors =
              λ r.
              let (g, a, l, x) = reducible_factor m r in
              none g a x.positive l x.monic x.divides;
        },
  )

  pub irreducible-divisor :
      {f g : Polynomial R D} {n a : ℕ} → Irreducible f n → Factor f g a → f ≡ g
  irreducible-divisor {f} {g} {n} {a} i x = go (dec_lt a n)
    where
      l : a ≤ n
      l = divisor-degree x.monic (monic-degree nontrivial i.monic) x.divides

      go : Dec (a < n) → f ≡ g
      go (yes h) = absurd (i.no_factors (factor_reducible i.monic x h))
      go (no h) =
          let e : a ≡ n = omega (arith, l) in
          divisor-same-degree nontrivial (subst (Monic g) e x.monic) i.monic x.divides

  -- Polynomials of degree 1, and the divisor x.
  pub irreducible_linear : {f : Polynomial R D} → Monic f 1 → Irreducible f 1
  irreducible_linear m =
      record {
        monic = m;
        positive = omega arith;
        no_factors = λ r. omega (arith, reducible_degrees m r, r.left-positive, r.right_positive);
      }

  pub irreducible-x : Irreducible (X R D) 1
  irreducible-x = irreducible_linear (monic-x R D)

  -- An irreducible polynomial that divides another one is that one.
  pub irreducibles-equal :
      {f g : Polynomial R D} {m n : ℕ}
      → Irreducible f m
      → Irreducible g n
      → Divides (polynomials R D) f g
      → g ≡ f
  irreducibles-equal i j d = irreducible-divisor j (irreducible-factor i d)

  pub irreducible-not-divides-x :
      {f : Polynomial R D} {n : ℕ} → Irreducible f n → ¬ (f ≡ X R D) → ¬ Divides (polynomials R D) f (X R D)
  irreducible-not-divides-x i h d = h (sym (irreducibles-equal i irreducible-x d))

  pub irreducible-constant-term :
      {f : Polynomial R D} {n : ℕ} → Irreducible f n → ¬ (f ≡ X R D) → ¬ (coefficient f 0 ≡ 0#)
  irreducible-constant-term {f} i h z = h (irreducibles-equal irreducible-x i (x-divides f z))

-- Over a field.
module _ {K : Type 0} {R : Ring K} {D : Discrete K} (F : Field R) where
  open polynomials R D use {0# as 0ₚ, ◌⊗◌ as ◌⊠◌}

  infixl 70 ◌⊠◌
  pub irreducible-degrees :
      {f : Polynomial R D} {n : ℕ}
      → Monic f n
      → 0 < n
      → Irreducible f n
      ↔ ((g h : Polynomial R D) (a b : ℕ) → 0 < a → 0 < b → Degree g a → Degree h b → ¬ (g ⊠ h ≡ f))
  irreducible-degrees {f} {n} m p = (
    λ i g h a b l k u v e.
        let d = degree-unique (rw e at (degree-mul F u v)) (monic-degree F.one_nonzero m) in
        i.no_factors (factor_reducible F.one_nonzero m (scaled h l u e) (omega arith)),
    λ none.
        record {
          monic = m;
          positive = p;
          no_factors =
              λ r.
              none
              r.left
              r.right
              r.left-degree
              r.right-degree
              r.left-positive
              r.right_positive
              (monic-degree F.one_nonzero r.left-monic)
              (monic-degree F.one_nonzero r.right-monic)
              r.product;
        },
  )
    where
      scaled :
          {g : Polynomial R D} (h : Polynomial R D) {a : ℕ}
          → 0 < a
          → (u : Degree g a)
          → g ⊠ h ≡ f
          → Factor f (scale (F.inverse (coefficient g a)) g) a
      scaled {g} h l u e =
          record {
            monic = monic-scale F u;
            positive = l;
            divides =
                divides_trans
                (polynomials R D)
                (monic-scale-divides F u)
                (rw e at (divides-product (polynomials R D) g h));
          }

  pub irreducible-atom : {f : Polynomial R D} {n : ℕ} → Irreducible f n → Atom (polynomials R D) f
  irreducible-atom {f} i h = go (coprime-or_common F f h (λ z. nonzero z.0))
    where
      nonzero : ¬ (f ≡ 0ₚ)
      nonzero = monic-nonzero F.one_nonzero i.monic

      go :
          Coprime (polynomials R D) f h ⊎ ((g : Polynomial R D) × (k : ℕ) × Factor f g k × Factor h g k)
          → Divides (polynomials R D) f h ⊎ Coprime (polynomials R D) f h
      go (inl p) = inr p
      go (inr (g, k, x, y)) =
          inl
          (
          subst
          (λ u. Divides (polynomials R D) u h)
          (sym (irreducible-divisor F.one_nonzero i x))
          y.divides
          )

  pub irreducible-product :
      {f a b : Polynomial R D} {n : ℕ}
      → Irreducible f n
      → Divides (polynomials R D) f (a ⊠ b)
      → Divides (polynomials R D) f a ⊎ Divides (polynomials R D) f b
  irreducible-product i = atom-product (polynomials R D) (irreducible-atom i)

  pub irreducibles-coprime :
      {f g : Polynomial R D} {m n : ℕ}
      → Irreducible f m
      → Irreducible g n
      → ¬ (f ≡ g)
      → Coprime (polynomials R D) f g
  irreducibles-coprime {g = g} i j h = elim (irreducible-atom i g) [
    | inl d ↦ absurd (h (sym (irreducibles-equal F.one_nonzero i j d)))
    | inr p ↦ p
  ]

  -- A list of different irreducible polynomials.
  pub irreducibles-atoms :
      (fs : List (Polynomial R D)) (d : ℕ → ℕ)
      → ((i : ℕ) → i < length fs → Irreducible (get_or fs i 0ₚ) (d i))
      → ((i j : ℕ) → i < j → j < length fs → ¬ (get_or fs i 0ₚ ≡ get_or fs j 0ₚ))
      → CoprimeAtoms (polynomials R D) fs
  irreducibles-atoms fs d irreducible different =
      record {
        atom = λ i l. irreducible-atom (irreducible i l);
        coprime =
            λ i j k l.
            irreducibles-coprime (irreducible i (ℕ.lt_trans k l)) (irreducible j l) (different i j k l);
      }
