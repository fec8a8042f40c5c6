-- Greatest common divisors with Bezout's equation, least common multiples.
--
--   Gcd R a b g       == g divides a and b, and g = left·a + right·b for the two elements given, so that
--                        every common divisor divides g; of 0 and 0 it is 0
--   Lcm R a b m       == a and b divide m, and m divides whatever both divide; of 0 and any b it is 0
--   Factor f g k      == the monic polynomial g of positive degree k divides f
--   gcd-step          == one step of Euclid's algorithm
--   gcd-cancel        == a factor of a that is coprime to b may be left out
--   gcd               == polynomials over a field have a greatest common divisor
--   monic-gcd         == a monic one, where not both are 0
--   coprime-gcd       == over a field, coprime exactly where a greatest common divisor has degree 0
--   coprime-or_common == polynomials over a field, not both 0, are coprime or have a common factor
--   coprime_common    == a monic one and any other are coprime exactly where they have no common factor
--   lcm               == polynomials over a field have a least common multiple
--   monic-lcm         == monic ones have a monic one, of a degree that is at most the sum of the two
--   gcd-lcm           == over any ring, where g is a monic greatest common divisor of a and b, the quotient
--                        of a by g times b is a least common multiple
--   lcm-unique        == there is at most one monic least common multiple
--   lcm-gcd-product   == its product with the monic greatest common divisor is the product of the two
--
-- Assumes nothing.
use mathlib.Core.Path.{◌≡◌, refl, sym, ap, subst, ◌∙◌}
use mathlib.Core.Logic.{◌⊎◌, inl, inr, ◌↔◌}
use Prim.Native.Nat.{ℕ, zero, suc, ◌+◌, ◌≤◌, ◌<◌}
use native.Mathlib.Nat as ℕ
use native.Mathlib.Omega.{arith}
use Rattle.algebra.proofs.Rings.Ring.{Ring, Field, mul_right_comm}
use Rattle.algebra.proofs.Rings.Solver.{solve, ◌:=◌, ◌:+◌, ◌:*◌, :-◌, :0, :1}
use Rattle.algebra.proofs.Rings.Ideal.{Divides, Coprime, Ideal, divides-refl, divides-multiple}
use Rattle.algebra.proofs.Rings.Ideal.{divides_trans, divides-mul, multiples-ideal, coprime-whole}
use Rattle.algebra.proofs.Polynomials.Polynomial.{Polynomial, polynomials, polynomial_discrete}
use Rattle.algebra.proofs.Polynomials.Polynomial.{coefficient, scale}
use Rattle.algebra.proofs.Polynomials.Polynomial.{Below, below_length, below_weaken, below-zero}
use Rattle.algebra.proofs.Polynomials.Monic.{
  Degree,
  Monic,
  Nontrivial,
  leading-term,
  degree-below,
  monic-mul,
  monic-degree,
  monic-nonzero,
  monic-one,
  monic-scale,
}
use Rattle.algebra.proofs.Polynomials.Division.{
  zero-divides,
  divisors_equal,
  divides-cancel,
  divisor-degree,
  monic-divisor,
  monic-degree-zero,
  monic-scale-divides,
  field-divide,
}

-- In any ring.
module _ {K : Type 0} (R : Ring K) where
  open R use {0#, 1#, ◌⊕◌, ◌⊗◌, ⊖◌, add_comm, mul_assoc, mul_comm}

  infixl 60 ◌⊕◌
  infixl 70 ◌⊗◌
  infix 80 ⊖◌
  pub record Gcd (a b g : K) : Type 0 where
    pub left : K
    pub right : K
    pub bezout : left ⊗ a ⊕ right ⊗ b ≡ g
    pub divides-left : Divides R g a
    pub divides-right : Divides R g b

  pub record Lcm (a b m : K) : Type 0 where
    pub divides-left : Divides R a m
    pub divides-right : Divides R b m
    pub least : (h : K) → Divides R a h → Divides R b h → Divides R m h

  pub gcd_sym : {a b g : K} → Gcd a b g → Gcd b a g
  gcd_sym p =
      record {
        left = p.right;
        right = p.left;
        bezout = add_comm _ _ ∙ p.bezout;
        divides-left = p.divides-right;
        divides-right = p.divides-left;
      }

  pub gcd-zero : (a : K) → Gcd a 0# a
  gcd-zero a =
      record {
        left = 1#;
        right = 0#;
        bezout = solve R 1 (λ a. :1 :* a :+ :0 :* :0 := a) refl a;
        divides-left = divides-refl R a;
        divides-right = (multiples-ideal R a).has_zero;
      }

  -- One step of Euclid's algorithm.
  pub gcd-step : {a b q r g : K} → a ≡ q ⊗ b ⊕ r → Gcd b r g → Gcd a b g
  gcd-step {a} {b} {q} {r} {g} e p =
      record {
        left = p.right;
        right = p.left ⊕ ⊖ (p.right ⊗ q);
        bezout =
            ap (λ x. p.right ⊗ x ⊕ (p.left ⊕ ⊖ (p.right ⊗ q)) ⊗ b) e
            ∙ solve
            R
            5
            (λ b q r u v. v :* (q :* b :+ r) :+ (u :+ :- (v :* q)) :* b := u :* b :+ v :* r)
            refl
            b q r p.left p.right
            ∙ p.bezout;
        divides-left = rw e (ideal.sum (ideal.multiple q p.divides-left) p.divides-right);
        divides-right = p.divides-left;
      }
    where
      ideal : Ideal R (Divides R g)
      ideal = multiples-ideal R g

  -- A factor of a that is coprime to b may be left out.
  pub gcd-cancel : {a b c g : K} → Coprime R c b → Gcd a b g → Gcd (c ⊗ a) b g
  gcd-cancel {a} {b} {c} {g} o p =
      record {
        left = p.left ⊗ o.left;
        right = p.right ⊕ p.left ⊗ o.right ⊗ a;
        bezout =
            solve R 7
            (λ a b c l r u v. l :* u :* (c :* a) :+ (r :+ l :* v :* a) :* b
            := l :* (u :* c :+ v :* b) :* a :+ r :* b)
            refl a b c p.left p.right o.left o.right
            ∙ ap (λ y. p.left ⊗ y ⊗ a ⊕ p.right ⊗ b) o.bezout
            ∙ solve R 4 (λ a b l r. l :* :1 :* a :+ r :* b := l :* a :+ r :* b) refl a b p.left p.right
            ∙ p.bezout;
        divides-left = (multiples-ideal R g).multiple c p.divides-left;
        divides-right = p.divides-right;
      }

  pub gcd-scale : {a b g : K} (c : K) → Divides R (c ⊗ g) g → Gcd a b g → Gcd a b (c ⊗ g)
  gcd-scale {a} {b} c d p =
      record {
        left = c ⊗ p.left;
        right = c ⊗ p.right;
        bezout =
            solve R 5 (λ a b c u v. c :* u :* a :+ c :* v :* b := c :* (u :* a :+ v :* b)) refl a b c _ _
            ∙ ap (◌⊗◌ c) p.bezout;
        divides-left = divides_trans R d p.divides-left;
        divides-right = divides_trans R d p.divides-right;
      }

  pub gcd-coprime : {a b : K} → Gcd a b 1# → Coprime R a b
  gcd-coprime p = record { left = p.left; right = p.right; bezout = p.bezout }

  -- The product of two divisors of h divides h times their greatest common divisor.
  pub gcd-product-divides :
      {a b g h : K} → Gcd a b g → Divides R a h → Divides R b h → Divides R (a ⊗ b) (g ⊗ h)
  gcd-product-divides {a} {b} {g} {h} p d e =
      rw
      (← split)
      (
      ideal.sum
      (ideal.multiple p.left (divides-mul R (divides-refl R a) e))
      (ideal.multiple p.right (rw (mul_comm b) (divides-mul R d (divides-refl R b))))
      )
    where
      ideal : Ideal R (Divides R (a ⊗ b))
      ideal = multiples-ideal R (a ⊗ b)

      split : p.left ⊗ (a ⊗ h) ⊕ p.right ⊗ (b ⊗ h) ≡ g ⊗ h
      split =
          solve R 5 (λ a b h u v. u :* (a :* h) :+ v :* (b :* h) := (u :* a :+ v :* b) :* h) refl a b h _ _
          ∙ ap (λ x. x ⊗ h) p.bezout

-- Polynomials over any ring.
module _ {K : Type 0} {R : Ring K} {D : Discrete K} where
  open polynomials R D use {◌⊗◌ as ◌⊠◌}

  infixl 70 ◌⊠◌
  pub record Factor (f g : Polynomial R D) (k : ℕ) : Type 0 where
    pub monic : Monic g k
    pub positive : 0 < k
    pub divides : Divides (polynomials R D) g f

  pub lcm-unique :
      Nontrivial R
      → {a b c d : Polynomial R D} {k l : ℕ}
      → Monic c k
      → Monic d l
      → Lcm (polynomials R D) a b c
      → Lcm (polynomials R D) a b d
      → c ≡ d
  lcm-unique n m o p q =
      divisors_equal n o m (q.least _ p.divides-left p.divides-right)
      (p.least _ q.divides-left q.divides-right)

  -- The least common multiple from the greatest common divisor.
  pub gcd-lcm :
      {a b g : Polynomial R D} {k : ℕ}
      → Monic g k
      → (p : Gcd (polynomials R D) a b g)
      → Lcm (polynomials R D) a b (p.divides-left.quotient ⊠ b)
  gcd-lcm {a} {b} {g} m p =
      let P = polynomials R D in
      let q = p.divides-left.quotient in
      record {
        divides-left =
            subst
            (λ x. Divides P x (q ⊠ b))
            (sym p.divides-left.equation)
            (divides-mul P (divides-refl P q) p.divides-right);
        divides-right = divides-multiple P q b;
        least =
            λ h d e.
            divides-cancel m (subst (λ x. Divides P x (g ⊠ h)) product (gcd-product-divides P p d e));
      }
    where
      product : a ⊠ b ≡ g ⊠ (p.divides-left.quotient ⊠ b)
      product =
          ap (λ x. x ⊠ b) p.divides-left.equation
          ∙ solve (polynomials R D) 3 (λ q g b. q :* g :* b := g :* (q :* b)) refl _ g b

  pub lcm-gcd-product :
      Nontrivial R
      → {a b g c : Polynomial R D} {m n k l : ℕ}
      → Monic a m
      → Monic b n
      → Monic g k
      → Monic c l
      → Gcd (polynomials R D) a b g
      → Lcm (polynomials R D) a b c
      → c ⊠ g ≡ a ⊠ b
  lcm-gcd-product t {a} {b} {g} u v w x p q =
      let y : Monic p.divides-left.quotient _ = (monic-divisor t w u p.divides-left).2 in
      ap (λ z. z ⊠ g) (lcm-unique t x (monic-mul y v) q (gcd-lcm w p))
      ∙ mul_right_comm (polynomials R D) p.divides-left.quotient b g
      ∙ ap (λ z. z ⊠ b) (sym p.divides-left.equation)

-- Polynomials over a field.
module _ {K : Type 0} {R : Ring K} {D : Discrete K} (F : Field R) where
  open polynomials R D use {0# as 0ₚ, ◌⊗◌ as ◌⊠◌}

  infixl 70 ◌⊠◌
  gcd-below :
      (n : ℕ) (a b : Polynomial R D)
      → Below b n
      → (g : Polynomial R D) × Gcd (polynomials R D) a b g
  gcd-below zero a b l = (a, rw (below-zero l) (gcd-zero (polynomials R D) a))
  gcd-below (suc n) a b l = elim (leading-term b) [
    | inl z ↦ (a, rw z (gcd-zero (polynomials R D) a))
    | inr d ↦
        let e = field-divide F d.1 a in
        let l : d.0 ≤ n = ℕ.le_of_suc-le-suc (degree-below d.1 l) in
        let (g, p) = gcd-below n b e.remainder (below_weaken e.small l) in
        (g, gcd-step (polynomials R D) e.equation p)
  ]

  pub gcd : (a b : Polynomial R D) → (g : Polynomial R D) × Gcd (polynomials R D) a b g
  gcd a b = gcd-below _ a b (below_length b)

  pub monic-gcd :
      (a b : Polynomial R D)
      → ¬ ((a ≡ 0ₚ) × (b ≡ 0ₚ))
      → (g : Polynomial R D) × (k : ℕ) × Monic g k × Gcd (polynomials R D) a b g
  monic-gcd a b h = let (g, p) = gcd a b in go p (leading-term g)
    where
      zero_of : {g c : Polynomial R D} → g ≡ 0ₚ → Divides (polynomials R D) g c → c ≡ 0ₚ
      zero_of z d = zero-divides (polynomials R D) (rw z at d)

      go :
          {g : Polynomial R D}
          → Gcd (polynomials R D) a b g
          → (g ≡ 0ₚ) ⊎ ((k : ℕ) × Degree g k)
          → (g : Polynomial R D) × (k : ℕ) × Monic g k × Gcd (polynomials R D) a b g
      go p (inl z) = absurd (h (zero_of z p.divides-left, zero_of z p.divides-right))
      go {g} p (inr (k, d)) = (
        scale (F.inverse (coefficient g k)) g,
        k,
        monic-scale F d,
        gcd-scale (polynomials R D) _ (monic-scale-divides F d) p,
      )

  pub coprime-or_common :
      (a b : Polynomial R D)
      → ¬ ((a ≡ 0ₚ) × (b ≡ 0ₚ))
      → Coprime (polynomials R D) a b ⊎ ((g : Polynomial R D) × (k : ℕ) × Factor a g k × Factor b g k)
  coprime-or_common a b h = let (g, k, m, p) = monic-gcd a b h in go k m p
    where
      go :
          {g : Polynomial R D} (k : ℕ)
          → Monic g k
          → Gcd (polynomials R D) a b g
          → Coprime (polynomials R D) a b ⊎ ((g : Polynomial R D) × (k : ℕ) × Factor a g k × Factor b g k)
      go zero m p =
          inl (gcd-coprime (polynomials R D) (subst (Gcd (polynomials R D) a b) (monic-degree-zero m) p))
      go {g} (suc k) m p = inr (g, suc k, factor p.divides-left, factor p.divides-right)
        where
          factor : {f : Polynomial R D} → Divides (polynomials R D) g f → Factor f g (suc k)
          factor d = record { monic = m; positive = omega arith; divides = d }

  pub coprime_common :
      {f h : Polynomial R D} {d : ℕ}
      → Monic f d
      → Coprime (polynomials R D) f h
      ↔ ((g : Polynomial R D) (k : ℕ) → Factor f g k → ¬ Factor h g k)
  coprime_common {f} {h} m = (
    λ c g k x y.
        let ideal = multiples-ideal (polynomials R D) g in
        let e = coprime-whole (polynomials R D) ideal c x.divides y.divides in
        let z = divisor-degree x.monic (monic-degree F.one_nonzero (monic-one R D)) e in
        omega (arith, x.positive),
    λ none. elim (coprime-or_common f h (λ z. monic-nonzero F.one_nonzero m z.0)) [
      | inl c ↦ c
      | inr (g, k, x, y) ↦ absurd (none g k x y)
    ],
  )

  gcd-monic :
      {a b g : Polynomial R D} {k : ℕ}
      → Monic g k
      → Gcd (polynomials R D) a b g
      → Coprime (polynomials R D) a b ↔ (k ≡ 0)
  gcd-monic {a} {b} {g} m p = (
    λ c.
        let ideal = multiples-ideal (polynomials R D) g in
        let e = coprime-whole (polynomials R D) ideal c p.divides-left p.divides-right in
        let l = divisor-degree m (monic-degree F.one_nonzero (monic-one R D)) e in
        omega arith,
    λ z.
        gcd-coprime (polynomials R D)
        (subst (Gcd (polynomials R D) a b) (monic-degree-zero (subst (Monic g) z m)) p),
  )

  pub coprime-gcd :
      {a b g : Polynomial R D} {k : ℕ}
      → Degree g k
      → Gcd (polynomials R D) a b g
      → Coprime (polynomials R D) a b ↔ (k ≡ 0)
  coprime-gcd d p = gcd-monic (monic-scale F d) (gcd-scale (polynomials R D) _ (monic-scale-divides F d) p)

  pub monic-lcm :
      {a b : Polynomial R D} {m n : ℕ}
      → Monic a m
      → Monic b n
      → (c : Polynomial R D) × (l : ℕ) × (l ≤ m + n) × Monic c l × Lcm (polynomials R D) a b c
  monic-lcm {a} {b} {m} {n} u v =
      let (g, k, w, p) = monic-gcd a b (λ z. monic-nonzero F.one_nonzero u z.0) in
      let (j, e, y) = monic-divisor F.one_nonzero w u p.divides-left in
      (p.divides-left.quotient ⊠ b, j + n, omega arith, monic-mul y v, gcd-lcm w p)

  pub lcm : (a b : Polynomial R D) → (m : Polynomial R D) × Lcm (polynomials R D) a b m
  lcm a b = go (polynomial_discrete a 0ₚ)
    where
      go : Dec (a ≡ 0ₚ) → (m : Polynomial R D) × Lcm (polynomials R D) a b m
      go (no h) = let (g, k, w, p) = monic-gcd a b (λ z. h z.0) in (_, gcd-lcm w p)
      go (yes z) = (
        0ₚ,
        record {
          divides-left = (multiples-ideal (polynomials R D) a).has_zero;
          divides-right = (multiples-ideal (polynomials R D) b).has_zero;
          least = λ h d _. rw z at d;
        },
      )
