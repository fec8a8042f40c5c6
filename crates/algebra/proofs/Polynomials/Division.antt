-- Division with remainder, divisibility.
--
--   Division g f n     == f = quotient·g + remainder, with the remainder below n; for g of degree n this is
--                         division with remainder, for n = 0 the remainder is 0
--   divide             == division by a monic polynomial, over any ring with decided equality
--   division_unique    == its quotient and its remainder are unique
--   divides-monic      == whether a given monic polynomial divides a given polynomial is decided
--   divisor-degree     == a monic divisor has at most the degree of what it divides
--   monic-divisor      == the quotient of monic polynomials is monic, and the degrees add up
--   divisors_equal     == monic polynomials that divide each other are equal
--   divides-cancel     == a monic factor on both sides of a divisibility cancels
--   divide-x           == division by x: the remainder is the constant term
--   x-divides          == x divides what has the constant term 0
--   field-divide       == over a field, division by any polynomial other than 0
--   field-divides      == over a field, divisibility is decided
--
-- Assumes nothing.
use mathlib.Core.Path.{◌≡◌, refl, sym, ap, ap₂, subst, ◌∙◌}
use mathlib.Core.Logic.{inl, inr}
use Prim.Native.Nat.{ℕ, zero, suc, ◌+◌, ◌≤◌, ◌<◌}
use native.Mathlib.Nat as ℕ
use native.Mathlib.Decide.{dec_lt}
use native.Mathlib.Omega.{arith}
use Rattle.algebra.proofs.Rings.Ring.{Ring, Field}
use Rattle.algebra.proofs.Rings.Ring.{zero-add, one-mul, zero-mul, mul-zero, mul_left_comm}
use Rattle.algebra.proofs.Rings.Ring.{add_left_cancel, eq_of_sub-zero}
use Rattle.algebra.proofs.Rings.Solver.{solve, ◌:=◌, ◌:+◌, ◌:*◌, :-◌, :0}
use Rattle.algebra.proofs.Rings.Ideal.{Divides, divides-multiple, divides_trans, multiples-ideal}
use Rattle.algebra.proofs.Polynomials.Polynomial.{
  Polynomial,
  polynomials,
  polynomial_discrete,
  polynomial_ext,
  polynomial_induction,
  coefficient,
  coefficient-add,
  coefficient-neg,
  coefficient-scale,
  coefficient-zero,
  coefficient-one-zero,
  coefficient-one-suc,
  coefficient-x-mul-zero,
  coefficient-cons-zero,
  coefficient-cons-suc,
  constant,
  constant-polynomial-hom,
  scale,
  X,
  Below,
  below_weaken,
}
use Rattle.algebra.proofs.Polynomials.Monic.{Degree, Monic, Nontrivial, below_step, below-add}
use Rattle.algebra.proofs.Polynomials.Monic.{below-neg, below-scale, below_of_zero, degree-below}
use Rattle.algebra.proofs.Polynomials.Monic.{degree-nonzero, leading-term, degree-monic-mul}
use Rattle.algebra.proofs.Polynomials.Monic.{monic-degree, monic-cancel, monic-cofactor, monic-scale}
use Rattle.algebra.proofs.Polynomials.Monic.{scale-inverse}

module _ {K : Type 0} (R : Ring K) where
  open R use {0#, ◌⊕◌, ◌⊗◌, ⊖◌}

  infixl 60 ◌⊕◌
  infixl 70 ◌⊗◌
  infix 80 ⊖◌
  -- 0 divides 0 alone.
  pub zero-divides : {h : K} → Divides R 0# h → h ≡ 0#
  zero-divides d = d.equation ∙ mul-zero R d.quotient

  -- One step of the division, and the difference of two divisions.
  divide-step :
      (a x q g r c : K) → a ⊕ x ⊗ (q ⊗ g ⊕ r) ≡ (x ⊗ q ⊕ c) ⊗ g ⊕ (a ⊕ x ⊗ r ⊕ ⊖ (c ⊗ g))
  divide-step =
      solve
      R
      6
      (λ a x q g r c. a :+ x :* (q :* g :+ r) := (x :* q :+ c) :* g :+ (a :+ x :* r :+ :- (c :* g)))
      refl

  quotient-difference : {q p g r s : K} → q ⊗ g ⊕ r ≡ p ⊗ g ⊕ s → (q ⊕ ⊖ p) ⊗ g ≡ s ⊕ ⊖ r
  quotient-difference {q} {p} {g} {r} {s} e =
      solve R 4 (λ q p g r. (q :+ :- p) :* g := q :* g :+ r :+ :- (p :* g :+ r)) refl q p g r
      ∙ ap (λ u. u ⊕ ⊖ (p ⊗ g ⊕ r)) e
      ∙ solve R 4 (λ p g r s. p :* g :+ s :+ :- (p :* g :+ r) := s :+ :- r) refl p g r s

module _ {K : Type 0} {R : Ring K} {D : Discrete K} where
  open R use {◌⊕◌, ◌⊗◌, ⊖◌, add_neg, mul-one}
  open polynomials R D use {0# as 0ₚ, 1# as 1ₚ, ◌⊕◌ as ◌⊞◌, ◌⊗◌ as ◌⊠◌, ⊖◌ as ⊟◌}

  infixl 60 ◌⊕◌ ◌⊞◌
  infixl 70 ◌⊗◌ ◌⊠◌
  infix 80 ⊖◌ ⊟◌
  pub record Division (g f : Polynomial R D) (n : ℕ) : Type 0 where
    pub quotient : Polynomial R D
    pub remainder : Polynomial R D
    pub equation : f ≡ quotient ⊠ g ⊞ remainder
    pub small : Below remainder n

  pub below-cons :
      (a : K) {r : Polynomial R D} {n : ℕ} → Below r n → Below (constant R D a ⊞ X R D ⊠ r) (suc n)
  below-cons a {r} {n} b = record {
    above = elim [
      | zero ↦ λ l. absurd (ℕ.not-suc-le-zero l)
      | suc i ↦ λ l. coefficient-cons-suc a r i ∙ b.above i (ℕ.le_of_suc-le-suc l)
    ];
  }

  reduce-top :
      {g t : Polynomial R D} {n : ℕ}
      → Monic g n
      → Below t (suc n)
      → Below (t ⊞ ⊟ (scale (coefficient t n) g)) n
  reduce-top {g} {t} {n} m b =
      below_step
      (below-add b (below-neg (below-scale (coefficient t n) m.below)))
      (
      coefficient-add t (⊟ (scale (coefficient t n) g)) n
      ∙ ap
      (◌⊕◌ (coefficient t n))
      (
      coefficient-neg (scale (coefficient t n) g) n
      ∙ ap ⊖◌ (coefficient-scale _ g n ∙ ap (◌⊗◌ (coefficient t n)) m.leading ∙ mul-one _)
      )
      ∙ add_neg (coefficient t n)
      )

  pub divide : {g : Polynomial R D} {n : ℕ} → Monic g n → (f : Polynomial R D) → Division g f n
  divide {g} {n} m = polynomial_induction R D (λ f. Division g f n) base step
    where
      base : Division g 0ₚ n
      base =
          record {
            quotient = 0ₚ;
            remainder = 0ₚ;
            equation = solve (polynomials R D) 1 (λ g. :0 := :0 :* g :+ :0) refl g;
            small = below_of_zero R D n;
          }

      step : (a : K) (f : Polynomial R D) → Division g f n → Division g (constant R D a ⊞ X R D ⊠ f) n
      step a f d =
          let t = constant R D a ⊞ X R D ⊠ d.remainder in
          record {
            quotient = X R D ⊠ d.quotient ⊞ constant R D (coefficient t n);
            remainder = t ⊞ ⊟ (scale (coefficient t n) g);
            equation =
                ap (λ u. constant R D a ⊞ X R D ⊠ u) d.equation
                ∙ divide-step (polynomials R D) (constant R D a) (X R D) d.quotient g d.remainder _;
            small = reduce-top m (below-cons a d.small);
          }

  -- Uniqueness: a multiple of g below the degree of g is 0.
  pub multiple-below : {g q : Polynomial R D} {n : ℕ} → Monic g n → Below (q ⊠ g) n → q ≡ 0ₚ
  multiple-below {g} {q} {n} m b = elim (leading-term q) [ inl z ↦ z | inr d ↦ absurd (impossible d.1) ]
    where
      impossible : {k : ℕ} → Degree q k → ⊥
      impossible d =
          let l = degree-below (rw ((polynomials R D).mul_comm g q) at (degree-monic-mul m d)) b in omega
          arith

  unique_of_regular :
      {g f : Polynomial R D} {n : ℕ}
      → ((q : Polynomial R D) → Below (q ⊠ g) n → q ≡ 0ₚ)
      → (d e : Division g f n)
      → (d.quotient ≡ e.quotient) × (d.remainder ≡ e.remainder)
  unique_of_regular {g} {n = n} regular d e = (same, add_left_cancel (polynomials R D) (e.quotient ⊠ g) rest)
    where
      both : d.quotient ⊠ g ⊞ d.remainder ≡ e.quotient ⊠ g ⊞ e.remainder
      both = sym d.equation ∙ e.equation

      difference_below : Below ((d.quotient ⊞ ⊟ e.quotient) ⊠ g) n
      difference_below =
          rw (quotient-difference (polynomials R D) both) (below-add e.small (below-neg d.small))

      same : d.quotient ≡ e.quotient
      same = eq_of_sub-zero (polynomials R D) (regular _ difference_below)

      rest : e.quotient ⊠ g ⊞ d.remainder ≡ e.quotient ⊠ g ⊞ e.remainder
      rest = ap (λ q. q ⊠ g ⊞ d.remainder) (sym same) ∙ both

  pub division_unique :
      {g f : Polynomial R D} {n : ℕ}
      → Monic g n
      → (d e : Division g f n)
      → (d.quotient ≡ e.quotient) × (d.remainder ≡ e.remainder)
  division_unique m = unique_of_regular (λ _. multiple-below m)

  -- Divisibility by a monic polynomial.
  pub divides_division : {g f : Polynomial R D} (n : ℕ) → Divides (polynomials R D) g f → Division g f n
  divides_division {g} n d =
      record {
        quotient = d.quotient;
        remainder = 0ₚ;
        equation = d.equation ∙ sym ((polynomials R D).add-zero (d.quotient ⊠ g));
        small = below_of_zero R D n;
      }

  pub division_divides :
      {g f : Polynomial R D} {n : ℕ}
      → (d : Division g f n)
      → d.remainder ≡ 0ₚ
      → Divides (polynomials R D) g f
  division_divides {g} d z =
      record {
        quotient = d.quotient;
        equation = d.equation ∙ ap (◌⊞◌ (d.quotient ⊠ g)) z ∙ (polynomials R D).add-zero (d.quotient ⊠ g);
      }

  pub divides-remainder :
      {g f : Polynomial R D} {n : ℕ}
      → Monic g n
      → Divides (polynomials R D) g f
      → (d : Division g f n)
      → d.remainder ≡ 0ₚ
  unfolding divides_division
  divides-remainder {n = n} m e d = (division_unique m d (divides_division n e)).1

  pub divides-monic :
      {g : Polynomial R D} {n : ℕ} → Monic g n → (f : Polynomial R D) → Dec (Divides (polynomials R D) g f)
  divides-monic {g} m f = go (polynomial_discrete (divide m f).remainder 0ₚ)
    where
      go : Dec ((divide m f).remainder ≡ 0ₚ) → Dec (Divides (polynomials R D) g f)
      go (yes z) = yes (division_divides (divide m f) z)
      go (no h) = no (λ d. h (divides-remainder m d (divide m f)))

  pub divides-below :
      {g f : Polynomial R D} {n : ℕ} → Monic g n → Divides (polynomials R D) g f → Below f n → f ≡ 0ₚ
  divides-below {g} m d b =
      d.equation
      ∙ ap (λ q. q ⊠ g) (multiple-below m (rw d.equation at b))
      ∙ zero-mul (polynomials R D) g

  -- Degrees of divisors.
  pub divisor-degree :
      {g f : Polynomial R D} {m n : ℕ}
      → Monic g m
      → Degree f n
      → Divides (polynomials R D) g f
      → m ≤ n
  divisor-degree {g} {f} {m} {n} a d e = go (dec_lt n m)
    where
      go : Dec (n < m) → m ≤ n
      go (yes l) = absurd (degree-nonzero d (divides-below a e (below_weaken d.below l)))
      go (no h) = omega arith

  pub monic-divisor :
      Nontrivial R
      → {g f : Polynomial R D} {m n : ℕ}
      → Monic g m
      → Monic f n
      → (d : Divides (polynomials R D) g f)
      → (k : ℕ) × (m + k ≡ n) × Monic d.quotient k
  monic-divisor h {g} a b d =
      monic-cofactor h a (rw (d.equation, (polynomials R D).mul_comm d.quotient g) at b)

  pub monic-degree-zero : {f : Polynomial R D} → Monic f 0 → f ≡ 1ₚ
  monic-degree-zero {f} m = polynomial_ext (elim [ zero ↦ at_zero | suc i ↦ at_suc i ])
    where
      at_zero : coefficient f 0 ≡ coefficient 1ₚ 0
      at_zero = m.leading ∙ sym (coefficient-one-zero R D)

      at_suc : (i : ℕ) → coefficient f (suc i) ≡ coefficient 1ₚ (suc i)
      at_suc i = m.below.above (suc i) (omega arith) ∙ sym (coefficient-one-suc R D i)

  pub divisor-same-degree :
      Nontrivial R
      → {g f : Polynomial R D} {n : ℕ}
      → Monic g n
      → Monic f n
      → Divides (polynomials R D) g f
      → f ≡ g
  divisor-same-degree h {g} {n = n} a b d =
      let (k, e, m) = monic-divisor h a b d in
      let z : k ≡ 0 = omega arith in
      d.equation
      ∙ ap (λ q. q ⊠ g) (monic-degree-zero (subst (Monic d.quotient) z m))
      ∙ one-mul (polynomials R D) g

  pub divisors_equal :
      Nontrivial R
      → {g f : Polynomial R D} {m n : ℕ}
      → Monic g m
      → Monic f n
      → Divides (polynomials R D) g f
      → Divides (polynomials R D) f g
      → f ≡ g
  divisors_equal h {g} {f} {m} {n} a b d e =
      let l : m ≤ n = divisor-degree a (monic-degree h b) d in
      let r : n ≤ m = divisor-degree b (monic-degree h a) e in
      divisor-same-degree h (subst (Monic g) (ℕ.le_antisymm l r) a) b d

  pub divides-cancel :
      {f g h : Polynomial R D} {n : ℕ}
      → Monic f n
      → Divides (polynomials R D) (f ⊠ g) (f ⊠ h)
      → Divides (polynomials R D) g h
  divides-cancel {f} {g} {h} m d =
      record {
        quotient = d.quotient;
        equation = monic-cancel m (d.equation ∙ mul_left_comm (polynomials R D) d.quotient f g);
      }

-- Division by x: the remainder is the constant term.
module _ {K : Type 0} {R : Ring K} {D : Discrete K} where
  open R use {0#}
  open polynomials R D use {0# as 0ₚ, ◌⊕◌ as ◌⊞◌, ◌⊗◌ as ◌⊠◌}

  infixl 60 ◌⊞◌
  infixl 70 ◌⊠◌
  pub divide-x :
      (f : Polynomial R D)
      → (g : Polynomial R D) × (f ≡ constant R D (coefficient f 0) ⊞ X R D ⊠ g)
  divide-x = polynomial_induction R D _ (0ₚ, sym at_zero) (λ a f _. (f, at_next a f))
    where
      at_zero : constant R D (coefficient 0ₚ 0) ⊞ X R D ⊠ 0ₚ ≡ 0ₚ
      at_zero =
          ap₂
          ◌⊞◌
          (ap (constant R D) (coefficient-zero R D 0) ∙ (constant-polynomial-hom R D).zero)
          (mul-zero (polynomials R D) (X R D))
          ∙ (polynomials R D).add-zero 0ₚ

      at_next :
          (a : K) (f : Polynomial R D)
          → constant R D a ⊞ X R D ⊠ f
          ≡ constant R D (coefficient (constant R D a ⊞ X R D ⊠ f) 0) ⊞ X R D ⊠ f
      at_next a f = ap (λ c. constant R D c ⊞ X R D ⊠ f) (sym (coefficient-cons-zero a f))

  pub x-divides : (f : Polynomial R D) → coefficient f 0 ≡ 0# → Divides (polynomials R D) (X R D) f
  x-divides f z =
      let (g, e) = divide-x f in
      record {
        quotient = g;
        equation =
            e
            ∙ ap (λ u. u ⊞ X R D ⊠ g) (ap (constant R D) z ∙ (constant-polynomial-hom R D).zero)
            ∙ zero-add (polynomials R D) (X R D ⊠ g)
            ∙ (polynomials R D).mul_comm (X R D) g;
      }

  pub x-divides-constant : {f : Polynomial R D} → Divides (polynomials R D) (X R D) f → coefficient f 0 ≡ 0#
  x-divides-constant {f} d =
      ap (λ u. coefficient u 0) (d.equation ∙ (polynomials R D).mul_comm d.quotient (X R D))
      ∙ coefficient-x-mul-zero d.quotient

-- Over a field, by any polynomial other than 0.
module _ {K : Type 0} {R : Ring K} {D : Discrete K} (F : Field R) where
  open polynomials R D use {0# as 0ₚ, ◌⊕◌ as ◌⊞◌, ◌⊗◌ as ◌⊠◌}

  infixl 60 ◌⊞◌
  infixl 70 ◌⊠◌
  -- The monic multiple of g divides g.
  pub monic-scale-divides :
      {g : Polynomial R D} {n : ℕ}
      → Degree g n
      → Divides (polynomials R D) (scale (F.inverse (coefficient g n)) g) g
  monic-scale-divides {g} {n} d =
      record {
        quotient = constant R D (coefficient g n);
        equation = sym (scale-inverse F (coefficient g n) g d.leading);
      }

  pub field-divide : {g : Polynomial R D} {n : ℕ} → Degree g n → (f : Polynomial R D) → Division g f n
  field-divide {g} {n} d f =
      let e = divide (monic-scale F d) f in
      let c = constant R D (F.inverse (coefficient g n)) in
      record {
        quotient = e.quotient ⊠ c;
        remainder = e.remainder;
        equation =
            e.equation ∙ ap (λ u. u ⊞ e.remainder) (sym ((polynomials R D).mul_assoc e.quotient c g));
        small = e.small;
      }

  pub field-divides : (g f : Polynomial R D) → Dec (Divides (polynomials R D) g f)
  field-divides g f = elim (leading-term g) [
    | inl z ↦ by_zero z (polynomial_discrete f 0ₚ)
    | inr d ↦ by-degree d.1
  ]
    where
      by_zero : g ≡ 0ₚ → Dec (f ≡ 0ₚ) → Dec (Divides (polynomials R D) g f)
      by_zero z (yes e) = yes (rw e (multiples-ideal (polynomials R D) g).has_zero)
      by_zero z (no h) = no (λ d. h (zero-divides (polynomials R D) (rw z at d)))

      by-degree : {n : ℕ} → Degree g n → Dec (Divides (polynomials R D) g f)
      by-degree d = elim (divides-monic (monic-scale F d) f) [
        | yes e ↦ yes (divides_trans (polynomials R D) (divides-multiple (polynomials R D) _ g) e)
        | no h ↦ no (λ e. h (divides_trans (polynomials R D) (monic-scale-divides d) e))
      ]
