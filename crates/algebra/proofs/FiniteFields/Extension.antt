-- The remainders modulo an irreducible polynomial: a field.
--
--   Rest f n      == the polynomials below n
--   rest m h      == the remainder of h modulo f, which m shows to be monic of degree n
--   rest_ring m    == they form a ring, of which `rest` is a homomorphism (`rest-hom`)
--   rest_field F i == where f is irreducible over a field, a field
--
-- Assumes nothing.
use mathlib.Core.Path.{◌≡◌, refl, sym, ap, ap₂, subst, ◌∙◌}
use mathlib.Core.HLevel.{Σ_prop_path, hedberg}
use mathlib.Core.Logic.{◌⊎◌, inl, inr}
use Prim.Native.Nat.{ℕ}
use native.Mathlib.Omega.{arith}
use Rattle.algebra.proofs.Rings.Ring.{Ring, Field, Hom, eq_of_sub-zero, sub-unique}
use Rattle.algebra.proofs.Rings.Solver.{solve, ◌:=◌, ◌:+◌, ◌:*◌, :-◌, :0}
use Rattle.algebra.proofs.Rings.Ideal.{Divides, Coprime, multiples-ideal, congruent-refl}
use Rattle.algebra.proofs.Rings.Ideal.{congruent_sym}
use Rattle.algebra.proofs.Rings.Ideal.{congruent_trans, congruent-mul, Ideal, neg-member}
use Rattle.algebra.proofs.Polynomials.Polynomial.{Polynomial, polynomials, polynomial_discrete, Below}
use Rattle.algebra.proofs.Polynomials.Monic.{Monic, below-add, below-neg, monic-one, monic-degree}
use Rattle.algebra.proofs.Polynomials.Division.{divide, divides-below, divisor-degree}
use Rattle.algebra.proofs.Polynomials.Irreducible.{Irreducible, irreducible-atom}

-- Operations onto which a map carries those of a ring
module _
    {K L : Type 0} (R : Ring K) (set : IsSet L) (φ : K → L) (back : L → K)
    (onto : (a : L) → φ (back a) ≡ a) (zero one : L) (add mul : L → L → L) (neg : L → L)
    (φ-zero : φ R.0# ≡ zero) (φ-one : φ R.1# ≡ one)
    (φ-add : (a b : K) → φ (R.◌⊕◌ a b) ≡ add (φ a) (φ b))
    (φ-mul : (a b : K) → φ (R.◌⊗◌ a b) ≡ mul (φ a) (φ b)) (φ-neg : (a : K) → φ (R.⊖◌ a) ≡ neg (φ a))
  where
    open R use {◌⊕◌, ◌⊗◌, ⊖◌}

    infixl 60 ◌⊕◌
    infixl 70 ◌⊗◌
    infix 80 ⊖◌
    pub one_place : (P : L → Type 0) → ((x : K) → P (φ x)) → (a : L) → P a
    one_place P h a = subst P (onto a) (h (back a))

    pub two-places : (P : L → L → Type 0) → ((x y : K) → P (φ x) (φ y)) → (a b : L) → P a b
    two-places P h a b = one_place (λ a. P a b) (λ x. one_place (P (φ x)) (h x) b) a

    pub three-places : (P : L → L → L → Type 0) → ((x y z : K) → P (φ x) (φ y) (φ z)) → (a b c : L) → P a b c
    three-places P h a b c = one_place (λ a. P a b c) (λ x. two-places (P (φ x)) (h x) b c) a

    unfoldable pub image : Ring L
    image =
        record {
          is_set = set;
          0# = zero;
          1# = one;
          ◌⊕◌ = add;
          ◌⊗◌ = mul;
          ⊖◌ = neg;
          add_assoc =
              three-places (λ a b c. add (add a b) c ≡ add a (add b c))
              (λ x y z.
              ap (λ u. add u (φ z)) (sym (φ-add x y))
              ∙ sym (φ-add (x ⊕ y) z)
              ∙ ap φ (R.add_assoc x y z)
              ∙ φ-add x (y ⊕ z)
              ∙ ap (add (φ x)) (φ-add y z));
          add_comm =
              two-places (λ a b. add a b ≡ add b a)
              (λ x y. sym (φ-add x y) ∙ ap φ (R.add_comm x y) ∙ φ-add y x);
          add-zero =
              one_place (λ a. add a zero ≡ a)
              (λ x. ap (add (φ x)) (sym φ-zero) ∙ sym (φ-add x R.0#) ∙ ap φ (R.add-zero x));
          add_neg =
              one_place (λ a. add a (neg a) ≡ zero)
              (λ x.
              ap (add (φ x)) (sym (φ-neg x)) ∙ sym (φ-add x (⊖ x)) ∙ ap φ (R.add_neg x) ∙ φ-zero);
          mul_assoc =
              three-places (λ a b c. mul (mul a b) c ≡ mul a (mul b c))
              (λ x y z.
              ap (λ u. mul u (φ z)) (sym (φ-mul x y))
              ∙ sym (φ-mul (x ⊗ y) z)
              ∙ ap φ (R.mul_assoc x y z)
              ∙ φ-mul x (y ⊗ z)
              ∙ ap (mul (φ x)) (φ-mul y z));
          mul_comm =
              two-places (λ a b. mul a b ≡ mul b a)
              (λ x y. sym (φ-mul x y) ∙ ap φ (R.mul_comm x y) ∙ φ-mul y x);
          mul-one =
              one_place (λ a. mul a one ≡ a)
              (λ x. ap (mul (φ x)) (sym φ-one) ∙ sym (φ-mul x R.1#) ∙ ap φ (R.mul-one x));
          mul-add =
              three-places (λ a b c. mul a (add b c) ≡ add (mul a b) (mul a c))
              (λ x y z.
              ap (mul (φ x)) (sym (φ-add y z))
              ∙ sym (φ-mul x (y ⊕ z))
              ∙ ap φ (R.mul-add x y z)
              ∙ φ-add (x ⊗ y) (x ⊗ z)
              ∙ ap₂ add (φ-mul x y) (φ-mul x z));
        }

below_prop : {K : Type 0} {R : Ring K} {D : Discrete K} (f : Polynomial R D) (n : ℕ) → IsProp (Below f n)
below_prop {R = R} f n b c = λ i. record { above = λ j l. R.is_set _ _ (b.above j l) (c.above j l) i }

abbrev pub Rest : {K : Type 0} (R : Ring K) (D : Discrete K) → ℕ → Type 0
Rest R D n = (h : Polynomial R D) × Below h n

module _ {K : Type 0} {R : Ring K} {D : Discrete K} {n : ℕ} where
  pub rest_path : {a b : Rest R D n} → a.0 ≡ b.0 → a ≡ b
  rest_path e = Σ_prop_path (λ h. below_prop h n) e

  pub rest_discrete : Discrete (Rest R D n)
  rest_discrete a b = elim (polynomial_discrete a.0 b.0) [
    | yes e ↦ yes (rest_path e)
    | no h ↦ no (λ e. h (ap (λ c. c.0) e))
  ]

module _ {K : Type 0} {R : Ring K} {D : Discrete K} {f : Polynomial R D} {n : ℕ} (m : Monic f n) where
  open polynomials R D use {0# as 0ₚ, 1# as 1ₚ, ◌⊕◌ as ◌⊞◌, ◌⊗◌ as ◌⊠◌, ⊖◌ as ⊟◌}

  infixl 60 ◌⊞◌
  infixl 70 ◌⊠◌
  infix 80 ⊟◌
  abbrev P : Ring (Polynomial R D)
  P = polynomials R D

  abbrev ideal : Ideal P (Divides P f)
  ideal = multiples-ideal P f

  unfoldable pub rest : Polynomial R D → Rest R D n
  rest h = ((divide m h).remainder, (divide m h).small)

  -- remainders that are congruent are equal
  pub rest-equal : {a b : Rest R D n} → Divides P f (a.0 ⊞ ⊟ b.0) → a ≡ b
  rest-equal {a} {b} d =
      rest_path (eq_of_sub-zero P (divides-below m d (below-add a.1 (below-neg b.1))))

  pub rest-congruent : (h : Polynomial R D) → Divides P f (h ⊞ ⊟ (rest h).0)
  unfolding rest
  rest-congruent h =
      record {
        quotient = (divide m h).quotient;
        equation = sym (sub-unique P (sym (divide m h).equation));
      }

  pub rest-same : (a b : Polynomial R D) → Divides P f (a ⊞ ⊟ b) → rest a ≡ rest b
  rest-same a b d =
      rest-equal
      (congruent_trans P ideal (congruent_sym P ideal (rest-congruent a))
      (congruent_trans P ideal d (rest-congruent b)))

  pub rest_self : (a : Rest R D n) → rest a.0 ≡ a
  rest_self a = rest-equal (congruent_sym P ideal (rest-congruent a.0))

  pub sum-congruent :
      (a b c d : Polynomial R D)
      → Divides P f (a ⊞ ⊟ b)
      → Divides P f (c ⊞ ⊟ d)
      → Divides P f (a ⊞ c ⊞ ⊟ (b ⊞ d))
  sum-congruent a b c d x y =
      subst (Divides P f)
      (solve P 4 (λ a b c d. a :+ :- b :+ (c :+ :- d) := a :+ c :+ :- (b :+ d)) refl a b c d)
      (ideal.sum x y)

  pub neg-congruent : (a b : Polynomial R D) → Divides P f (a ⊞ ⊟ b) → Divides P f (⊟ a ⊞ ⊟ (⊟ b))
  neg-congruent a b x =
      subst (Divides P f) (solve P 2 (λ a b. :- (a :+ :- b) := :- a :+ :- (:- b)) refl a b)
      (neg-member P ideal x)

  pub sum-rest : (a b : Polynomial R D) → rest (a ⊞ b) ≡ rest ((rest a).0 ⊞ (rest b).0)
  sum-rest a b =
      rest-same (a ⊞ b) ((rest a).0 ⊞ (rest b).0)
      (sum-congruent a (rest a).0 b (rest b).0 (rest-congruent a) (rest-congruent b))

  pub mul-rest : (a b : Polynomial R D) → rest (a ⊠ b) ≡ rest ((rest a).0 ⊠ (rest b).0)
  mul-rest a b =
      rest-same (a ⊠ b) ((rest a).0 ⊠ (rest b).0)
      (congruent-mul P ideal (rest-congruent a) (rest-congruent b))

  pub neg-rest : (a : Polynomial R D) → rest (⊟ a) ≡ rest (⊟ (rest a).0)
  neg-rest a = rest-same (⊟ a) (⊟ (rest a).0) (neg-congruent a (rest a).0 (rest-congruent a))

  unfoldable pub rest_ring : Ring (Rest R D n)
  rest_ring =
      image P (hedberg rest_discrete) rest (λ a. a.0) rest_self (rest 0ₚ) (rest 1ₚ)
      (λ a b. rest (a.0 ⊞ b.0))
      (λ a b. rest (a.0 ⊠ b.0))
      (λ a. rest (⊟ a.0))
      refl
      refl
      sum-rest mul-rest neg-rest

  pub rest-hom : Hom P rest_ring rest
  unfolding rest_ring image
  rest-hom =
      record {
        zero = refl;
        one = refl;
        add = sum-rest;
        mul = mul-rest;
        neg = neg-rest;
      }

module _ {K : Type 0} {R : Ring K} {D : Discrete K} (F : Field R) {f : Polynomial R D} {n : ℕ}
    (i : Irreducible f n) where
  open polynomials R D use {0# as 0ₚ, 1# as 1ₚ, ◌⊕◌ as ◌⊞◌, ◌⊗◌ as ◌⊠◌, ⊖◌ as ⊟◌}
  open rest_ring i.monic use {0#, 1#, ◌⊗◌}

  infixl 60 ◌⊞◌
  infixl 70 ◌⊠◌ ◌⊗◌
  infix 80 ⊟◌
  abbrev Q : Ring (Polynomial R D)
  Q = polynomials R D

  inverse_of : (a : Rest R D n) → Divides Q f a.0 ⊎ Coprime Q f a.0 → Rest R D n
  inverse_of a (inl d) = a
  inverse_of a (inr p) = rest i.monic p.right

  inverse-right :
      (a : Rest R D n) (x : Divides Q f a.0 ⊎ Coprime Q f a.0)
      → ¬ (a ≡ 0#)
      → a ⊗ inverse_of a x ≡ 1#
  unfolding rest_ring image inverse_of
  inverse-right a (inl d) h = absurd (h (zero ∙ ap (rest i.monic) (divides-below i.monic d a.1)))
    where
      zero : a ≡ rest i.monic a.0
      zero = sym (rest_self i.monic a)
  inverse-right a (inr p) h =
      rest-same i.monic (a.0 ⊠ (rest i.monic p.right).0) 1ₚ
      (congruent_trans Q (multiples-ideal Q f)
      (congruent-mul Q (multiples-ideal Q f) (congruent-refl Q (multiples-ideal Q f) a.0)
      (congruent_sym Q (multiples-ideal Q f) (rest-congruent i.monic p.right)))
      unit)
    where
      unit : Divides Q f (a.0 ⊠ p.right ⊞ ⊟ 1ₚ)
      unit =
          record {
            quotient = ⊟ p.left;
            equation =
                ap (λ u. a.0 ⊠ p.right ⊞ ⊟ u) (sym p.bezout)
                ∙ solve Q 4 (λ a l r f. a :* r :+ :- (l :* f :+ r :* a) := :- l :* f) refl
                a.0 p.left p.right f;
          }

  pub rest_field : Field (rest_ring i.monic)
  unfolding rest_ring image
  rest_field =
      record {
        discrete = rest_discrete;
        inverse = λ a. inverse_of a (irreducible-atom F i a.0);
        one_nonzero = λ e. nonzero e;
        mul_inverse = λ a h. inverse-right a (irreducible-atom F i a.0) h;
      }
    where
      nonzero : ¬ (rest i.monic 1ₚ ≡ rest i.monic 0ₚ)
      nonzero e =
          let d =
          congruent_trans Q (multiples-ideal Q f) (rest-congruent i.monic 1ₚ)
          (subst (λ (u : Rest R D n). Divides Q f (u.0 ⊞ ⊟ 0ₚ)) (sym e)
          (congruent_sym Q (multiples-ideal Q f) (rest-congruent i.monic 0ₚ))) in
          let w = subst (Divides Q f) (solve Q 1 (λ a. a :+ :- :0 := a) refl 1ₚ) d in
          let z = divisor-degree i.monic (monic-degree F.one_nonzero (monic-one R D)) w in
          omega (arith, i.positive)
