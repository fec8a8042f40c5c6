-- Irreducible polynomials as lists: what the search of `meaning` finds, and what trial division has to try.
--
--   Factorisation F f == two monic lists over F of positive degree that have the product f, with these two
--   Divisor F g f     == g times some monic list is f, with that list
--   reducible_factorisation, factorisation_reducible == f is not irreducible exactly where it has one
--   irreducible-poly, poly-irreducible == irreducible lists are the irreducible polynomials of `algebra`
--   irreducible-words, words-irreducible == they are those that are no product in the words of paper 01
--   irreducible-half, half-irreducible == irreducible: no monic list of positive degree, at most half that of
--                        f, divides f
--   divisor-constant  == x divides what a divisor with the constant term 0 divides, so that no other
--                        divisor with the constant term 0 need be tried: `irreducible_trial`,
--                        `constant_reducible`
--   irreducible-constant == an irreducible list other than x has a constant term other than 0, so that
--                        `irreducible-x` tells x by its constant term
--   Factors F fs      == monic irreducible lists of positive degree, no two of them equal
--   reducible_asked   == 12 of a factor that 10 and 11 let pass
--   accepted-factors  == monic factors that 10 to 13 let pass are so; `multiples-factors` says it of
--                        the multiples of factors, `accepted-different` where `accepted_factors` accepts
-- these
--   factors-atoms     == and their polynomials are coprime atoms
--
-- f is monic over F and its degree is at least 1 wherever it is asked.
-- Assumes nothing.
use Prim.Native.Nat.{ℕ, zero, suc, ◌+◌, ◌*◌, ◌-◌, ◌≤◌, ◌<◌}
use mathlib.Core.Path.{◌≡◌, refl, sym, ap, ap₂, subst, ◌∙◌}
use mathlib.Core.Logic.{◌≢◌}
use mathlib.Core.Bool.{Bool, true, false, not}
use mathlib.Core.List.{List, [], ◌∷◌, map}
use native.Mathlib.Nat.{not-suc-le-zero, le_of_suc-le-suc}
use native.Mathlib.Decide.{dec_le}
use native.Mathlib.Omega.{arith}
use lib.ListN.{length, get_or, length-map, get_or-map}
use lib.Dec.{T, eqb, T_not, eqb_refl, eqb→eq}
use Rattle.meaning.specs.Search.{range, holds_for_some}
use Rattle.meaning.specs.Field.{Field, are_elements}
use Rattle.meaning.specs.Polynomial.{Polynomial, degree, is_monic_over, plus, scale, times, monics, same}
use Rattle.meaning.specs.Polynomial.{has_factor_of, leading, irreducible, NotAProduct, monic_multiple}
use Rattle.meaning.specs.Power.{is_x}
use Rattle.meaning.specs.Conditions.{factor_degree_out_of_range, degree_out_of_range, not_monic}
use Rattle.meaning.specs.Conditions.{coefficient_out_of_range, is_asked, is_reducible, two_equal}
use Rattle.meaning.specs.Portion.{factors_of}
use Rattle.algebra.proofs.Rings.Ring.{zero-add}
use Rattle.algebra.proofs.Polynomials.Polynomial.{X, constant, constant-polynomial-hom}
use Rattle.algebra.proofs.Polynomials.Irreducible.{Reducible, Irreducible, irreducible-degrees}
use Rattle.algebra.proofs.Polynomials.Irreducible.{irreducible-constant-term, irreducibles-atoms}
use Rattle.algebra.proofs.Rings.PowerProduct.{CoprimeAtoms}
use Rattle.bridge.proofs.Basics.Searches.{T-same, T-decided, false-T, not-false, some-range}
use Rattle.bridge.proofs.Basics.Searches.{range-some, none-member, none-at, get_or-member}
use Rattle.bridge.proofs.Basics.Interpretation.{IsField, size-positive, mul-below, number-add-zero}
use Rattle.bridge.proofs.Basics.Interpretation.{number-zero-mul}
use Rattle.bridge.proofs.Lists.Multiples.{multiples-ten, multiples-eleven}
use Rattle.bridge.proofs.Lists.Polynomials.{poly_ring, poly, poly-times, monic-poly, monic-list}
use Rattle.bridge.proofs.Lists.Polynomials.{monic-equal, times-monic, degree-times, monic-nonempty}
use Rattle.bridge.proofs.Lists.Polynomials.{same-equal, equal-same, degree-poly, monic-elements}
use Rattle.bridge.proofs.Lists.Polynomials.{monic-leading, monic_over_lem, elements-cons, one-elements}
use Rattle.bridge.proofs.Lists.Polynomials.{list-equal, times-elements, length-times, poly-x}
use Rattle.bridge.proofs.Lists.Polynomials.{poly-cons, coefficient-poly, degree-length, monic-length}
use Rattle.bridge.proofs.Lists.Polynomials.{monic-last, elements_uncons, poly-nil}
use Rattle.bridge.proofs.Lists.Products.{times_comm, accepted-monic, MonicFactors, factor_at-factors_of}
use Rattle.bridge.proofs.Lists.Products.{polys, length-factors_of}
use Rattle.bridge.proofs.Lists.Monics.{some-monics, monics-some}

module _ (F : Field) where
  pub record Factorisation (f : Polynomial) : Type 0 where
    pub left : Polynomial
    pub right : Polynomial
    pub left-monic : T (is_monic_over F left)
    pub right-monic : T (is_monic_over F right)
    pub left-positive : 1 ≤ degree left
    pub right_positive : 1 ≤ degree right
    pub product : times F left right ≡ f

  abbrev pub Divisor : Polynomial → Polynomial → Type 0
  Divisor g f = (h : Polynomial) × T (is_monic_over F h) × (times F g h ≡ f)

pub degree-cons : (c : ℕ) (g : Polynomial) → degree (c ∷ g) ≡ length g
unfolding degree
degree-cons c g = omega arith

pub monic-tail :
    (F : Field) (c : ℕ) (g : Polynomial) → 0 < length g → T (is_monic_over F (c ∷ g)) → T (is_monic_over F g)
monic-tail F c g l m =
    monic_over_lem F g (degree g) (degree-length g l)
    (ap (λ n. get_or (c ∷ g) n 0) (sym (degree-cons c g ∙ degree-length g l)) ∙ monic-last F (c ∷ g) m)
    (elements_uncons F c g (monic-elements F (c ∷ g) m)).1

-- the test for the polynomial x
pub is_x-equal : (f : Polynomial) → T (is_x f) → f ≡ 0 ∷ 1 ∷ []
unfolding is_x
is_x-equal f h = same-equal f (0 ∷ 1 ∷ []) h

pub equal-is_x : {f : Polynomial} → f ≡ 0 ∷ 1 ∷ [] → T (is_x f)
unfolding is_x
equal-is_x e = equal-same e

module _ {F : Field} (I : IsField F) where
  -- The search finds a factorisation
  pub factorisation_degrees :
      {f : Polynomial} (x : Factorisation F f) → degree x.left + degree x.right ≡ degree f
  factorisation_degrees x =
      sym (degree-times I x.left x.right
      (monic-nonempty F x.left x.left-monic) (monic-nonempty F x.right x.right-monic))
      ∙ ap degree x.product

  has_factor_factorisation :
      (f : Polynomial) (a : ℕ) → 1 ≤ a → a < degree f → T (has_factor_of F f a) → Factorisation F f
  unfolding has_factor_of
  has_factor_factorisation f a l k p =
      let t : Polynomial → Polynomial → Bool = λ g h. same (times F g h) f in
      let (g, m, d, q) = some-monics I (λ g. holds_for_some (t g) (monics F (degree f - a))) a p in
      let (h, n, e, r) = some-monics I (t g) (degree f - a) q in
      record {
        left = g;
        right = h;
        left-monic = m;
        right-monic = n;
        left-positive = omega arith;
        right_positive = omega arith;
        product = same-equal (times F g h) f r;
      }

  factorisation_has_factor : {f : Polynomial} (x : Factorisation F f) → T (has_factor_of F f (degree x.left))
  unfolding has_factor_of
  factorisation_has_factor {f} x =
      let t : Polynomial → Polynomial → Bool = λ g h. same (times F g h) f in
      monics-some I (λ g. holds_for_some (t g) (monics F (degree f - degree x.left))) (degree x.left)
      x.left x.left-monic refl
      (monics-some I (t x.left) (degree f - degree x.left) x.right x.right-monic
      (omega (arith, factorisation_degrees x)) (equal-same x.product))

  not-not : (b : Bool) → ¬ T (not b) → T b
  not-not true h = tt
  not-not false h = absurd (h tt)

  pub reducible_factorisation : (f : Polynomial) → ¬ T (irreducible F f) → Factorisation F f
  unfolding irreducible
  reducible_factorisation f h =
      let (a, l, k, p) =
      some-range (has_factor_of F f) 1 (degree f - 1)
      (not-not (holds_for_some (has_factor_of F f) (range 1 (degree f - 1))) h) in
      has_factor_factorisation f a l (omega arith) p

  pub factorisation_reducible : {f : Polynomial} → Factorisation F f → ¬ T (irreducible F f)
  unfolding irreducible
  factorisation_reducible {f} x h =
      T_not (holds_for_some (has_factor_of F f) (range 1 (degree f - 1))) h
      (range-some (has_factor_of F f) 1 (degree f - 1) (degree x.left) x.left-positive
      (omega (arith, factorisation_degrees x, x.right_positive)) (factorisation_has_factor x))

  pub irreducible-without : (f : Polynomial) → ¬ Factorisation F f → T (irreducible F f)
  irreducible-without f h = elim (T-decided (irreducible F f)) [
    | yes i ↦ i
    | no n ↦ absurd (h (reducible_factorisation f n))
  ]

  -- Irreducible polynomials of algebra
  open poly_ring I use {◌⊕◌, ◌⊗◌}

  infixl 60 ◌⊕◌
  infixl 70 ◌⊗◌
  factorisation_poly : {f : Polynomial} → Factorisation F f → Reducible (poly I f)
  factorisation_poly x =
      record {
        left = poly I x.left;
        right = poly I x.right;
        left-degree = degree x.left;
        right-degree = degree x.right;
        left-positive = x.left-positive;
        right_positive = x.right_positive;
        left-monic = monic-poly I x.left x.left-monic;
        right-monic = monic-poly I x.right x.right-monic;
        product = sym (poly-times I x.left x.right) ∙ ap (poly I) x.product;
      }

  poly_factorisation : (f : Polynomial) → T (is_monic_over F f) → Reducible (poly I f) → Factorisation F f
  poly_factorisation f o r =
      let (g, m, d, e) = monic-list I r.left-monic in
      let (h, n, c, u) = monic-list I r.right-monic in
      record {
        left = g;
        right = h;
        left-monic = m;
        right-monic = n;
        left-positive = omega (arith, r.left-positive);
        right_positive = omega (arith, r.right_positive);
        product =
            monic-equal I (times F g h) f (times-monic I g h m n) o
            (poly-times I g h ∙ ap₂ ◌⊗◌ e u ∙ r.product);
      }

  pub irreducible-poly :
      (f : Polynomial)
      → T (is_monic_over F f)
      → 1 ≤ degree f
      → T (irreducible F f)
      → Irreducible (poly I f) (degree f)
  irreducible-poly f m l i =
      record {
        monic = monic-poly I f m;
        positive = l;
        no_factors = λ r. factorisation_reducible (poly_factorisation f m r) i;
      }

  pub poly-irreducible : (f : Polynomial) → Irreducible (poly I f) (degree f) → T (irreducible F f)
  poly-irreducible f i = irreducible-without f (λ x. i.no_factors (factorisation_poly x))

  -- Paper 01's words
  pub irreducible-words :
      (f : Polynomial) → T (is_monic_over F f) → 1 ≤ degree f → T (irreducible F f) → NotAProduct F f
  irreducible-words f m l i g h a b j k y z e =
      (irreducible-degrees I.field (monic-poly I f m) l).0 (irreducible-poly f m l i)
      (poly I g)
      (poly I h)
      (degree g)
      (degree h)
      j
      k
      (degree-poly I g a y)
      (degree-poly I h b z)
      (sym (poly-times I g h) ∙ ap (poly I) e)

  pub words-irreducible : (f : Polynomial) → NotAProduct F f → T (irreducible F f)
  words-irreducible f n =
      irreducible-without f
      (λ x.
      n x.left x.right
      (monic-elements F x.left x.left-monic)
      (monic-elements F x.right x.right-monic)
      x.left-positive
      x.right_positive
      (nonzero x.left x.left-monic)
      (nonzero x.right x.right-monic)
      x.product)
    where
      nonzero : (g : Polynomial) → T (is_monic_over F g) → leading g ≢ 0
      nonzero g m z = omega (arith, monic-leading F g m)

  -- Trial division
  pub divisor-degrees :
      (g f : Polynomial) → T (is_monic_over F g) → (d : Divisor F g f) → degree g + degree d.0 ≡ degree f
  divisor-degrees g f m (h, n, e) =
      sym (degree-times I g h (monic-nonempty F g m) (monic-nonempty F h n)) ∙ ap degree e

  pub divisor_reducible :
      (g f : Polynomial)
      → T (is_monic_over F g)
      → 1 ≤ degree g
      → degree g < degree f
      → Divisor F g f
      → ¬ T (irreducible F f)
  divisor_reducible g f m l k (h, n, e) =
      factorisation_reducible (
      record {
        left = g;
        right = h;
        left-monic = m;
        right-monic = n;
        left-positive = l;
        right_positive = omega (arith, divisor-degrees g f m (h, n, e));
        product = e;
      }
      )

  pub irreducible-half :
      (f : Polynomial)
      → T (irreducible F f)
      → (g : Polynomial)
      → T (is_monic_over F g)
      → 1 ≤ degree g
      → 2 * degree g ≤ degree f
      → ¬ Divisor F g f
  irreducible-half f i g m l k d = divisor_reducible g f m l (omega arith) d i

  -- a reducible list has a divisor of at most half its degree
  pub reducible_half :
      (f : Polynomial)
      → ¬ T (irreducible F f)
      → (g : Polynomial) × T (is_monic_over F g) × (1 ≤ degree g) × (2 * degree g ≤ degree f) × Divisor F g f
  reducible_half f i = go (reducible_factorisation f i)
    where
      swapped : (x : Factorisation F f) → times F x.right x.left ≡ f
      swapped x =
          times_comm I x.right x.left
          (monic-nonempty F x.right x.right-monic) (monic-nonempty F x.left x.left-monic)
          ∙ x.product

      go :
          Factorisation F f
          → (g : Polynomial)
          × T (is_monic_over F g)
          × (1 ≤ degree g)
          × (2 * degree g ≤ degree f)
          × Divisor F g f
      go x = elim (dec_le (degree x.left) (degree x.right)) [
        | yes l ↦ (
          x.left,
          x.left-monic,
          x.left-positive,
          omega (arith, factorisation_degrees x),
          (x.right, x.right-monic, x.product),
        )
        | no l ↦ (
          x.right,
          x.right-monic,
          x.right_positive,
          omega (arith, factorisation_degrees x),
          (x.left, x.left-monic, swapped x),
        )
      ]

  pub half-irreducible :
      (f : Polynomial)
      → ((g : Polynomial)
      → T (is_monic_over F g)
      → 1 ≤ degree g
      → 2 * degree g ≤ degree f
      → ¬ Divisor F g f)
      → T (irreducible F f)
  half-irreducible f none = elim (T-decided (irreducible F f)) [
    | yes i ↦ i
    | no n ↦ let (g, m, l, k, d) = reducible_half f n in absurd (none g m l k d)
  ]

  -- The polynomial x
  pub poly-zero-cons : (g : Polynomial) → poly I (0 ∷ g) ≡ X I.ring I.field.discrete ⊗ poly I g
  poly-zero-cons g =
      poly-cons I 0 g
      ∙ ap (λ u. u ⊕ X I.ring I.field.discrete ⊗ poly I g) nothing
      ∙ zero-add (poly_ring I) (X I.ring I.field.discrete ⊗ poly I g)
    where
      nothing : constant I.ring I.field.discrete (I.element 0) ≡ (poly_ring I).0#
      nothing =
          ap (constant I.ring I.field.discrete) I.element-zero
          ∙ (constant-polynomial-hom I.ring I.field.discrete).zero

  pub x-monic : T (is_monic_over F (0 ∷ 1 ∷ []))
  x-monic =
      monic_over_lem F (0 ∷ 1 ∷ []) 1 refl refl
      (elements-cons F (1 ∷ []) (size-positive I) (one-elements I))

  pub x-times : (g : Polynomial) → 0 < length g → T (are_elements F g) → times F (0 ∷ 1 ∷ []) g ≡ 0 ∷ g
  x-times g l h =
      list-equal I (times F (0 ∷ 1 ∷ []) g) (0 ∷ g)
      (times-elements I (0 ∷ 1 ∷ []) g)
      (elements-cons F g (size-positive I) h)
      (length-times I (0 ∷ 1 ∷ []) g (omega arith) l ∙ omega arith)
      (poly-times I (0 ∷ 1 ∷ []) g ∙ ap (λ u. u ⊗ poly I g) (poly-x I) ∙ sym (poly-zero-cons g))

  pub times-constant :
      (g h : Polynomial)
      → 0 < length g
      → 0 < length h
      → get_or (times F g h) 0 0 ≡ F.mul (get_or g 0 0) (get_or h 0 0)
  unfolding times plus scale
  times-constant [] h l k = absurd (omega arith)
  times-constant (a ∷ g) [] l k = absurd (omega arith)
  times-constant (a ∷ g) (b ∷ h) l k = number-add-zero I (mul-below I a b)

  -- a divisor with the constant term 0
  pub divisor-constant :
      (g f : Polynomial) → T (is_monic_over F g) → Divisor F g f → get_or g 0 0 ≡ 0 → get_or f 0 0 ≡ 0
  divisor-constant g f m (h, n, e) z =
      ap (λ u. get_or u 0 0) (sym e)
      ∙ times-constant g h (monic-nonempty F g m) (monic-nonempty F h n)
      ∙ ap (λ c. F.mul c (get_or h 0 0)) z
      ∙ number-zero-mul I (get_or h 0 0)

  pub constant-divisor :
      (f : Polynomial) → T (is_monic_over F f) → 1 ≤ degree f → get_or f 0 0 ≡ 0 → Divisor F (0 ∷ 1 ∷ []) f
  constant-divisor [] m l z = absurd (omega (arith, monic-length F [] m))
  constant-divisor (c ∷ g) m l z =
      let k : 0 < length g = subst (λ n. 1 ≤ n) (degree-cons c g) l in
      (g, monic-tail F c g k m, x-times g k tail-elements ∙ ap (λ c. c ∷ g) (sym z))
    where
      tail-elements : T (are_elements F g)
      tail-elements = (elements_uncons F c g (monic-elements F (c ∷ g) m)).1

  pub constant_reducible :
      (f : Polynomial) → T (is_monic_over F f) → 2 ≤ degree f → get_or f 0 0 ≡ 0 → ¬ T (irreducible F f)
  constant_reducible f m l z =
      divisor_reducible (0 ∷ 1 ∷ []) f x-monic (omega (arith, degree-cons 0 (1 ∷ [])))
      (omega (arith, degree-cons 0 (1 ∷ [])))
      (constant-divisor f m (omega arith) z)

  pub linear_irreducible : (f : Polynomial) → degree f ≡ 1 → T (irreducible F f)
  linear_irreducible f e = half-irreducible f (λ g m l k _. omega arith)

  pub irreducible-constant :
      (f : Polynomial)
      → T (is_monic_over F f)
      → 1 ≤ degree f
      → T (irreducible F f)
      → f ≢ (0 ∷ 1 ∷ [])
      → get_or f 0 0 ≢ 0
  irreducible-constant f m l i h z =
      irreducible-constant-term I.field.one_nonzero (irreducible-poly f m l i)
      (λ e. h (monic-equal I f (0 ∷ 1 ∷ []) m x-monic (e ∙ sym (poly-x I))))
      (coefficient-poly I f 0 ∙ ap I.element z ∙ I.element-zero)

  -- trial division by x and by divisors with a constant term other than 0
  pub irreducible_trial :
      (f : Polynomial)
      → T (is_monic_over F f)
      → get_or f 0 0 ≢ 0
      → ((g : Polynomial)
      → T (is_monic_over F g)
      → 1 ≤ degree g
      → 2 * degree g ≤ degree f
      → get_or g 0 0 ≢ 0
      → ¬ Divisor F g f)
      → T (irreducible F f)
  irreducible_trial f m z none =
      half-irreducible f (λ g n l k d. none g n l k (λ y. z (divisor-constant g f n d y)) d)

  pub irreducible-x : (f : Polynomial) → T (is_monic_over F f) → 1 ≤ degree f → T (irreducible F f)
      → is_x f ≡ eqb (get_or f 0 0) 0
  irreducible-x f m l i = T-same constant-zero is_x_lem
    where
      constant-zero : T (is_x f) → T (eqb (get_or f 0 0) 0)
      constant-zero h = subst (λ f. T (eqb (get_or f 0 0) 0)) (sym (is_x-equal f h)) (eqb_refl 0)

      is_x_lem : T (eqb (get_or f 0 0) 0) → T (is_x f)
      is_x_lem h = elim (T-decided (is_x f)) [
        | yes x ↦ x
        | no n ↦ absurd (irreducible-constant f m l i (λ e. n (equal-is_x e)) (eqb→eq (get_or f 0 0) 0 h))
      ]

-- Lists of factors
pub record Factors (F : Field) (fs : List Polynomial) : Type 0 where
  pub monic : (i : ℕ) → i < length fs → T (is_monic_over F (get_or fs i []))
  pub positive : (i : ℕ) → i < length fs → 1 ≤ degree (get_or fs i [])
  pub irreducibles : (i : ℕ) → i < length fs → T (irreducible F (get_or fs i []))
  pub different : (i j : ℕ) → i < j → j < length fs → get_or fs i [] ≢ get_or fs j []

-- no two equal
two_equal_uncons :
    (f : Polynomial) (fs : List Polynomial)
    → two_equal (f ∷ fs) ≡ false
    → (holds_for_some (same f) fs ≡ false) × (two_equal fs ≡ false)
unfolding two_equal
two_equal_uncons f fs h = go (holds_for_some (same f) fs) refl
  where
    go :
        (b : Bool)
        → holds_for_some (same f) fs ≡ b
        → (holds_for_some (same f) fs ≡ false) × (two_equal fs ≡ false)
    go true e = absurd (false-T (rw (e, two_equal) at h) tt)
    go false e = (e, (rw (e, two_equal) at h))

pub two_equal-different :
    (fs : List Polynomial)
    → two_equal fs ≡ false
    → (i j : ℕ)
    → i < j
    → j < length fs
    → get_or fs i [] ≢ get_or fs j []
two_equal-different [] h i j l k e = not-suc-le-zero k
two_equal-different (f ∷ fs) h i zero l k e = not-suc-le-zero l
two_equal-different (f ∷ fs) h zero (suc j) l k e =
    none-member (same f) fs (false-T (two_equal_uncons f fs h).0) (get_or fs j [])
    (get_or-member fs j [] (le_of_suc-le-suc k))
    (equal-same e)
two_equal-different (f ∷ fs) h (suc i) (suc j) l k e =
    two_equal-different fs (two_equal_uncons f fs h).1 i j (le_of_suc-le-suc l) (le_of_suc-le-suc k) e

-- a positive degree
degree-passed : (F : Field) (n : ℕ) → degree_out_of_range F n ≡ false → 1 ≤ n
unfolding degree_out_of_range
degree-passed F zero h = absurd (false-T h tt)
degree-passed F (suc n) h = omega arith

-- 10 of a list that is not empty
pub list-degree :
    (F : Field) (f : List ℕ)
    → (length f ≡ 0 → ⊥)
    → degree_out_of_range F (length f - 1) ≡ factor_degree_out_of_range F f
unfolding factor_degree_out_of_range degree
list-degree F [] h = absurd (h refl)
list-degree F (c ∷ f) h = refl

pub accepted-degree :
    (F : Field) (f : Polynomial) → 0 < length f → factor_degree_out_of_range F f ≡ false → 1 ≤ degree f
unfolding factor_degree_out_of_range
accepted-degree F [] l h = absurd (not-suc-le-zero l)
accepted-degree F (c ∷ f) l h = degree-passed F (degree (c ∷ f)) h

-- 12 of a factor that 10 and 11 let pass
module _ (F : Field) (f : Polynomial) where
  pub reducible_asked :
      factor_degree_out_of_range F f ≡ false
      → not_monic F f ≡ false
      → is_reducible F f ≡ not (irreducible F f)
  unfolding is_reducible is_asked
  reducible_asked ten eleven = rw (ten, eleven, is_reducible, is_asked)

  pub accepted-irreducible :
      factor_degree_out_of_range F f ≡ false
      → not_monic F f ≡ false
      → is_reducible F f ≡ false
      → T (irreducible F f)
  accepted-irreducible ten eleven twelve =
      not-false (irreducible F f) (sym (reducible_asked ten eleven) ∙ twelve)

pub accepted-factors :
    (F : Field) (fs : List Polynomial)
    → holds_for_some (factor_degree_out_of_range F) fs ≡ false
    → holds_for_some (not_monic F) fs ≡ false
    → holds_for_some (is_reducible F) fs ≡ false
    → two_equal fs ≡ false
    → Factors F fs
accepted-factors F fs ten eleven twelve thirteen =
    record {
      monic = monic-at;
      positive =
          λ i l.
          accepted-degree F (get_or fs i []) (monic-nonempty F (get_or fs i []) (monic-at i l))
          (passed (factor_degree_out_of_range F) ten i l);
      irreducibles =
          λ i l.
          accepted-irreducible F (get_or fs i []) (passed (factor_degree_out_of_range F) ten i l)
          (passed (not_monic F) eleven i l)
          (passed (is_reducible F) twelve i l);
      different = two_equal-different fs thirteen;
    }
  where
    passed :
        (t : Polynomial → Bool)
        → holds_for_some t fs ≡ false
        → (i : ℕ)
        → i < length fs
        → t (get_or fs i []) ≡ false
    passed t e i l = none-at t [] fs i e l

    monic-at : (i : ℕ) → i < length fs → T (is_monic_over F (get_or fs i []))
    monic-at i l = accepted-monic F (get_or fs i []) (passed (not_monic F) eleven i l)

-- factors whose multiples 12 and 13 let pass, where 10 and 11 let the factors pass
pub multiples-factors :
    {F : Field} (I : IsField F) (fs : List Polynomial)
    → holds_for_some (factor_degree_out_of_range F) fs ≡ false
    → holds_for_some (coefficient_out_of_range F) fs ≡ false
    → holds_for_some (is_reducible F) (map (monic_multiple F) fs) ≡ false
    → two_equal (map (monic_multiple F) fs) ≡ false
    → Factors F (map (monic_multiple F) fs)
multiples-factors {F} I fs ten eleven twelve thirteen =
    accepted-factors F (map (monic_multiple F) fs) (multiples-ten I fs eleven ten)
    (multiples-eleven I fs eleven) twelve thirteen

pub single-factor :
    (F : Field) (f : Polynomial)
    → T (is_monic_over F f)
    → 1 ≤ degree f
    → T (irreducible F f)
    → Factors F (f ∷ [])
single-factor F f m l i =
    record {
      monic = only (λ g. T (is_monic_over F g)) m;
      positive = only (λ g. 1 ≤ degree g) l;
      irreducibles = only (λ g. T (irreducible F g)) i;
      different = λ i j k l. absurd (omega arith);
    }
  where
    only : (P : Polynomial → Type 0) → P f → (i : ℕ) → i < 1 → P (get_or (f ∷ []) i [])
    only P h zero l = h
    only P h (suc i) l = absurd (omega arith)

module _ {F : Field} (I : IsField F) where
  pub factors-atoms :
      (fs : List Polynomial) → Factors F fs → CoprimeAtoms (poly_ring I) (map (poly I) fs)
  factors-atoms fs x =
      irreducibles-atoms I.field (map (poly I) fs) (λ i. degree (get_or fs i []))
      (λ i l.
      subst (λ p. Irreducible p (degree (get_or fs i []))) (sym (at i))
      (irreducible-at i (subst (λ n. i < n) (length-map fs (poly I)) l)))
      (λ i j k l e.
      different-at i j k (subst (λ n. j < n) (length-map fs (poly I)) l) (sym (at i) ∙ e ∙ at j))
    where
      at : (i : ℕ) → get_or (map (poly I) fs) i (poly_ring I).0# ≡ poly I (get_or fs i [])
      at i = ap (get_or (map (poly I) fs) i) (sym (poly-nil I)) ∙ get_or-map (poly I) fs i []

      irreducible-at : (i : ℕ) → i < length fs → Irreducible (poly I (get_or fs i []))
          (degree (get_or fs i []))
      irreducible-at i l =
          irreducible-poly I (get_or fs i []) (x.monic i l) (x.positive i l) (x.irreducibles i l)

      different-at :
          (i j : ℕ) → i < j → j < length fs → ¬ (poly I (get_or fs i []) ≡ poly I (get_or fs j []))
      different-at i j k l e =
          x.different i j k l
          (monic-equal I (get_or fs i []) (get_or fs j []) (x.monic i (omega arith)) (x.monic j l) e)

  -- the factors of a list of pairs
  pub pairs-atoms :
      (l : List (Polynomial × ℕ)) → Factors F (factors_of l) → CoprimeAtoms (poly_ring I) (polys I l)
  unfolding factors_of
  pairs-atoms l x = subst (CoprimeAtoms (poly_ring I)) (map-polys l) (factors-atoms (factors_of l) x)
    where
      map-polys : (l : List (Polynomial × ℕ)) → map (poly I) (map (λ f. f.0) l) ≡ polys I l
      map-polys [] = refl
      map-polys (f ∷ l) = ap (◌∷◌ (poly I f.0)) (map-polys l)

  pub factors-monics : (l : List (Polynomial × ℕ)) → Factors F (factors_of l) → MonicFactors F l
  factors-monics l x i k =
      subst (λ f. T (is_monic_over F f)) (factor_at-factors_of l i) (x.monic i (rw length-factors_of k))
