-- Lists of numbers as polynomials of `algebra`: sums, products, lengths, monic lists.
--
--   Poly I         == the polynomials of `algebra` over the field that F is
--   poly I f       == the polynomial whose coefficients the numbers of the list f stand for
--   list I h       == the list of numbers of a polynomial h: its coefficients up to the last that is not 0
--   append-elements, drop-elements, set-elements, zeros-elements == parts of lists have elements for numbers
--   poly-plus, poly-scale, poly-times, poly-one == operations on lists are those of polynomials; no condition
--   poly-append    == a joined list: the second stands higher by the length of the first
--   times-elements == products of any two lists have elements of F alone for numbers
--   length-times, degree-times == the product of lists that are not empty
--   monic-length, monic-last, monic-elements, monic_over_lem == `is_monic_over` in words, and back
--   leading_length, leading-elements, leading-monic == a list of elements with the leading 1 after it
--   monic-poly     == a monic list is a monic polynomial of the list's degree
--   list-equal     == lists of elements of one length with the same polynomial are equal
--   monic-equal    == monic lists with the same polynomial are equal
--   monic-list     == each monic polynomial of degree n is that of a monic list of degree n
--   same-equal, equal-same == the test `same` of `meaning` is equality
--
-- A list that is not empty is said by `0 < length f`.
-- Assumes nothing.
use Prim.Native.Nat.{ℕ, zero, suc, ◌+◌, ◌-◌, ◌<◌, suc-le-suc, max}
use mathlib.Core.Path.{◌≡◌, refl, sym, ap, ap₂, subst, ◌∙◌}
use mathlib.Core.Logic.{◌≢◌}
use mathlib.Core.Bool.{Bool, true, false}
use mathlib.Core.List.{List, [], ◌∷◌, ◌++◌, map}
use native.Mathlib.Nat.{not-suc-le-zero, le_of_suc-le-suc}
use native.Mathlib.Omega.{arith}
use lib.ListN.{length, get_or, drop, set, replicate, length-append, length-map, get_or-map}
use lib.ListN.{get_or-eq_default}
use lib.Seq.{ext_get_or, get_or-append_seam}
use lib.Dec.{T, eqb, ltb→lt, lt→ltb, eqb→eq, eqb_refl}
use Rattle.meaning.specs.Field.{Field, is_element, are_elements}
use Rattle.meaning.specs.Polynomial.{Polynomial, degree, leading, is_monic, is_monic_over, plus, scale, times}
use Rattle.meaning.specs.Polynomial.{same}
use Rattle.algebra.proofs.Rings.Ring.{Ring}
use Rattle.algebra.proofs.Rings.Solver.{solve, ◌:=◌, ◌:+◌, ◌:*◌, :0, :1}
use Rattle.algebra.proofs.Rings.Power.{power, power_zero, power-suc-left}
use Rattle.algebra.proofs.Polynomials.Series.{coefficient-list, list-plus, list-scale, list-times}
use Rattle.algebra.proofs.Polynomials.Series.{list-times-length}
use Rattle.algebra.proofs.Polynomials.Series.{list-plus-length}
use Rattle.algebra.proofs.Polynomials.Polynomial.{Polynomial as AlgebraPolynomial, polynomials, from_list}
use Rattle.algebra.proofs.Polynomials.Polynomial.{coefficient}
use Rattle.algebra.proofs.Polynomials.Polynomial.{Below}
use Rattle.algebra.proofs.Polynomials.Polynomial.{coefficient-from_list, from_list-nil, from_list-plus}
use Rattle.algebra.proofs.Polynomials.Polynomial.{from_list-times}
use Rattle.algebra.proofs.Polynomials.Polynomial.{from_list-scale, from_list_to_list, constant-polynomial-hom}
use Rattle.algebra.proofs.Polynomials.Polynomial.{constant}
use Rattle.algebra.proofs.Polynomials.Polynomial.{from_list-cons, X}
use Rattle.algebra.proofs.Polynomials.Polynomial.{scale as algebra-scale}
use Rattle.algebra.proofs.Polynomials.Monic.{Monic, MonicList, Degree, monic-from_list, monic-unique}
use Rattle.algebra.proofs.Polynomials.Monic.{monic_to_list}
use Rattle.algebra.proofs.Polynomials.Monic.{monic-mul}
use Rattle.bridge.proofs.Basics.Searches.{T_true, true-T, T_and, and_T, all_nil, all_cons, all_uncons}
use Rattle.bridge.proofs.Basics.Interpretation.{IsField, element_injective, element-add, element-mul}
use Rattle.bridge.proofs.Basics.Interpretation.{add-below, mul-below, size-positive, size-two}
use Rattle.bridge.proofs.Basics.Interpretation.{element-nonzero}

-- Elements
module _ (F : Field) where
  pub is_element-below : (a : ℕ) → T (is_element F a) → a < F.size
  unfolding is_element
  is_element-below a h = ltb→lt a F.size h

  pub below-is_element : {a : ℕ} → a < F.size → T (is_element F a)
  unfolding is_element
  below-is_element {a} l = lt→ltb a F.size l

  pub elements-nil : T (are_elements F [])
  unfolding are_elements
  elements-nil = all_nil (is_element F)

  pub elements-cons : {a : ℕ} (f : List ℕ) → a < F.size → T (are_elements F f) → T (are_elements F (a ∷ f))
  unfolding are_elements
  elements-cons {a} f l h = all_cons (is_element F) a f (below-is_element l) h

  pub elements_uncons : (a : ℕ) (f : List ℕ) → T (are_elements F (a ∷ f)) → (a < F.size) × T
      (are_elements F f)
  unfolding are_elements
  elements_uncons a f h =
      let (l, hs) = all_uncons (is_element F) a f h in
      (is_element-below a l, hs)

  -- by places
  pub elements-get_or : (f : List ℕ) → T (are_elements F f) → (i : ℕ) → i < length f → get_or f i 0 < F.size
  elements-get_or [] h i l = absurd (not-suc-le-zero l)
  elements-get_or (a ∷ f) h zero l = (elements_uncons a f h).0
  elements-get_or (a ∷ f) h (suc i) l = elements-get_or f (elements_uncons a f h).1 i (le_of_suc-le-suc l)

  pub get_or-elements : (f : List ℕ) → ((i : ℕ) → i < length f → get_or f i 0 < F.size) → T (are_elements F f)
  get_or-elements [] h = elements-nil
  get_or-elements (a ∷ f) h =
      elements-cons f (h 0 (omega arith)) (get_or-elements f (λ i l. h (suc i) (suc-le-suc l)))

  pub append-elements :
      (f g : List ℕ) → T (are_elements F f) → T (are_elements F g) → T (are_elements F (f ++ g))
  append-elements [] g h k = k
  append-elements (a ∷ f) g h k =
      let (l, m) = elements_uncons a f h in elements-cons (f ++ g) l (append-elements f g m k)

  pub drop-elements : (n : ℕ) (f : List ℕ) → T (are_elements F f) → T (are_elements F (drop n f))
  drop-elements zero f h = h
  drop-elements (suc n) [] h = h
  drop-elements (suc n) (a ∷ f) h = drop-elements n f (elements_uncons a f h).1

  pub set-elements :
      (f : List ℕ) (i c : ℕ) → c < F.size → T (are_elements F f) → T (are_elements F (set f i c))
  set-elements [] i c l h = h
  set-elements (a ∷ f) zero c l h = elements-cons f l (elements_uncons a f h).1
  set-elements (a ∷ f) (suc i) c l h =
      let (k, m) = elements_uncons a f h in elements-cons (set f i c) k (set-elements f i c l m)

pub zeros-elements : {F : Field} (I : IsField F) (n : ℕ) → T (are_elements F (replicate n 0))
zeros-elements {F} I zero = elements-nil F
zeros-elements {F} I (suc n) = elements-cons F (replicate n 0) (size-positive I) (zeros-elements I n)

-- Lists as polynomials
module _ {F : Field} (I : IsField F) where
  open I use {K, ring, field, value, element}
  open ring use {0#, 1#, ◌⊕◌, ◌⊗◌}

  infixl 60 ◌⊕◌
  infixl 70 ◌⊗◌
  abbrev pub Poly : Type 0
  Poly = AlgebraPolynomial ring field.discrete

  abbrev pub poly_ring : Ring Poly
  poly_ring = polynomials ring field.discrete

  unfoldable pub poly : List ℕ → Poly
  poly f = from_list ring field.discrete (map element f)

  -- a list of numbers as a list of elements, by places
  pub get_or-map-element : (f : List ℕ) (n : ℕ) → coefficient-list ring (map element f) n ≡ element
      (get_or f n 0)
  get_or-map-element f n =
      ap (get_or (map element f) n) (sym I.element-zero) ∙ get_or-map element f n 0

  pub coefficient-poly : (f : List ℕ) (n : ℕ) → coefficient (poly f) n ≡ element (get_or f n 0)
  unfolding poly
  coefficient-poly f n =
      ap (λ u. u n) (coefficient-from_list ring field.discrete (map element f)) ∙ get_or-map-element f n

  pub poly-below : (f : List ℕ) → Below (poly f) (length f)
  poly-below f =
      record {
        above = λ i l. coefficient-poly f i ∙ ap element (get_or-eq_default f 0 l) ∙ I.element-zero;
      }

  -- Operations on lists of numbers are those on lists of elements
  pub map-plus :
      (f g : List ℕ) → map element (plus F f g) ≡ list-plus ring (map element f) (map element g)
  unfolding plus list-plus
  map-plus [] g = refl
  map-plus (a ∷ f) [] = refl
  map-plus (a ∷ f) (b ∷ g) = ap₂ ◌∷◌ (element-add I a b) (map-plus f g)

  pub map-scale :
      (c : ℕ) (f : List ℕ) → map element (scale F c f) ≡ list-scale ring (element c) (map element f)
  unfolding scale list-scale
  map-scale c [] = refl
  map-scale c (a ∷ f) = ap₂ ◌∷◌ (element-mul I c a) (map-scale c f)

  pub map-times :
      (f g : List ℕ) → map element (times F f g) ≡ list-times ring (map element f) (map element g)
  unfolding times list-times
  map-times [] g = refl
  map-times (a ∷ f) g =
      map-plus (scale F a g) (0 ∷ times F f g)
      ∙ ap₂ (list-plus ring) (map-scale a g) (ap₂ ◌∷◌ I.element-zero (map-times f g))

  open poly_ring use {0# as 0ₚ, 1# as 1ₚ, ◌⊕◌ as ◌⊞◌, ◌⊗◌ as ◌⊠◌}

  infixl 60 ◌⊞◌
  infixl 70 ◌⊠◌
  pub poly-nil : poly [] ≡ 0ₚ
  unfolding poly
  poly-nil = from_list-nil ring field.discrete

  pub poly-plus : (f g : List ℕ) → poly (plus F f g) ≡ poly f ⊞ poly g
  unfolding poly
  poly-plus f g =
      ap (from_list ring field.discrete) (map-plus f g)
      ∙ from_list-plus ring field.discrete (map element f) (map element g)

  pub poly-scale : (c : ℕ) (f : List ℕ) → poly (scale F c f) ≡ algebra-scale (element c) (poly f)
  unfolding poly
  poly-scale c f =
      ap (from_list ring field.discrete) (map-scale c f)
      ∙ from_list-scale ring field.discrete (element c) (map element f)

  pub poly-times : (f g : List ℕ) → poly (times F f g) ≡ poly f ⊠ poly g
  unfolding poly
  poly-times f g =
      ap (from_list ring field.discrete) (map-times f g)
      ∙ from_list-times ring field.discrete (map element f) (map element g)

  pub poly-constant : (c : ℕ) → poly (c ∷ []) ≡ constant ring field.discrete (element c)
  unfolding poly constant
  poly-constant c = refl

  pub poly-cons :
      (a : ℕ) (f : List ℕ)
      → poly (a ∷ f) ≡ constant ring field.discrete (element a) ⊞ X ring field.discrete ⊠ poly f
  unfolding poly
  poly-cons a f = from_list-cons ring field.discrete (element a) (map element f)

  pub poly-append :
      (f g : List ℕ)
      → poly (f ++ g) ≡ poly f ⊞ power poly_ring (X ring field.discrete) (length f) ⊠ poly g
  poly-append [] g =
      solve poly_ring 1 (λ g. g := :0 :+ :1 :* g) refl (poly g)
      ∙ ap₂ (λ u v. u ⊞ v ⊠ poly g) (sym poly-nil) (sym (power_zero poly_ring (X ring field.discrete)))
  poly-append (a ∷ f) g =
      poly-cons a (f ++ g)
      ∙ ap (λ u. constant ring field.discrete (element a) ⊞ X ring field.discrete ⊠ u) (poly-append f g)
      ∙ solve poly_ring 5 (λ a x f n g. a :+ x :* (f :+ n :* g) := a :+ x :* f :+ x :* n :* g) refl
      (constant ring field.discrete (element a)) (X ring field.discrete) (poly f)
      (power poly_ring (X ring field.discrete) (length f)) (poly g)
      ∙ ap₂ (λ u v. u ⊞ v ⊠ poly g) (sym (poly-cons a f))
      (sym (power-suc-left poly_ring (X ring field.discrete) (length f)))

  pub poly-x : poly (0 ∷ 1 ∷ []) ≡ X ring field.discrete
  unfolding poly X
  poly-x = ap₂ (λ a b. from_list ring field.discrete (a ∷ b ∷ [])) I.element-zero I.element_one

  pub poly-one : poly (1 ∷ []) ≡ 1ₚ
  poly-one =
      poly-constant 1
      ∙ ap (constant ring field.discrete) I.element_one
      ∙ (constant-polynomial-hom ring field.discrete).one

  -- Sums, multiples and products have elements of the field for numbers
  pub plus-elements :
      (f g : List ℕ) → T (are_elements F f) → T (are_elements F g) → T (are_elements F (plus F f g))
  unfolding plus
  plus-elements [] g h k = k
  plus-elements (a ∷ f) [] h k = h
  plus-elements (a ∷ f) (b ∷ g) h k =
      elements-cons F (plus F f g) (add-below I a b)
      (plus-elements f g (elements_uncons F a f h).1 (elements_uncons F b g k).1)

  pub scale-elements : (c : ℕ) (f : List ℕ) → T (are_elements F (scale F c f))
  unfolding scale
  scale-elements c [] = elements-nil F
  scale-elements c (a ∷ f) = elements-cons F (scale F c f) (mul-below I c a) (scale-elements c f)

  pub times-elements : (f g : List ℕ) → T (are_elements F (times F f g))
  unfolding times
  times-elements [] g = elements-nil F
  times-elements (a ∷ f) g =
      plus-elements (scale F a g) (0 ∷ times F f g) (scale-elements a g)
      (elements-cons F (times F f g) (size-positive I) (times-elements f g))

  pub one-elements : T (are_elements F (1 ∷ []))
  one-elements = elements-cons F [] (size-two I) (elements-nil F)

  pub get_or-below : (f : List ℕ) → T (are_elements F f) → (i : ℕ) → get_or f i 0 < F.size
  get_or-below [] h i = size-positive I
  get_or-below (a ∷ f) h zero = (elements_uncons F a f h).0
  get_or-below (a ∷ f) h (suc i) = get_or-below f (elements_uncons F a f h).1 i

  -- Lengths
  pub length-plus : (f g : List ℕ) → length (plus F f g) ≡ max (length f) (length g)
  length-plus f g =
      sym (length-map (plus F f g) element)
      ∙ ap length (map-plus f g)
      ∙ list-plus-length ring (map element f) (map element g)
      ∙ ap₂ max (length-map f element) (length-map g element)

  pub length-times :
      (f g : List ℕ) → 0 < length f → 0 < length g → length (times F f g) ≡ length f + length g - 1
  length-times f g l k =
      sym (length-map (times F f g) element)
      ∙ ap length (map-times f g)
      ∙ list-times-length ring (map element f) (map element g) (length f - 1) (length g - 1)
      (length-map f element ∙ omega arith) (length-map g element ∙ omega arith)
      ∙ omega arith

pub length-scale : (F : Field) (c : ℕ) (f : List ℕ) → length (scale F c f) ≡ length f
unfolding scale
length-scale F c f = length-map f (F.mul c)

-- Degrees and leading coefficients of lists
pub degree-length : (f : List ℕ) → 0 < length f → length f ≡ suc (degree f)
unfolding degree
degree-length f l = omega arith

pub length-degree : (f : List ℕ) {n : ℕ} → length f ≡ suc n → degree f ≡ n
unfolding degree
length-degree f e = omega arith

pub leading_length : (f : List ℕ) → length (f ++ (1 ∷ [])) ≡ suc (length f)
leading_length f = length-append f (1 ∷ []) ∙ omega arith

leading-cons : (a : ℕ) (f : List ℕ) → leading (a ∷ f) ≡ get_or (a ∷ f) (length f) 0
unfolding leading
leading-cons a [] = refl
leading-cons a (b ∷ f) = leading-cons b f

pub leading-get_or : (f : List ℕ) → leading f ≡ get_or f (degree f) 0
unfolding leading degree
leading-get_or [] = refl
leading-get_or (a ∷ f) =
    let e : length f ≡ suc (length f) - 1 = omega arith in
    leading-cons a f ∙ ap (λ n. get_or (a ∷ f) n 0) e

pub leading-nonempty : (f : List ℕ) → leading f ≢ 0 → 0 < length f
unfolding leading
leading-nonempty [] h = absurd (h refl)
leading-nonempty (a ∷ f) h = omega arith

-- Monic lists in words
module _ (F : Field) where
  pub monic-leading : (f : List ℕ) → T (is_monic_over F f) → leading f ≡ 1
  unfolding is_monic_over is_monic
  monic-leading f h = eqb→eq (leading f) 1 (T_and (is_monic f) (are_elements F f) h).0

  pub monic-elements : (f : List ℕ) → T (is_monic_over F f) → T (are_elements F f)
  unfolding is_monic_over
  monic-elements f h = (T_and (is_monic f) (are_elements F f) h).1

  pub monic-nonempty : (f : List ℕ) → T (is_monic_over F f) → 0 < length f
  monic-nonempty f h = leading-nonempty f (λ z. omega (arith, monic-leading f h))

  pub monic-length : (f : List ℕ) → T (is_monic_over F f) → length f ≡ suc (degree f)
  monic-length f h = degree-length f (monic-nonempty f h)

  pub monic-last : (f : List ℕ) → T (is_monic_over F f) → get_or f (degree f) 0 ≡ 1
  monic-last f h = sym (leading-get_or f) ∙ monic-leading f h

  pub monic_over_lem :
      (f : List ℕ) (n : ℕ) → length f ≡ suc n → get_or f n 0 ≡ 1 → T (are_elements F f) → T
      (is_monic_over F f)
  unfolding is_monic_over is_monic
  monic_over_lem f n l e h =
      and_T (is_monic f) (are_elements F f) (subst (λ c. T (eqb c 1)) (sym top) (eqb_refl 1)) h
    where
      top : leading f ≡ 1
      top = leading-get_or f ∙ ap (λ n. get_or f n 0) (length-degree f l) ∙ e

module _ {F : Field} (I : IsField F) where
  open I use {K, ring, field, value, element}
  open ring use {0#, 1#, ◌⊕◌, ◌⊗◌}
  open poly_ring I use {0# as 0ₚ, 1# as 1ₚ, ◌⊕◌ as ◌⊞◌, ◌⊗◌ as ◌⊠◌}

  infixl 60 ◌⊕◌ ◌⊞◌
  infixl 70 ◌⊗◌ ◌⊠◌
  pub degree-times :
      (f g : List ℕ) → 0 < length f → 0 < length g → degree (times F f g) ≡ degree f + degree g
  unfolding degree
  degree-times f g l k = omega (arith, length-times I f g l k)

  pub times-nonempty : (f g : List ℕ) → 0 < length f → 0 < length g → 0 < length (times F f g)
  times-nonempty f g l k = omega (arith, length-times I f g l k)

  -- Monic lists are monic polynomials
  pub monic-element-list : (f : List ℕ) → T (is_monic_over F f) → MonicList ring (map element f) (degree f)
  monic-element-list f h =
      record {
        size = length-map f element ∙ monic-length F f h;
        last = get_or-map-element I f (degree f) ∙ ap element (monic-last F f h) ∙ I.element_one;
      }

  pub monic-poly : (f : List ℕ) → T (is_monic_over F f) → Monic (poly I f) (degree f)
  unfolding poly
  monic-poly f h = monic-from_list ring field.discrete (monic-element-list f h)

  -- a list of elements whose last is not 0 has its degree for a polynomial
  pub degree-poly : (f : List ℕ) → T (are_elements F f) → leading f ≢ 0 → Degree (poly I f) (degree f)
  degree-poly f h z =
      record {
        leading = nonzero;
        below = subst (Below (poly I f)) (degree-length f (leading-nonempty f z)) (poly-below I f);
      }
    where
      nonzero : ¬ (coefficient (poly I f) (degree f) ≡ 0#)
      nonzero e =
          element-nonzero I (get_or-below I f h (degree f)) (λ y. z (leading-get_or f ∙ y))
          (sym (coefficient-poly I f (degree f)) ∙ e)

  -- Lists with equal polynomials
  pub list-equal :
      (f g : List ℕ)
      → T (are_elements F f)
      → T (are_elements F g)
      → length f ≡ length g
      → poly I f ≡ poly I g
      → f ≡ g
  list-equal f g h k l e =
      ext_get_or 0 f g l
      (λ i _.
      element_injective I (get_or-below I f h i) (get_or-below I g k i)
      (sym (coefficient-poly I f i) ∙ ap (λ p. coefficient p i) e ∙ coefficient-poly I g i))

  pub monic-equal :
      (f g : List ℕ) → T (is_monic_over F f) → T (is_monic_over F g) → poly I f ≡ poly I g → f ≡ g
  monic-equal f g h k e =
      list-equal f g (monic-elements F f h) (monic-elements F g k)
      (monic-length F f h ∙ ap suc same-degree ∙ sym (monic-length F g k)) e
    where
      same-degree : degree f ≡ degree g
      same-degree =
          monic-unique field.one_nonzero (monic-poly f h)
          (subst (λ p. Monic p (degree g)) (sym e) (monic-poly g k))

  pub one-monic : T (is_monic_over F (1 ∷ []))
  one-monic = monic_over_lem F (1 ∷ []) 0 refl refl (one-elements I)

  -- coefficients with the leading 1 after them
  pub leading-elements : (f : List ℕ) → T (are_elements F f) → T (are_elements F (f ++ (1 ∷ [])))
  leading-elements [] h = one-elements I
  leading-elements (a ∷ f) h =
      let (l, k) = elements_uncons F a f h in elements-cons F (f ++ (1 ∷ [])) l (leading-elements f k)

  pub leading-monic : (f : List ℕ) → T (are_elements F f) → T (is_monic_over F (f ++ (1 ∷ [])))
  leading-monic f h =
      monic_over_lem F (f ++ (1 ∷ [])) (length f) (leading_length f) (get_or-append_seam f 1 [] 0)
      (leading-elements f h)

  -- The product of monic lists is monic
  pub times-monic :
      (f g : List ℕ) → T (is_monic_over F f) → T (is_monic_over F g) → T (is_monic_over F (times F f g))
  times-monic f g h k = monic_over_lem F (times F f g) (degree f + degree g) size top (times-elements I f g)
    where
      size : length (times F f g) ≡ suc (degree f + degree g)
      size =
          degree-length (times F f g) (times-nonempty f g (monic-nonempty F f h) (monic-nonempty F g k))
          ∙ ap suc (degree-times f g (monic-nonempty F f h) (monic-nonempty F g k))

      product-monic : Monic (poly I f ⊠ poly I g) (degree f + degree g)
      product-monic = monic-mul (monic-poly f h) (monic-poly g k)

      top : get_or (times F f g) (degree f + degree g) 0 ≡ 1
      top =
          element_injective I (get_or-below I (times F f g) (times-elements I f g) _) (size-two I)
          (sym (coefficient-poly I (times F f g) (degree f + degree g))
          ∙ ap (λ p. coefficient p (degree f + degree g)) (poly-times I f g)
          ∙ product-monic.leading
          ∙ sym I.element_one)

  -- The numbers of a polynomial
  unfoldable pub list : Poly I → List ℕ
  list h = map value h.to_list

  pub poly-list : (h : Poly I) → poly I (list h) ≡ h
  unfolding poly list
  poly-list h =
      ap (from_list ring field.discrete) (back h.to_list) ∙ from_list_to_list ring field.discrete h
    where
      back : (xs : List K) → map element (map value xs) ≡ xs
      back [] = refl
      back (a ∷ xs) = ap₂ ◌∷◌ (I.element_value a) (back xs)

  pub list-elements : (h : Poly I) → T (are_elements F (list h))
  unfolding list
  list-elements h = go h.to_list
    where
      go : (xs : List K) → T (are_elements F (map value xs))
      go [] = elements-nil F
      go (a ∷ xs) = elements-cons F (map value xs) (I.value-below a) (go xs)

  pub monic-list :
      {h : Poly I} {n : ℕ}
      → Monic h n
      → (f : List ℕ) × T (is_monic_over F f) × (degree f ≡ n) × (poly I f ≡ h)
  unfolding list
  monic-list {h} {n} m = (
    list h,
    monic_over_lem F (list h) n size top (list-elements h),
    length-degree (list h) size,
    poly-list h,
  )
    where
      size : length (list h) ≡ suc n
      size = length-map h.to_list value ∙ (monic_to_list field.one_nonzero m).size

      top : get_or (list h) n 0 ≡ 1
      top =
          element_injective I (get_or-below I (list h) (list-elements h) n) (size-two I)
          (sym (coefficient-poly I (list h) n)
          ∙ ap (λ p. coefficient p n) (poly-list h)
          ∙ m.leading
          ∙ sym I.element_one)

-- The test of equality
pub same-equal : (f g : Polynomial) → T (same f g) → f ≡ g
unfolding same
same-equal [] [] h = refl
same-equal [] (b ∷ g) h = absurd h
same-equal (a ∷ f) [] h = absurd h
same-equal (a ∷ f) (b ∷ g) h = go (same-equal f g) (eqb a b) refl
  where
    go : (T (same f g) → f ≡ g) → (c : Bool) → eqb a b ≡ c → a ∷ f ≡ b ∷ g
    go rest true e = ap₂ ◌∷◌ (eqb→eq a b (true-T e)) (rest (rw (e, same) at h))
    go rest false e = absurd (rw (e, same) at h)

same_self : (f : Polynomial) → T (same f f)
unfolding same
same_self [] = tt
same_self (a ∷ f) = rw (T_true {b = eqb a a} (eqb_refl a), same) (same_self f)

pub equal-same : {f g : Polynomial} → f ≡ g → T (same f g)
equal-same {f} e = subst (λ g. T (same f g)) e (same_self f)
