-- Laws of products, powers and products of powers, on lists of numbers.
--
--   times_comm, times_assoc, times-one, one-times == products of lists that are not empty
--   poly-power, poly-product == powers and products of lists are those of polynomials; no condition
--   power-elements, product-elements == they have elements of the field alone for numbers; no condition
--   degree-power, degree-product == degrees multiply and add up; D is that of the product
--   power-monic, product-monic == powers and products of monic lists are monic
--   power-add, power-mul == powers with a sum and a product of exponents
--   factor_at l i, power_at l i == the factor and the power in place i of a list of pairs; [] and 0 beyond it
--   Nonempties l, MonicFactors F l == no factor is empty; each is monic over F
--   named-one, total-one == one factor with its power, and its total degree
--   product-split  == the product with the power r in place i is the r-th power of that factor times the rest
--   poly-with_power, poly-named == such products in the form of `power-product` of `algebra`
--
-- Assumes nothing.
use Prim.Native.Nat.{ℕ, zero, suc, ◌+◌, ◌*◌, ◌<◌, suc-le-suc}
use mathlib.Core.Path.{◌≡◌, refl, sym, ap, ap₂, subst, fun_ext, ◌∙◌}
use mathlib.Core.Bool.{false, not}
use mathlib.Core.List.{List, [], ◌∷◌, ◌++◌, map}
use native.Mathlib.Nat.{not-suc-le-zero, le_of_suc-le-suc}
use native.Mathlib.Nat as ℕ
use native.Mathlib.Omega.{arith}
use lib.ListN.{length, get_or, length-set, length-map, get_or-map}
use lib.Seq.{set-get_or, map-set_same}
use lib.Dec.{T}
use Rattle.meaning.specs.Field.{Field, are_elements}
use Rattle.meaning.specs.Polynomial.{Polynomial, degree, is_monic, is_monic_over, times, power, product}
use Rattle.meaning.specs.Conditions.{named, total_degree, not_monic}
use Rattle.meaning.specs.Portion.{factors_of, with_power}
use Rattle.algebra.proofs.Rings.Power.{power as algebra-power, power_zero, power-suc-left}
use Rattle.algebra.proofs.Rings.PowerProduct.{power-product, power-product-nil, power-product-cons, update}
use Rattle.bridge.proofs.Basics.Searches.{and_T, or-false, not-false}
use Rattle.bridge.proofs.Basics.Interpretation.{IsField}
use Rattle.bridge.proofs.Lists.Polynomials.{Poly, poly_ring, poly, poly-one, poly-times}
use Rattle.bridge.proofs.Lists.Polynomials.{times-elements, one-elements, length-times, times-nonempty}
use Rattle.bridge.proofs.Lists.Polynomials.{degree-times, list-equal, times-monic, one-monic}
use Rattle.bridge.proofs.Lists.Polynomials.{monic-nonempty}
use Rattle.bridge.proofs.Lists.Polynomials.{length-degree}

module _ {F : Field} (I : IsField F) where
  open poly_ring I use {1#, ◌⊗◌}

  infixl 70 ◌⊗◌
  -- Products of lists
  pub times_comm : (f g : Polynomial) → 0 < length f → 0 < length g → times F f g ≡ times F g f
  times_comm f g l k =
      list-equal I (times F f g) (times F g f) (times-elements I f g) (times-elements I g f)
      (omega (arith, length-times I f g l k, length-times I g f k l))
      (poly-times I f g ∙ (poly_ring I).mul_comm (poly I f) (poly I g) ∙ sym (poly-times I g f))

  pub times_assoc :
      (f g h : Polynomial)
      → 0 < length f
      → 0 < length g
      → 0 < length h
      → times F (times F f g) h ≡ times F f (times F g h)
  times_assoc f g h l k m =
      list-equal I (times F (times F f g) h) (times F f (times F g h))
      (times-elements I (times F f g) h) (times-elements I f (times F g h))
      sizes polynomials-equal
    where
      sizes : length (times F (times F f g) h) ≡ length (times F f (times F g h))
      sizes =
          omega (
            arith,
            length-times I f g l k,
            length-times I g h k m,
            length-times I (times F f g) h (times-nonempty I f g l k) m,
            length-times I f (times F g h) l (times-nonempty I g h k m),
          )

      polynomials-equal : poly I (times F (times F f g) h) ≡ poly I (times F f (times F g h))
      polynomials-equal =
          poly-times I (times F f g) h
          ∙ ap (λ u. u ⊗ poly I h) (poly-times I f g)
          ∙ (poly_ring I).mul_assoc (poly I f) (poly I g) (poly I h)
          ∙ ap (◌⊗◌ (poly I f)) (sym (poly-times I g h))
          ∙ sym (poly-times I f (times F g h))

  pub times-left_comm :
      (f g h : Polynomial)
      → 0 < length f
      → 0 < length g
      → 0 < length h
      → times F f (times F g h) ≡ times F g (times F f h)
  times-left_comm f g h l k m =
      sym (times_assoc f g h l k m)
      ∙ ap (λ u. times F u h) (times_comm f g l k)
      ∙ times_assoc g f h k l m

  pub times-one : (f : Polynomial) → 0 < length f → T (are_elements F f) → times F f (1 ∷ []) ≡ f
  times-one f l h =
      list-equal I (times F f (1 ∷ [])) f (times-elements I f (1 ∷ [])) h
      (omega (arith, length-times I f (1 ∷ []) l (omega arith)))
      (poly-times I f (1 ∷ []) ∙ ap (◌⊗◌ (poly I f)) (poly-one I) ∙ (poly_ring I).mul-one (poly I f))

  pub one-times : (f : Polynomial) → 0 < length f → T (are_elements F f) → times F (1 ∷ []) f ≡ f
  one-times f l h = times_comm (1 ∷ []) f (omega arith) l ∙ times-one f l h

-- Powers
pub power-zero-list : (F : Field) (f : Polynomial) → power F f 0 ≡ 1 ∷ []
unfolding power
power-zero-list F f = refl

pub power-suc-list : (F : Field) (f : Polynomial) (n : ℕ) → power F f (suc n) ≡ times F f (power F f n)
unfolding power
power-suc-list F f n = refl

module _ {F : Field} (I : IsField F) where
  open poly_ring I use {1#, ◌⊗◌}

  infixl 70 ◌⊗◌
  pub poly-power : (f : Polynomial) (n : ℕ) → poly I (power F f n) ≡ algebra-power (poly_ring I) (poly I f) n
  unfolding power
  poly-power f zero = poly-one I ∙ sym (power_zero (poly_ring I) (poly I f))
  poly-power f (suc n) =
      poly-times I f (power F f n)
      ∙ ap (◌⊗◌ (poly I f)) (poly-power f n)
      ∙ sym (power-suc-left (poly_ring I) (poly I f) n)

  pub power-elements : (f : Polynomial) (n : ℕ) → T (are_elements F (power F f n))
  unfolding power
  power-elements f zero = one-elements I
  power-elements f (suc n) = times-elements I f (power F f n)

  pub power-nonempty : (f : Polynomial) (n : ℕ) → 0 < length f → 0 < length (power F f n)
  unfolding power
  power-nonempty f zero l = omega arith
  power-nonempty f (suc n) l = times-nonempty I f (power F f n) l (power-nonempty f n l)

  pub degree-power : (f : Polynomial) (n : ℕ) → 0 < length f → degree (power F f n) ≡ n * degree f
  unfolding power
  degree-power f zero l = length-degree (1 ∷ []) refl ∙ sym (ℕ.zero-mul (degree f))
  degree-power f (suc n) l =
      degree-times I f (power F f n) l (power-nonempty f n l)
      ∙ ap (◌+◌ (degree f)) (degree-power f n l)
      ∙ ℕ.add_comm (degree f) (n * degree f)
      ∙ sym (ℕ.suc-mul n (degree f))

  pub power-monic : (f : Polynomial) (n : ℕ) → T (is_monic_over F f) → T (is_monic_over F (power F f n))
  unfolding power
  power-monic f zero h = one-monic I
  power-monic f (suc n) h = times-monic I f (power F f n) h (power-monic f n h)

  pub power-one : (f : Polynomial) → 0 < length f → T (are_elements F f) → power F f 1 ≡ f
  unfolding power
  power-one f l h = times-one I f l h

  pub power-add :
      (f : Polynomial) (m n : ℕ)
      → 0 < length f
      → power F f (m + n) ≡ times F (power F f m) (power F f n)
  unfolding power
  power-add f zero n l =
      ap (power F f) (ℕ.zero-add n)
      ∙ sym (one-times I (power F f n) (power-nonempty f n l) (power-elements f n))
  power-add f (suc m) n l =
      ap (power F f) (ℕ.suc-add m n)
      ∙ ap (times F f) (power-add f m n l)
      ∙ sym (times_assoc I f (power F f m) (power F f n) l (power-nonempty f m l) (power-nonempty f n l))

  pub power-mul : (f : Polynomial) (m n : ℕ) → 0 < length f → power F f (m * n) ≡ power F (power F f m) n
  unfolding power
  power-mul f m zero l = ap (power F f) (ℕ.mul-zero m)
  power-mul f m (suc n) l =
      ap (power F f) (ℕ.mul-suc m n ∙ ℕ.add_comm (m * n) m)
      ∙ power-add f m (m * n) l
      ∙ ap (times F (power F f m)) (power-mul f m n l)

-- Products of powers
abbrev pub factor_at : List (Polynomial × ℕ) → ℕ → Polynomial
factor_at l i = (get_or l i ([], 0)).0

abbrev pub power_at : List (Polynomial × ℕ) → ℕ → ℕ
power_at l i = (get_or l i ([], 0)).1

abbrev pub Nonempties : List (Polynomial × ℕ) → Type 0
Nonempties l = (i : ℕ) → i < length l → 0 < length (factor_at l i)

abbrev pub MonicFactors : Field → List (Polynomial × ℕ) → Type 0
MonicFactors F l = (i : ℕ) → i < length l → T (is_monic_over F (factor_at l i))

nonempties-rest : (f : Polynomial × ℕ) (l : List (Polynomial × ℕ)) → Nonempties (f ∷ l) → Nonempties l
nonempties-rest f l h i k = h (suc i) (suc-le-suc k)

pub monics-nonempty : (F : Field) (l : List (Polynomial × ℕ)) → MonicFactors F l → Nonempties l
monics-nonempty F l h i k = monic-nonempty F (factor_at l i) (h i k)

-- one power replaced
pub length-with_power : (i r : ℕ) (l : List (Polynomial × ℕ)) → length (with_power i r l) ≡ length l
unfolding with_power
length-with_power i r l = length-set l i (factor_at l i, r)

pub factors_of-with_power : (i r : ℕ) (l : List (Polynomial × ℕ)) → factors_of (with_power i r l) ≡
    factors_of l
unfolding with_power factors_of
factors_of-with_power i r l = map-set_same (λ f. f.0) l i (factor_at l i, r) ([], 0) refl

pub length-factors_of : (l : List (Polynomial × ℕ)) → length (factors_of l) ≡ length l
unfolding factors_of
length-factors_of l = length-map l (λ f. f.0)

pub factor_at-factors_of : (l : List (Polynomial × ℕ)) (j : ℕ) → get_or (factors_of l) j [] ≡ factor_at l j
unfolding factors_of
factor_at-factors_of l j = get_or-map (λ f. f.0) l j ([], 0)

pub factor_at-with_power :
    (i r : ℕ) (l : List (Polynomial × ℕ)) (j : ℕ) → factor_at (with_power i r l) j ≡ factor_at l j
factor_at-with_power i r l j =
    sym (factor_at-factors_of (with_power i r l) j)
    ∙ ap (λ fs. get_or fs j []) (factors_of-with_power i r l)
    ∙ factor_at-factors_of l j

pub power_at-with_power :
    (i r : ℕ) (l : List (Polynomial × ℕ)) (j : ℕ)
    → i < length l
    → power_at (with_power i r l) j ≡ update (power_at l) i r j
unfolding with_power update
power_at-with_power i r [] j k = absurd (not-suc-le-zero k)
power_at-with_power zero r (f ∷ l) zero k = refl
power_at-with_power zero r (f ∷ l) (suc j) k = refl
power_at-with_power (suc i) r (f ∷ l) zero k = refl
power_at-with_power (suc i) r (f ∷ l) (suc j) k = power_at-with_power i r l j (le_of_suc-le-suc k)

pub with_power_self : (i : ℕ) (l : List (Polynomial × ℕ)) → with_power i (power_at l i) l ≡ l
unfolding with_power
with_power_self i l = set-get_or l i ([], 0)

pub with_power-nonempties :
    (i r : ℕ) (l : List (Polynomial × ℕ)) → Nonempties l → Nonempties (with_power i r l)
with_power-nonempties i r l h j k =
    subst (λ f. 0 < length f) (sym (factor_at-with_power i r l j)) (h j (rw length-with_power at k))

pub with_power-monics :
    (F : Field) (i r : ℕ) (l : List (Polynomial × ℕ)) → MonicFactors F l → MonicFactors F (with_power i r l)
with_power-monics F i r l h j k =
    subst (λ f. T (is_monic_over F f)) (sym (factor_at-with_power i r l j)) (h j (rw length-with_power at k))

-- the degree with the power r in place i
pub degree-split :
    (l : List (Polynomial × ℕ)) (i r : ℕ)
    → i < length l
    → total_degree (with_power i r l) ≡ r * degree (factor_at l i) + total_degree (with_power i 0 l)
unfolding with_power total_degree
degree-split [] i r k = absurd (not-suc-le-zero k)
degree-split (f ∷ l) zero r k = omega (arith, ℕ.zero-mul (degree f.0))
degree-split (f ∷ l) (suc i) r k = omega (arith, degree-split l i r (le_of_suc-le-suc k))

pub product-nil : (F : Field) → product F [] ≡ 1 ∷ []
unfolding product
product-nil F = refl

pub product-cons :
    (F : Field) (f : Polynomial) (n : ℕ) (l : List (Polynomial × ℕ))
    → product F ((f, n) ∷ l) ≡ times F (power F f n) (product F l)
unfolding product
product-cons F f n l = refl

module _ {F : Field} (I : IsField F) where
  open poly_ring I use {1#, ◌⊗◌}

  infixl 70 ◌⊗◌
  pub product-elements : (l : List (Polynomial × ℕ)) → T (are_elements F (product F l))
  unfolding product
  product-elements [] = one-elements I
  product-elements (f ∷ l) = times-elements I (power F f.0 f.1) (product F l)

  pub product-nonempty : (l : List (Polynomial × ℕ)) → Nonempties l → 0 < length (product F l)
  unfolding product
  product-nonempty [] h = omega arith
  product-nonempty (f ∷ l) h =
      times-nonempty I (power F f.0 f.1) (product F l)
      (power-nonempty I f.0 f.1 (h 0 (omega arith)))
      (product-nonempty l (nonempties-rest f l h))

  pub degree-product : (l : List (Polynomial × ℕ)) → Nonempties l → degree (product F l) ≡ total_degree l
  unfolding product total_degree
  degree-product [] h = length-degree (1 ∷ []) refl
  degree-product (f ∷ l) h =
      degree-times I (power F f.0 f.1) (product F l)
      (power-nonempty I f.0 f.1 (h 0 (omega arith)))
      (product-nonempty l (nonempties-rest f l h))
      ∙ ap₂ ◌+◌ (degree-power I f.0 f.1 (h 0 (omega arith)))
      (degree-product l (nonempties-rest f l h))

  pub product-monic : (l : List (Polynomial × ℕ)) → MonicFactors F l → T (is_monic_over F (product F l))
  unfolding product
  product-monic [] h = one-monic I
  product-monic (f ∷ l) h =
      times-monic I (power F f.0 f.1) (product F l)
      (power-monic I f.0 f.1 (h 0 (omega arith)))
      (product-monic l (λ i k. h (suc i) (suc-le-suc k)))

  -- with one factor
  pub product-single : (f : Polynomial) (n : ℕ) → 0 < length f → product F ((f, n) ∷ []) ≡ power F f n
  unfolding product
  product-single f n l = times-one I (power F f n) (power-nonempty I f n l) (power-elements I f n)

  pub product-append :
      (l m : List (Polynomial × ℕ))
      → Nonempties l
      → Nonempties m
      → product F (l ++ m) ≡ times F (product F l) (product F m)
  unfolding product
  product-append [] m h k = sym (one-times I (product F m) (product-nonempty m k) (product-elements m))
  product-append (f ∷ l) m h k =
      ap (times F (power F f.0 f.1)) (product-append l m rest k)
      ∙ sym (times_assoc I (power F f.0 f.1) (product F l) (product F m)
      (power-nonempty I f.0 f.1 (h 0 (omega arith))) (product-nonempty l rest) (product-nonempty m k))
    where
      rest : Nonempties l
      rest = nonempties-rest f l h

  -- the power r in place i
  pub product-split :
      (l : List (Polynomial × ℕ)) (i r : ℕ)
      → i < length l
      → Nonempties l
      → product F (with_power i r l) ≡ times F (power F (factor_at l i) r) (product F (with_power i 0 l))
  unfolding product with_power
  product-split [] i r k h = absurd (not-suc-le-zero k)
  product-split (f ∷ l) zero r k h =
      ap (times F (power F f.0 r)) (sym without)
    where
      without : times F (power F f.0 0) (product F l) ≡ product F l
      without =
          ap (λ u. times F u (product F l)) (power-zero-list F f.0)
          ∙ one-times I (product F l) (product-nonempty l (nonempties-rest f l h)) (product-elements l)
  product-split (f ∷ l) (suc i) r k h =
      ap (times F (power F f.0 f.1)) (product-split l i r (le_of_suc-le-suc k) rest)
      ∙ times-left_comm I (power F f.0 f.1) (power F (factor_at l i) r) (product F (with_power i 0 l))
      (power-nonempty I f.0 f.1 (h 0 (omega arith)))
      (power-nonempty I (factor_at l i) r (h (suc i) k))
      (product-nonempty (with_power i 0 l) (with_power-nonempties i 0 l rest))
    where
      rest : Nonempties l
      rest = nonempties-rest f l h

  -- The products as polynomials
  abbrev pub polys : List (Polynomial × ℕ) → List (Poly I)
  polys l = map (λ f. poly I f.0) l

  pub poly-product :
      (l : List (Polynomial × ℕ)) → poly I (product F l) ≡ power-product (poly_ring I) (polys l) (power_at l)
  unfolding product
  poly-product [] = poly-one I ∙ sym (power-product-nil (poly_ring I) (power_at []))
  poly-product (f ∷ l) =
      poly-times I (power F f.0 f.1) (product F l)
      ∙ ap₂ ◌⊗◌ (poly-power I f.0 f.1) (poly-product l)
      ∙ sym (power-product-cons (poly_ring I) (poly I f.0) (polys l) (power_at (f ∷ l)))

  pub poly-with_power :
      (l : List (Polynomial × ℕ)) (i r : ℕ)
      → i < length l
      → poly I (product F (with_power i r l)) ≡ power-product (poly_ring I) (polys l)
      (update (power_at l) i r)
  poly-with_power l i r k =
      poly-product (with_power i r l)
      ∙ ap₂ (power-product (poly_ring I)) same-factors (fun_ext (λ j. power_at-with_power i r l j k))
    where
      same-factors : polys (with_power i r l) ≡ polys l
      same-factors =
          unfold with_power in map-set_same (λ f. poly I f.0) l i (factor_at l i, r) ([], 0) refl

  pub poly-named :
      (fs : List Polynomial) (us : List ℕ)
      → poly I (product F (named fs us)) ≡ power-product (poly_ring I) (map (poly I) fs) (λ i. get_or us i 0)
  unfolding product named
  poly-named [] us = poly-one I ∙ sym (power-product-nil (poly_ring I) (λ i. get_or us i 0))
  poly-named (f ∷ fs) [] =
      poly-times I (power F f 0) (product F (named fs []))
      ∙ ap₂ ◌⊗◌ (poly-power I f 0) (poly-named fs [])
      ∙ sym (power-product-cons (poly_ring I) (poly I f) (map (poly I) fs) (λ i. get_or [] i 0))
  poly-named (f ∷ fs) (u ∷ us) =
      poly-times I (power F f u) (product F (named fs us))
      ∙ ap₂ ◌⊗◌ (poly-power I f u) (poly-named fs us)
      ∙ sym (power-product-cons (poly_ring I) (poly I f) (map (poly I) fs) (λ i. get_or (u ∷ us) i 0))

-- Factors named with their powers
pub length-named : (fs : List Polynomial) (us : List ℕ) → length (named fs us) ≡ length fs
unfolding named
length-named [] us = refl
length-named (f ∷ fs) [] = ap suc (length-named fs [])
length-named (f ∷ fs) (u ∷ us) = ap suc (length-named fs us)

-- one factor
pub named-one :
    (fs : List Polynomial) (us : List ℕ)
    → length fs ≡ 1
    → named fs us ≡ (get_or fs 0 [], get_or us 0 0) ∷ []
unfolding named
named-one [] us n = absurd (omega arith)
named-one (f ∷ []) [] n = refl
named-one (f ∷ []) (u ∷ us) n = refl
named-one (f ∷ g ∷ fs) us n = absurd (omega arith)

pub total-one : (f : Polynomial) (v : ℕ) → total_degree ((f, v) ∷ []) ≡ v * degree f
unfolding total_degree
total-one f v = ℕ.add-zero (v * degree f)

pub factors_of-named : (fs : List Polynomial) (us : List ℕ) → factors_of (named fs us) ≡ fs
unfolding named factors_of
factors_of-named [] us = refl
factors_of-named (f ∷ fs) [] = ap (◌∷◌ f) (factors_of-named fs [])
factors_of-named (f ∷ fs) (u ∷ us) = ap (◌∷◌ f) (factors_of-named fs us)

pub power_at-named :
    (fs : List Polynomial) (us : List ℕ) (i : ℕ) → i < length fs → power_at (named fs us) i ≡ get_or us i 0
unfolding named
power_at-named [] us i k = absurd (not-suc-le-zero k)
power_at-named (f ∷ fs) [] zero k = refl
power_at-named (f ∷ fs) [] (suc i) k = power_at-named fs [] i (le_of_suc-le-suc k)
power_at-named (f ∷ fs) (u ∷ us) zero k = refl
power_at-named (f ∷ fs) (u ∷ us) (suc i) k = power_at-named fs us i (le_of_suc-le-suc k)

pub factor_at-named : (fs : List Polynomial) (us : List ℕ) (i : ℕ) → factor_at (named fs us) i ≡ get_or fs i
    []
factor_at-named fs us i =
    sym (factor_at-factors_of (named fs us) i) ∙ ap (λ gs. get_or gs i []) (factors_of-named fs us)

-- the same factors with other powers
pub named-monics :
    (F : Field) (l : List (Polynomial × ℕ)) (us : List ℕ)
    → MonicFactors F l
    → MonicFactors F (named (factors_of l) us)
named-monics F l us h i k =
    subst (λ f. T (is_monic_over F f)) (sym (factor_at-named (factors_of l) us i ∙ factor_at-factors_of l i))
    (h i (subst (λ n. i < n) (length-named (factors_of l) us ∙ length-factors_of l) k))

-- Factors that no condition turns down are monic
pub accepted-monic : (F : Field) (f : Polynomial) → not_monic F f ≡ false → T (is_monic_over F f)
unfolding not_monic is_monic_over
accepted-monic F f e =
    let (a, b) = or-false (not (are_elements F f)) (not (is_monic f)) e in
    and_T (is_monic f) (are_elements F f) (not-false (is_monic f) b) (not-false (are_elements F f) a)
