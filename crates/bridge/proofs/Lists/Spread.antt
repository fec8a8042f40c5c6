-- Lists spread q places apart, and the powers p^w of lists.
--
--   spread q f     == the list f with q − 1 zeros between neighbours and none after the last; for q = 0 as
--                     for q = 1
--   raise F n a    == the n-fold product of the number a in F; 1 for n = 0
--   get_or-spread-at == the numbers of f in the spread list
--   poly-spread    == the polynomial of a spread list is f(x^q)
--   power-spread   == in characteristic p, f^(p^w) is f with its numbers raised to p^w, spread p^w places
--                     apart
--   raises_none, raises_again == numbers raised to p^0 stay, and numbers raised to p^w and then to p are
--                     raised to p^(w + 1)
--   raises_same, power-spread-same == where p is the size of the field numbers raised to p^w stay, and
--                     f^(p^w) is f spread p^w places apart
--
-- Assumes nothing.
use Prim.Native.Nat.{ℕ, zero, suc, ◌+◌, ◌*◌, ◌-◌, ◌^◌, ◌<◌, ◌∣◌}
use mathlib.Core.Path.{◌≡◌, refl, sym, ap, ap₂, ◌∙◌}
use mathlib.Core.List.{List, [], ◌∷◌, map}
use native.Mathlib.Nat.{not-suc-le-zero, le_of_suc-le-suc, suc-add, mul-zero, mul-suc}
use native.Mathlib.Nat as ℕ
use native.Mathlib.Omega.{arith}
use lib.ListN.{length, get_or, length-map, get_or-map}
use lib.Dec.{T}
use Rattle.meaning.specs.Field.{Field, are_elements}
use Rattle.meaning.specs.Polynomial.{degree, is_monic_over, power}
use Rattle.algebra.proofs.Numbers.Number.{prime-power-pos}
use Rattle.algebra.proofs.Rings.Power.{power as algebra-power, power_zero, power-suc-left, power_tower}
use Rattle.algebra.proofs.Rings.Power.{tower_one}
use Rattle.algebra.proofs.Polynomials.Polynomial.{coefficient, coefficient-from_list, polynomial_ext}
use Rattle.algebra.proofs.Polynomials.Spread.{spread-list, gap as gap-list, spread-list-series}
use Rattle.algebra.proofs.Polynomials.Spread.{spread-polynomial}
use Rattle.algebra.proofs.Polynomials.Spread.{coefficient-spread, map-polynomial, coefficient-map}
use Rattle.algebra.proofs.Polynomials.Spread.{spread as spread-series}
use Rattle.algebra.proofs.Polynomials.Frobenius.{power-polynomial, frobenius}
use Rattle.bridge.proofs.Basics.Interpretation.{IsField, element-mul, mul-below, size-two}
use Rattle.bridge.proofs.Basics.Interpretation.{size-positive}
use Rattle.bridge.proofs.Basics.Interpretation.{power-fixed, number-zero-mul, element_injective}
use Rattle.bridge.proofs.Lists.Polynomials.{poly, coefficient-poly, elements-nil, elements-cons}
use Rattle.bridge.proofs.Lists.Polynomials.{elements_uncons}
use Rattle.bridge.proofs.Lists.Polynomials.{degree-length, length-degree, list-equal, monic_over_lem}
use Rattle.bridge.proofs.Lists.Polynomials.{monic-last, monic-elements, monic-nonempty}
use Rattle.bridge.proofs.Lists.Products.{poly-power, power-elements, power-nonempty, degree-power}

-- k zeros before a list, if it is not empty
unfoldable pub gap : ℕ → List ℕ → List ℕ
gap zero f = f
gap (suc k) [] = []
gap (suc k) (a ∷ f) = 0 ∷ gap k (a ∷ f)

unfoldable pub spread : ℕ → List ℕ → List ℕ
spread q [] = []
spread q (a ∷ f) = a ∷ gap (q - 1) (spread q f)

pub spread-nil : (q : ℕ) → spread q [] ≡ []
unfolding spread
spread-nil q = refl

pub spread-cons : (q a : ℕ) (f : List ℕ) → spread q (a ∷ f) ≡ a ∷ gap (q - 1) (spread q f)
unfolding spread
spread-cons q a f = refl

-- The numbers of a spread list
gap_below : (k : ℕ) (f : List ℕ) (n : ℕ) → n < k → get_or (gap k f) n 0 ≡ 0
unfolding gap
gap_below zero f n l = absurd (not-suc-le-zero l)
gap_below (suc k) [] n l = refl
gap_below (suc k) (a ∷ f) zero l = refl
gap_below (suc k) (a ∷ f) (suc n) l = gap_below k (a ∷ f) n (le_of_suc-le-suc l)

gap-above : (k : ℕ) (f : List ℕ) (n : ℕ) → get_or (gap k f) (k + n) 0 ≡ get_or f n 0
unfolding gap
gap-above zero f n = ap (λ i. get_or f i 0) (ℕ.zero-add n)
gap-above (suc k) [] n = refl
gap-above (suc k) (a ∷ f) n = rw suc-add (gap-above k (a ∷ f) n)

pub gap-nil : (k : ℕ) → gap k [] ≡ []
unfolding gap
gap-nil zero = refl
gap-nil (suc k) = refl

gap_length : (k : ℕ) (a : ℕ) (f : List ℕ) → length (gap k (a ∷ f)) ≡ k + suc (length f)
unfolding gap
gap_length zero a f = sym (ℕ.zero-add (suc (length f)))
gap_length (suc k) a f = ap suc (gap_length k a f) ∙ sym (suc-add k (suc (length f)))

module _ (q : ℕ) (pos : 0 < q) where
  spread-next : (a : ℕ) (f : List ℕ) (n : ℕ) → get_or (spread q (a ∷ f)) (q + n) 0 ≡ get_or (spread q f) n 0
  unfolding spread
  spread-next a f n =
      let e : q + n ≡ suc (q - 1 + n) = omega arith in
      ap (λ i. get_or (a ∷ gap (q - 1) (spread q f)) i 0) e ∙ gap-above (q - 1) (spread q f) n

  pub get_or-spread-at : (f : List ℕ) (i : ℕ) → get_or (spread q f) (q * i) 0 ≡ get_or f i 0
  unfolding spread
  get_or-spread-at [] i = refl
  get_or-spread-at (a ∷ f) zero = ap (λ n. get_or (spread q (a ∷ f)) n 0) (mul-zero q)
  get_or-spread-at (a ∷ f) (suc i) =
      let e : q * suc i ≡ q + q * i = omega (arith, mul-suc q i) in
      ap (λ n. get_or (spread q (a ∷ f)) n 0) e ∙ spread-next a f (q * i) ∙ get_or-spread-at f i

  abbrev Between : ℕ → Type 0
  Between n = (f : List ℕ) → ¬ (q ∣ n) → get_or (spread q f) n 0 ≡ 0

  length-cons : (a : ℕ) (f : List ℕ) → length (spread q (a ∷ f)) ≡ suc (q * length f)
  unfolding spread
  length-cons a [] = omega (arith, ap length (gap-nil (q - 1)))
  length-cons a (b ∷ f) = omega (arith, gap_length (q - 1) b (gap (q - 1) (spread q f)), length-cons b f)

  pub length-spread : (f : List ℕ) → 0 < length f → length (spread q f) ≡ suc (q * degree f)
  length-spread [] l = absurd (not-suc-le-zero l)
  length-spread (a ∷ f) l = length-cons a f ∙ ap (λ n. suc (q * n)) (sym (length-degree (a ∷ f) refl))

  pub degree-spread : (f : List ℕ) → 0 < length f → degree (spread q f) ≡ q * degree f
  degree-spread f l = length-degree (spread q f) (length-spread f l)

  pub spread-nonempty : (f : List ℕ) → 0 < length f → 0 < length (spread q f)
  spread-nonempty f l = omega (arith, length-spread f l)

-- Powers of numbers
unfoldable pub raise : Field → ℕ → ℕ → ℕ
raise F zero a = 1
raise F (suc n) a = F.mul a (raise F n a)

pub raise-zero-power : (F : Field) (a : ℕ) → raise F 0 a ≡ 1
unfolding raise
raise-zero-power F a = refl

pub raise-suc-power : (F : Field) (n a : ℕ) → raise F (suc n) a ≡ F.mul a (raise F n a)
unfolding raise
raise-suc-power F n a = refl

module _ {F : Field} (I : IsField F) where
  open I use {K, ring, field, element}
  open ring use {0#, 1#, ◌⊗◌}

  infixl 70 ◌⊗◌
  pub element-raise : (n a : ℕ) → element (raise F n a) ≡ algebra-power ring (element a) n
  unfolding raise
  element-raise zero a = I.element_one ∙ sym (power_zero ring (element a))
  element-raise (suc n) a =
      element-mul I a (raise F n a)
      ∙ ap (◌⊗◌ (element a)) (element-raise n a)
      ∙ sym (power-suc-left ring (element a) n)

  pub raise-below : (n a : ℕ) → raise F n a < F.size
  unfolding raise
  raise-below zero a = size-two I
  raise-below (suc n) a = mul-below I a (raise F n a)

  raise_zero : (n : ℕ) → 0 < n → raise F n 0 ≡ 0
  unfolding raise
  raise_zero zero l = absurd (not-suc-le-zero l)
  raise_zero (suc n) l = number-zero-mul I (raise F n 0)

  pub raises_elements : (n : ℕ) (f : List ℕ) → T (are_elements F (map (raise F n) f))
  raises_elements n [] = elements-nil F
  raises_elements n (a ∷ f) = elements-cons F (map (raise F n) f) (raise-below n a) (raises_elements n f)

  -- Elements
  gap-elements : (k : ℕ) (f : List ℕ) → T (are_elements F f) → T (are_elements F (gap k f))
  unfolding gap
  gap-elements zero f h = h
  gap-elements (suc k) [] h = h
  gap-elements (suc k) (a ∷ f) h =
      elements-cons F (gap k (a ∷ f)) (size-positive I) (gap-elements k (a ∷ f) h)

  pub spread-elements : (q : ℕ) (f : List ℕ) → T (are_elements F f) → T (are_elements F (spread q f))
  unfolding spread
  spread-elements q [] h = h
  spread-elements q (a ∷ f) h =
      let (l, hs) = elements_uncons F a f h in
      elements-cons F (gap (q - 1) (spread q f)) l
      (gap-elements (q - 1) (spread q f) (spread-elements q f hs))

  -- The lists of elements, and the polynomials
  map-gap : (k : ℕ) (f : List ℕ) → map element (gap k f) ≡ gap-list ring k (map element f)
  unfolding gap gap-list
  map-gap zero f = refl
  map-gap (suc k) [] = refl
  map-gap (suc k) (a ∷ f) = ap₂ ◌∷◌ I.element-zero (map-gap k (a ∷ f))

  pub map-spread : (q : ℕ) (f : List ℕ) → map element (spread q f) ≡ spread-list ring q (map element f)
  unfolding spread spread-list
  map-spread q [] = refl
  map-spread q (a ∷ f) =
      ap (◌∷◌ (element a)) (map-gap (q - 1) (spread q f) ∙ ap (gap-list ring (q - 1)) (map-spread q f))

  pub poly-spread :
      (q : ℕ) → 0 < q → (f : List ℕ) → poly I (spread q f) ≡ spread-polynomial q (poly I f)
  unfolding poly
  poly-spread q pos f = polynomial_ext (λ n. ap (λ u. u n) coefficients)
    where
      coefficients : coefficient (poly I (spread q f)) ≡ coefficient (spread-polynomial q (poly I f))
      coefficients =
          coefficient-from_list ring field.discrete (map element (spread q f))
          ∙ ap (λ xs n. get_or xs n 0#) (map-spread q f)
          ∙ spread-list-series ring q pos (map element f)
          ∙ ap (spread-series ring q) (sym (coefficient-from_list ring field.discrete (map element f)))
          ∙ sym (coefficient-spread q pos (poly I f))

  pub spread-monic :
      (q : ℕ) → 0 < q → (f : List ℕ) → T (is_monic_over F f) → T (is_monic_over F (spread q f))
  spread-monic q pos f h =
      monic_over_lem F (spread q f) (q * degree f) (length-spread q pos f (monic-nonempty F f h))
      (get_or-spread-at q pos f (degree f) ∙ monic-last F f h)
      (spread-elements q f (monic-elements F f h))

  -- The powers p^w
  module _ (w : ℕ) where
    abbrev q : ℕ
    q = F.characteristic ^ w

    pub characteristic_power-pos : 0 < q
    characteristic_power-pos = prime-power-pos I.characteristic.prime w

    -- in the terms of `algebra`: the numbers of the list raised to the power q
    map-raise :
        (f : List ℕ)
        → map-polynomial (λ c. algebra-power ring c q) (poly I f) ≡ poly I (map (raise F q) f)
    map-raise f = polynomial_ext (λ n. place n)
      where
        place :
            (n : ℕ)
            → coefficient (map-polynomial (λ c. algebra-power ring c q) (poly I f)) n
            ≡ coefficient (poly I (map (raise F q) f)) n
        place n =
            coefficient-map (λ c. algebra-power ring c q) (frobenius I.characteristic w).zero (poly I f) n
            ∙ ap (λ c. algebra-power ring c q) (coefficient-poly I f n)
            ∙ sym (element-raise q (get_or f n 0))
            ∙ ap element (sym (get_or-map (raise F q) f n 0))
            ∙ ap (λ d. element (get_or (map (raise F q) f) n d)) (raise_zero q characteristic_power-pos)
            ∙ sym (coefficient-poly I (map (raise F q) f) n)

    power-spread-poly : (f : List ℕ) → poly I (power F f q) ≡ poly I (spread q (map (raise F q) f))
    power-spread-poly f =
        poly-power I f q
        ∙ power-polynomial I.characteristic w (poly I f)
        ∙ ap (spread-polynomial q) (map-raise f)
        ∙ sym (poly-spread q characteristic_power-pos (map (raise F q) f))

    pub power-spread : (f : List ℕ) → 0 < length f → power F f q ≡ spread q (map (raise F q) f)
    power-spread f l =
        list-equal I (power F f q) (spread q (map (raise F q) f)) (power-elements I f q)
        (spread-elements q (map (raise F q) f) (raises_elements q f)) sizes (power-spread-poly f)
      where
        raised : 0 < length (map (raise F q) f)
        raised = rw length-map l

        same-degree : degree f ≡ degree (map (raise F q) f)
        same-degree = sym (length-degree (map (raise F q) f) (length-map f (raise F q) ∙ degree-length f l))

        sizes : length (power F f q) ≡ length (spread q (map (raise F q) f))
        sizes =
            degree-length (power F f q) (power-nonempty I f q l)
            ∙ ap suc (degree-power I f q l ∙ ap (◌*◌ q) same-degree)
            ∙ sym (length-spread q characteristic_power-pos (map (raise F q) f) raised)

    -- numbers raised by one level more
    raise-again : (a : ℕ) → raise F F.characteristic (raise F q a) ≡ raise F (F.characteristic ^ suc w) a
    raise-again a =
        element_injective I (raise-below F.characteristic (raise F q a))
        (raise-below (F.characteristic ^ suc w) a)
        (element-raise F.characteristic (raise F q a)
        ∙ ap (λ c. algebra-power ring c F.characteristic) (element-raise q a)
        ∙ sym (power_tower ring F.characteristic (element a) w)
        ∙ sym (element-raise (F.characteristic ^ suc w) a))

    pub raises_again :
        (f : List ℕ)
        → map (raise F F.characteristic) (map (raise F q) f) ≡ map (raise F (F.characteristic ^ suc w)) f
    raises_again [] = refl
    raises_again (a ∷ f) = ap₂ ◌∷◌ (raise-again a) (raises_again f)

    -- where the size is the characteristic the numbers stay
    module _ (same : F.size ≡ F.characteristic) where
      raise-same : {a : ℕ} → a < F.size → raise F q a ≡ a
      raise-same {a} l =
          element_injective I (raise-below q a) l (element-raise q a ∙ power-fixed I same w (element a))

      pub raises_same : (f : List ℕ) → T (are_elements F f) → map (raise F q) f ≡ f
      raises_same [] h = refl
      raises_same (a ∷ f) h =
          let (l, hs) = elements_uncons F a f h in
          ap₂ ◌∷◌ (raise-same l) (raises_same f hs)

      pub power-spread-same :
          (f : List ℕ) → 0 < length f → T (are_elements F f) → power F f q ≡ spread q f
      power-spread-same f l h = power-spread f l ∙ ap (spread q) (raises_same f h)

  -- numbers raised by no level
  raise-none : {a : ℕ} → a < F.size → raise F (F.characteristic ^ 0) a ≡ a
  raise-none {a} l =
      element_injective I (raise-below (F.characteristic ^ 0) a) l
      (element-raise (F.characteristic ^ 0) a ∙ tower_one ring F.characteristic (element a))

  pub raises_none : (f : List ℕ) → T (are_elements F f) → map (raise F (F.characteristic ^ 0)) f ≡ f
  raises_none [] h = refl
  raises_none (a ∷ f) h =
      let (l, hs) = elements_uncons F a f h in
      ap₂ ◌∷◌ (raise-none l) (raises_none f hs)

-- the degree stays
pub degree_raises : (F : Field) (n : ℕ) (f : List ℕ) → degree (map (raise F n) f) ≡ degree f
unfolding degree
degree_raises F n f = ap (λ m. m - 1) (length-map f (raise F n))
