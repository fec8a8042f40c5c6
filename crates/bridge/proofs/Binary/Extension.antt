-- The field of 2^n elements of `meaning` is a field.
--
--   extension_is_field == for every degree n and every reducing polynomial that is irreducible, together
--
-- Assumes nothing.
use Prim.Native.Nat.{ℕ, zero, suc, ◌+◌, ◌*◌, ◌-◌, ◌/◌, ◌%◌, ◌^◌, ◌≤◌, ◌<◌}
use mathlib.Core.Path.{◌≡◌, refl, sym, ap, ap₂, subst, ◌∙◌}
use mathlib.Core.List.{List, [], ◌∷◌, ◌++◌, map}
use native.Mathlib.Nat.{mod-eq_of_lt, one-mul}
use native.Mathlib.Decide.{dec_lt}
use native.Mathlib.Omega.{arith}
use lib.ListN.{length, get_or, take, length-map, get_or-eq_default}
use lib.Seq.{ext_get_or, length-take-le}
use lib.Dec.{T}
use Rattle.meaning.specs.Search.{range, holds_for_all}
use Rattle.meaning.specs.Field.{Field, prime, is_prime, are_elements, negative}
use Rattle.meaning.specs.Polynomial.{Polynomial, degree, is_monic_over, plus, scale, times, irreducible}
use Rattle.meaning.specs.Extension.{bits, of_bits, times_y, reduced, reducing, binary}
use Rattle.algebra.proofs.Rings.Ring.{zero-add}
use Rattle.algebra.proofs.Rings.Solver.{solve, ◌:=◌, ◌:+◌, ◌:*◌, :-◌}
use Rattle.algebra.proofs.Rings.Ideal.{Divides}
use Rattle.algebra.proofs.Rings.Characteristic.{hom_characteristic}
use Rattle.algebra.proofs.Polynomials.Frobenius.{polynomial_characteristic}
use Rattle.algebra.proofs.Polynomials.Polynomial.{Below, coefficient, polynomial_ext, coefficient-zero, X}
use Rattle.algebra.proofs.Polynomials.Polynomial.{constant}
use Rattle.algebra.proofs.Polynomials.Polynomial.{constant-polynomial-hom}
use Rattle.algebra.proofs.Polynomials.Irreducible.{Irreducible}
use Rattle.algebra.proofs.FiniteFields.Extension.{Rest, rest, rest_path, rest_self, rest_ring, rest_field}
use Rattle.algebra.proofs.FiniteFields.Extension.{rest-hom}
use Rattle.algebra.proofs.FiniteFields.Extension.{rest-same, image}
use Rattle.bridge.proofs.Basics.Searches.{length-range, get_or-range}
use Rattle.bridge.proofs.Basics.Interpretation.{IsField, is_prime-prime, prime-is_field, prime-size}
use Rattle.bridge.proofs.Basics.Interpretation.{prime-negative}
use Rattle.bridge.proofs.Basics.Interpretation.{prime-mul, size-positive, number-zero-mul}
use Rattle.bridge.proofs.Lists.Polynomials.{Poly, poly_ring, poly, poly-plus, poly-times, poly-below}
use Rattle.bridge.proofs.Lists.Polynomials.{poly-x, poly-one, poly-cons, coefficient-poly}
use Rattle.bridge.proofs.Lists.Polynomials.{elements-cons}
use Rattle.bridge.proofs.Lists.Polynomials.{elements-get_or, get_or-elements, plus-elements}
use Rattle.bridge.proofs.Lists.Polynomials.{scale-elements}
use Rattle.bridge.proofs.Lists.Polynomials.{length-scale, times-elements}
use Rattle.bridge.proofs.Lists.Polynomials.{elements_uncons}
use Rattle.bridge.proofs.Lists.Monics.{get_or_mapped, digits, length_digits}
use Rattle.bridge.proofs.Binary.Words.{value as value_of, Below as DigitsBelow, elements-below}
use Rattle.bridge.proofs.Binary.Words.{below-elements, value-below}
use Rattle.bridge.proofs.Binary.Words.{digits_value, value-digits-mod, digits-below}
use Rattle.bridge.proofs.Lists.Irreducibles.{irreducible-poly}
use Rattle.bridge.proofs.Lists.Remainders.{Congruent, congruent_trans, congruent-cons}
use Rattle.bridge.proofs.Lists.Remainders.{congruent-top, congruent-places, lowered, modulus}
use Rattle.bridge.proofs.Lists.Remainders.{modulus-monic}
use Rattle.bridge.proofs.Lists.Remainders.{degree-modulus, lowered-modulus}
use Rattle.bridge.proofs.Basics.Padding.{length-plus-left}
use Rattle.bridge.proofs.Sequences.Continuations.{take-elements}

-- GF(2)
abbrev two : Field
two = prime 2

I : IsField two
unfolding is_prime holds_for_all range
I = prime-is_field (is_prime-prime 2 tt)

below_two : {a : ℕ} → a < two.size → a < 2
below_two {a} l = subst (λ n. a < n) (prime-size 2) l

-- Bits are digits in base 2
pub bits-digits : (n a : ℕ) → bits n a ≡ digits 2 n a
unfolding bits digits
bits-digits zero a = refl
bits-digits (suc n) a = ap (◌∷◌ (a % 2)) (bits-digits n (a / 2))

pub of_bits_value : (l : List ℕ) → of_bits l ≡ value_of 2 l
unfolding of_bits value_of
of_bits_value [] = refl
of_bits_value (b ∷ l) = ap (λ (v : ℕ). b + 2 * v) (of_bits_value l)

length-bits : (n a : ℕ) → length (bits n a) ≡ n
length-bits n a = rw bits-digits (length_digits 2 n a)

bits_below : (n a : ℕ) → DigitsBelow 2 (bits n a)
bits_below n a = rw bits-digits (digits-below 2 n a (omega arith))

elements-below-two : (l : List ℕ) → T (are_elements two l) → DigitsBelow 2 l
elements-below-two l h = subst (λ s. DigitsBelow s l) (prime-size 2) (elements-below two l h)

bits-elements : (n a : ℕ) → T (are_elements two (bits n a))
bits-elements n a =
    below-elements two (subst (λ s. DigitsBelow s (bits n a)) (sym (prime-size 2)) (bits_below n a))

of_bits_below : (l : List ℕ) → T (are_elements two l) → of_bits l < 2 ^ length l
of_bits_below l h = rw of_bits_value (value-below (elements-below-two l h))

bits_of_bits : (l : List ℕ) → T (are_elements two l) → bits (length l) (of_bits l) ≡ l
bits_of_bits l h = rw (bits-digits, of_bits_value) (digits_value (elements-below-two l h))

pub of_bits_bits-mod : (n a : ℕ) → of_bits (bits n a) ≡ a % 2 ^ n
of_bits_bits-mod n a = rw (bits-digits, of_bits_value) (value-digits-mod 2 n a (omega arith))

of_bits_bits : (n a : ℕ) → a < 2 ^ n → of_bits (bits n a) ≡ a
of_bits_bits n a l = of_bits_bits-mod n a ∙ mod-eq_of_lt l

-- in GF(2) an element is its own negative
negative-bit : {b : ℕ} → b < 2 → negative two b ≡ b
negative-bit {b} l =
    prime-negative 2 b ∙ prime-mul 2 1 b ∙ ap (λ (m : ℕ). m % 2) (one-mul b) ∙ mod-eq_of_lt l

negative-bits : (l : List ℕ) → T (are_elements two l) → map (negative two) l ≡ l
negative-bits [] h = refl
negative-bits (b ∷ l) h =
    let (k, t) = elements_uncons two b l h in
    ap₂ ◌∷◌ (negative-bit (below_two k)) (negative-bits l t)

reducing-modulus : (n low : ℕ) → reducing n low ≡ modulus two (bits n low)
unfolding reducing modulus
reducing-modulus n low = ap (λ l. l ++ (1 ∷ [])) (sym (negative-bits (bits n low) (bits-elements n low)))

pub degree-reducing : (n low : ℕ) → degree (reducing n low) ≡ n
degree-reducing n low =
    ap degree (reducing-modulus n low) ∙ degree-modulus two (bits n low) ∙ length-bits n low

pub reducing-monic : (n low : ℕ) → T (is_monic_over two (reducing n low))
reducing-monic n low =
    subst (λ f. T (is_monic_over two f)) (sym (reducing-modulus n low)) (modulus-monic I (bits n low))

module _ (low : List ℕ) (e : T (are_elements two low)) (s : 0 < length low) where
  abbrev g : Polynomial
  g = modulus two low

  degree-g : degree g ≡ suc (length low - 1)
  degree-g = degree-modulus two low ∙ omega arith

  times_y-congruent : (c : ℕ) (r : List ℕ) → length r ≡ length low → Congruent I g (c ∷ r) (times_y low c r)
  unfolding times_y
  times_y-congruent c r l =
      subst (Congruent I g (c ∷ r)) same
      (congruent-top I g (modulus-monic I low) (c ∷ r) (ap suc (l ∙ sym (degree-modulus two low))))
    where
      same :
          plus two (take (degree g) (c ∷ r)) (scale two (get_or (c ∷ r) (degree g) 0) (lowered two g))
          ≡ plus two (c ∷ take (length low - 1) r) (scale two (get_or r (length low - 1) 0) low)
      same =
          ap₂ (λ (n : ℕ) w. plus two (take n (c ∷ r)) (scale two (get_or (c ∷ r) n 0) w)) degree-g
          (lowered-modulus I low e)

  length-times_y : (c : ℕ) (r : List ℕ) → length r ≡ length low → length (times_y low c r) ≡ length low
  unfolding times_y
  length-times_y c r l =
      length-plus-left two (c ∷ take (length low - 1) r) (scale two (get_or r (length low - 1) 0) low)
      (omega (arith, first, length-scale two (get_or r (length low - 1) 0) low))
      ∙ first
    where
      first : length (c ∷ take (length low - 1) r) ≡ length low
      first = omega (arith, length-take-le (length low - 1) r (omega arith))

  length-reduced : (f : Polynomial) → length (reduced low f) ≡ length low
  unfolding reduced
  length-reduced [] = length-scale two 0 low
  length-reduced (c ∷ f) = length-times_y c (reduced low f) (length-reduced f)

  zeros : (l : List ℕ) (i : ℕ) → 0 ≡ get_or (scale two 0 l) i 0
  unfolding scale
  zeros [] i = refl
  zeros (a ∷ l) zero = sym (number-zero-mul I a)
  zeros (a ∷ l) (suc i) = zeros l i

  reduced-congruent : (f : Polynomial) → Congruent I g f (reduced low f)
  unfolding reduced
  reduced-congruent [] = congruent-places I [] (scale two 0 low) (zeros low)
  reduced-congruent (c ∷ f) =
      congruent_trans I (congruent-cons I c (reduced-congruent f))
      (times_y-congruent c (reduced low f) (length-reduced f))

  reduced-elements : (f : Polynomial) → T (are_elements two f) → T (are_elements two (reduced low f))
  unfolding reduced times_y
  reduced-elements [] h = scale-elements I 0 low
  reduced-elements (c ∷ f) h =
      let (k, t) = elements_uncons two c f h in
      plus-elements I (c ∷ take (length low - 1) (reduced low f))
      (scale two (get_or (reduced low f) (length low - 1) 0) low)
      (elements-cons two (take (length low - 1) (reduced low f)) k
      (take-elements two (length low - 1) (reduced low f) (reduced-elements f t)))
      (scale-elements I (get_or (reduced low f) (length low - 1) 0) low)

-- The field
module _ (n low : ℕ) (pos : 1 ≤ n) (irr : T (irreducible two (reducing n low))) where
  abbrev lows : List ℕ
  lows = bits n low

  abbrev m : Polynomial
  m = modulus two lows

  some : 0 < length lows
  some = omega (arith, length-bits n low)

  degree-m : degree m ≡ n
  degree-m = degree-modulus two lows ∙ length-bits n low

  i : Irreducible (poly I m) n
  i =
      subst (Irreducible (poly I m)) degree-m
      (irreducible-poly I m (modulus-monic I lows) (subst (λ k. 1 ≤ k) (sym degree-m) pos)
      (subst (λ f. T (irreducible two f)) (reducing-modulus n low) irr))

  abbrev K : Type 0
  K = Rest I.ring I.field.discrete n

  below : (l : List ℕ) → length l ≡ n → Below (poly I l) n
  below l e = subst (Below (poly I l)) e (poly-below I l)

  unfoldable element : ℕ → K
  element a = (poly I (bits n a), below (bits n a) (length-bits n a))

  unfoldable numbers : Poly I → List ℕ
  numbers h = map (λ j. I.value (coefficient h j)) (range 0 n)

  unfoldable value : K → ℕ
  value a = of_bits (numbers a.0)

  length-numbers : (h : Poly I) → length (numbers h) ≡ n
  unfolding numbers
  length-numbers h = length-map (range 0 n) (λ j. I.value (coefficient h j)) ∙ length-range 0 n

  get_or-numbers : (h : Poly I) (j : ℕ) → j < n → get_or (numbers h) j 0 ≡ I.value (coefficient h j)
  unfolding numbers
  get_or-numbers h j l =
      get_or_mapped (λ j. I.value (coefficient h j)) (range 0 n) j 0 0
      (subst (λ k. j < k) (sym (length-range 0 n)) l)
      ∙ ap (λ k. I.value (coefficient h k)) (get_or-range 0 n j 0 l ∙ omega arith)

  numbers-elements : (h : Poly I) → T (are_elements two (numbers h))
  numbers-elements h =
      get_or-elements two (numbers h)
      (λ j l.
      subst (λ k. k < two.size) (sym (get_or-numbers h j (subst (λ k. j < k) (length-numbers h) l)))
      (I.value-below (coefficient h j)))

  poly-numbers : (a : K) → poly I (numbers a.0) ≡ a.0
  poly-numbers (h, b) = polynomial_ext (λ j. coefficient-poly I (numbers h) j ∙ go j (dec_lt j n))
    where
      go : (j : ℕ) → Dec (j < n) → I.element (get_or (numbers h) j 0) ≡ coefficient h j
      go j (yes l) = ap I.element (get_or-numbers h j l) ∙ I.element_value (coefficient h j)
      go j (no k) =
          ap I.element (get_or-eq_default (numbers h) 0 (omega (arith, length-numbers h)))
          ∙ I.element-zero
          ∙ sym (b.above j (omega arith))

  numbers-poly : (l : List ℕ) → length l ≡ n → T (are_elements two l) → numbers (poly I l) ≡ l
  numbers-poly l e h = ext_get_or 0 (numbers (poly I l)) l (length-numbers (poly I l) ∙ sym e) place
    where
      place : (j : ℕ) → j < length (numbers (poly I l)) → get_or (numbers (poly I l)) j 0 ≡ get_or l j 0
      place j k =
          let k2 : j < n = subst (λ x. j < x) (length-numbers (poly I l)) k in
          get_or-numbers (poly I l) j k2
          ∙ ap I.value (coefficient-poly I l j)
          ∙ I.value_element (get_or l j 0) (elements-get_or two l h j (subst (λ x. j < x) (sym e) k2))

  value-poly :
      (l : List ℕ) → length l ≡ n → T (are_elements two l) → (b : Below (poly I l) n)
      → value (poly I l, b) ≡ of_bits l
  unfolding value
  value-poly l e h b = ap of_bits (numbers-poly l e h)

  -- the remainder of a list of n bits is that list
  rest-list : (l : List ℕ) (e : length l ≡ n) → rest i.monic (poly I l) ≡ (poly I l, below l e)
  rest-list l e = rest_self i.monic (poly I l, below l e)

  module _ (a b : ℕ) where
    abbrev A : List ℕ
    A = bits n a

    abbrev B : List ℕ
    B = bits n b

    sum-length : length (plus two A B) ≡ n
    sum-length =
        length-plus-left two A B (omega (arith, length-bits n a, length-bits n b)) ∙ length-bits n a

    add-equation :
        of_bits (plus two A B) ≡ value (rest i.monic ((poly_ring I).◌⊕◌ (element a).0 (element b).0))
    unfolding element
    add-equation =
        sym (
        ap value (ap (rest i.monic) (sym (poly-plus I A B)) ∙ rest-list (plus two A B) sum-length)
        ∙ value-poly (plus two A B) sum-length
        (plus-elements I A B (bits-elements n a) (bits-elements n b)) _
        )

    abbrev C : List ℕ
    C = reduced lows (times two A B)

    product-length : length C ≡ n
    product-length = length-reduced lows (bits-elements n low) some (times two A B) ∙ length-bits n low

    congruent :
        Divides (poly_ring I) (poly I m)
        ((poly_ring I).◌⊕◌ (poly I (times two A B)) ((poly_ring I).⊖◌ (poly I C)))
    congruent =
        let c = reduced-congruent lows (bits-elements n low) some (times two A B) in
        record {
          quotient = c.quotient;
          equation =
              ap (λ u. (poly_ring I).◌⊕◌ u ((poly_ring I).⊖◌ (poly I C))) c.equation
              ∙ solve (poly_ring I) 3 (λ h q g. h :+ q :* g :+ :- h := q :* g) refl
              (poly I C) c.quotient (poly I m);
        }

    mul-equation :
        of_bits C ≡ value (rest i.monic ((poly_ring I).◌⊗◌ (element a).0 (element b).0))
    unfolding element
    mul-equation =
        sym (
        ap value
        (ap (rest i.monic) (sym (poly-times I A B))
        ∙ rest-same i.monic (poly I (times two A B)) (poly I C) congruent
        ∙ rest-list C product-length)
        ∙ value-poly C product-length
        (reduced-elements lows (bits-elements n low) some (times two A B) (times-elements I A B)) _
        )

  back : (a : K) → element (value a) ≡ a
  unfolding element value
  back a = rest_path (ap (poly I) same ∙ poly-numbers a)
    where
      same : bits n (of_bits (numbers a.0)) ≡ numbers a.0
      same =
          ap (λ k. bits k (of_bits (numbers a.0))) (sym (length-numbers a.0))
          ∙ bits_of_bits (numbers a.0) (numbers-elements a.0)

  forth : (a : ℕ) → a < 2 ^ n → value (element a) ≡ a
  unfolding element
  forth a l = value-poly (bits n a) (length-bits n a) (bits-elements n a) _ ∙ of_bits_bits n a l

  -- a list of n bits that stands for a polynomial below n
  element-list : (a : ℕ) (h : Poly I) → poly I (bits n a) ≡ h → element a ≡ rest i.monic h
  unfolding element
  element-list a h e =
      sym (rest-list (bits n a) (length-bits n a)) ∙ ap (rest i.monic) e

  bits-zero : (k j : ℕ) → get_or (bits k 0) j 0 ≡ 0
  unfolding bits
  bits-zero zero j = refl
  bits-zero (suc k) zero = refl
  bits-zero (suc k) (suc j) = bits-zero k j

  zero-element : element 0 ≡ rest i.monic (poly_ring I).0#
  zero-element =
      element-list 0 (poly_ring I).0#
      (polynomial_ext (λ j.
      coefficient-poly I (bits n 0) j
      ∙ ap I.element (bits-zero n j)
      ∙ I.element-zero
      ∙ sym (coefficient-zero I.ring I.field.discrete j)))

  one-bits : (k j : ℕ) → get_or (bits (suc k) 1) j 0 ≡ get_or (1 ∷ []) j 0
  unfolding bits
  one-bits k zero = refl
  one-bits k (suc j) = bits-zero k j

  one-element : element 1 ≡ rest i.monic (poly_ring I).1#
  one-element =
      element-list 1 (poly_ring I).1#
      (polynomial_ext (λ j.
      coefficient-poly I (bits n 1) j
      ∙ ap I.element (places j)
      ∙ sym (coefficient-poly I (1 ∷ []) j))
      ∙ poly-one I)
    where
      places : (j : ℕ) → get_or (bits n 1) j 0 ≡ get_or (1 ∷ []) j 0
      places j = let e : suc (n - 1) ≡ n = omega arith in
          subst (λ k. get_or (bits k 1) j 0 ≡ get_or (1 ∷ []) j 0) e (one-bits (n - 1) j)

  pub extension_is_field : IsField (binary n low)
  unfolding binary rest_ring image prime
  extension_is_field =
      record {
        K = K;
        ring = rest_ring i.monic;
        field = rest_field I.field i;
        value = value;
        element = element;
        value-below =
            λ a.
            subst (λ k. value a < 2 ^ k) (length-numbers a.0)
            (unfold value in of_bits_below (numbers a.0) (numbers-elements a.0));
        element_value = back;
        value_element = forth;
        element-zero = zero-element;
        element_one = one-element;
        add_value = add-equation;
        mul_value = mul-equation;
        characteristic =
            hom_characteristic (rest-hom i.monic)
            (polynomial_characteristic I.characteristic I.field.discrete);
      }

  -- y is the number 2: twice a number is one step of the reduction
  two-places : 2 ≤ n → (j : ℕ) → get_or (bits n 2) j 0 ≡ get_or (0 ∷ 1 ∷ []) j 0
  unfolding bits
  two-places l j =
      let e : suc (suc (n - 2)) ≡ n = omega arith in
      subst (λ k. get_or (bits k 2) j 0 ≡ get_or (0 ∷ 1 ∷ []) j 0) e (go j)
    where
      go : (j : ℕ) → get_or (bits (suc (suc (n - 2))) 2) j 0 ≡ get_or (0 ∷ 1 ∷ []) j 0
      go zero = refl
      go (suc zero) = refl
      go (suc (suc j)) = bits-zero (n - 2) j

  poly-two : 2 ≤ n → poly I (bits n 2) ≡ X I.ring I.field.discrete
  poly-two l =
      polynomial_ext (λ j.
      coefficient-poly I (bits n 2) j
      ∙ ap I.element (two-places l j)
      ∙ sym (coefficient-poly I (0 ∷ 1 ∷ []) j))
      ∙ poly-x I

  poly-shifted :
      (f : List ℕ) → poly I (0 ∷ f) ≡ (poly_ring I).◌⊗◌ (X I.ring I.field.discrete) (poly I f)
  poly-shifted f =
      poly-cons I 0 f
      ∙ ap (λ c. (poly_ring I).◌⊕◌ c ((poly_ring I).◌⊗◌ (X I.ring I.field.discrete) (poly I f)))
      (ap (constant I.ring I.field.discrete) I.element-zero
      ∙ (constant-polynomial-hom I.ring I.field.discrete).zero)
      ∙ zero-add (poly_ring I) _

  doubled_poly :
      2 ≤ n → (a : ℕ) → (poly_ring I).◌⊗◌ (element 2).0 (element a).0 ≡ poly I (0 ∷ bits n a)
  unfolding element
  doubled_poly l a =
      ap (λ u. (poly_ring I).◌⊗◌ u (poly I (bits n a))) (poly-two l) ∙ sym (poly-shifted (bits n a))

  pub binary-times_y : 2 ≤ n → (a : ℕ) → (binary n low).mul 2 a ≡ of_bits (times_y lows 0 (bits n a))
  unfolding binary
  binary-times_y l a =
      mul-equation 2 a
      ∙ ap value
      (ap (rest i.monic)
      (doubled_poly l a)
      ∙ rest-same i.monic (poly I (0 ∷ bits n a)) (poly I (times_y lows 0 (bits n a))) close
      ∙ rest-list (times_y lows 0 (bits n a)) size)
      ∙ value-poly (times_y lows 0 (bits n a)) size elements _
    where
      e : length (bits n a) ≡ length lows
      e = length-bits n a ∙ sym (length-bits n low)

      size : length (times_y lows 0 (bits n a)) ≡ n
      size = length-times_y lows (bits-elements n low) some 0 (bits n a) e ∙ length-bits n low

      elements : T (are_elements two (times_y lows 0 (bits n a)))
      elements =
          unfold times_y in plus-elements I (0 ∷ take (length lows - 1) (bits n a))
          (scale two (get_or (bits n a) (length lows - 1) 0) lows)
          (elements-cons two (take (length lows - 1) (bits n a)) (size-positive I)
          (take-elements two (length lows - 1) (bits n a) (bits-elements n a)))
          (scale-elements I (get_or (bits n a) (length lows - 1) 0) lows)

      close :
          Divides (poly_ring I) (poly I m)
          ((poly_ring I).◌⊕◌ (poly I (0 ∷ bits n a)) ((poly_ring I).⊖◌ (poly I (times_y lows 0 (bits n a)))))
      close =
          let c = times_y-congruent lows (bits-elements n low) some 0 (bits n a) e in
          record {
            quotient = c.quotient;
            equation =
                ap (λ u. (poly_ring I).◌⊕◌ u ((poly_ring I).⊖◌ (poly I (times_y lows 0 (bits n a)))))
                c.equation
                ∙ solve (poly_ring I) 3 (λ h q g. h :+ q :* g :+ :- h := q :* g) refl
                (poly I (times_y lows 0 (bits n a))) c.quotient (poly I m);
          }
