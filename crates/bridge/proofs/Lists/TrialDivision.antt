-- Trial division on lists of coefficients as a plain program, and that what it finds is what `meaning` says:
-- a test that computes faster than `irreducible`.
--
-- A divisor is the monic polynomial x^a − h, by the list h of its a lower coefficients with the opposite
-- sign: modulo x^a − h the power x^a is h. a is at least 1.
--
--   reduced_cons F h c r == c + x·r modulo x^a − h, for a list r of a coefficients
--   remainder F h r cs == cs + x^n·r modulo x^a − h, where cs has n coefficients and r has a
--   divides F h f      == x^a − h divides f, which has at least a coefficients: the remainder is 0
--   divides_at F f a m c == x^a − h divides f, where h has the constant term c and after it the a − 1 digits
--                          of m
--   divides_some F f a m == the same for some c other than 0
--   has_divisor F f a   == some x^a − h with a constant term other than 0 divides f
--   remainder-congruent == a list is congruent to its remainder modulo x^a − h
--   has_divisor_reducible == what has a divisor of degree a, 1 ≤ a ≤ d/2, is reducible
--   trial_search        == f with a constant term other than 0 is irreducible exactly where no degree up to
--                          d/2 has a divisor
--
-- Assumes nothing.
use Prim.Native.Nat.{ℕ, zero, suc, ◌*◌, ◌-◌, ◌/◌, ◌^◌, ◌≤◌, ◌<◌}
use mathlib.Core.Path.{◌≡◌, refl, sym, ap, ap₂, ◌∙◌, subst}
use mathlib.Core.Logic.{◌≢◌}
use mathlib.Core.Bool.{Bool, not}
use mathlib.Core.List.{List, [], ◌∷◌, ◌++◌}
use lib.ListN.{length, get_or, take, drop, length-drop, take-append-drop}
use lib.Seq.{length-take-le}
use lib.Dec.{T, eqb, eqb→eq, eqb_refl, T_not, not_T}
use native.Mathlib.Nat.{mul-div-le, pos_of_ne-zero, suc_inj}
use native.Mathlib.Omega.{arith}
use Rattle.meaning.specs.Search.{range, holds_for_all, holds_for_some}
use Rattle.meaning.specs.Field.{Field, are_elements, negative}
use Rattle.meaning.specs.Polynomial.{Polynomial, degree, is_monic_over, irreducible, plus, scale}
use Rattle.bridge.proofs.Basics.Searches.{T-same, T-decided, none-range, all_nil, all_cons, all_uncons}
use Rattle.bridge.proofs.Basics.Searches.{some-range}
use Rattle.bridge.proofs.Basics.Searches.{range-some}
use Rattle.bridge.proofs.Basics.Interpretation.{IsField, size-positive}
use Rattle.bridge.proofs.Lists.Polynomials.{plus-elements, scale-elements, length-scale}
use Rattle.bridge.proofs.Lists.Polynomials.{monic-elements, monic-length, get_or-below}
use Rattle.bridge.proofs.Lists.Monics.{digits, length_digits}
use Rattle.bridge.proofs.Lists.Irreducibles.{Divisor, divisor_reducible, irreducible_trial}
use Rattle.bridge.proofs.Lists.Remainders.{
  Congruent,
  congruent-refl,
  congruent_trans,
  congruent-cons,
  congruent-top,
  modulus,
  modulus-monic,
  degree-modulus,
  lowered,
  lowered-modulus,
  modulus-lowered,
  lowered-elements,
  length-lowered,
  get_or-lowered,
  remainder-divisor,
  divisor-remainder,
  number-negative-negative,
  number-negative-zero,
}
use Rattle.bridge.proofs.Binary.Words.{value, Below, below_nil, below-cons, elements-below}
use Rattle.bridge.proofs.Binary.Words.{below-elements}
use Rattle.bridge.proofs.Binary.Words.{digits_value, digits-below, value-below, take_below, drop-below}

unfoldable pub reduced_cons : Field → List ℕ → ℕ → List ℕ → List ℕ
reduced_cons F h c r = plus F (c ∷ take (length h - 1) r) (scale F (get_or r (length h - 1) 0) h)

unfoldable pub remainder : Field → List ℕ → List ℕ → List ℕ → List ℕ
remainder F h r [] = r
remainder F h r (c ∷ cs) = reduced_cons F h c (remainder F h r cs)

unfoldable pub divides : Field → List ℕ → Polynomial → Bool
divides F h f =
    holds_for_all (eqb 0) (remainder F h (drop (length f - length h) f) (take (length f - length h) f))

unfoldable pub divides_at : Field → Polynomial → ℕ → ℕ → ℕ → Bool
divides_at F f a m c = divides F (c ∷ digits F.size (a - 1) m) f

unfoldable pub divides_some : Field → Polynomial → ℕ → ℕ → Bool
divides_some F f a m = holds_for_some (divides_at F f a m) (range 1 (F.size - 1))

unfoldable pub has_divisor : Field → Polynomial → ℕ → Bool
has_divisor F f a = holds_for_some (divides_some F f a) (range 0 (F.size ^ (a - 1)))

-- A remainder modulo x^a − h has a coefficients
sum-length : (F : Field) (f g : List ℕ) → length f ≡ length g → length (plus F f g) ≡ length g
unfolding plus
sum-length F [] g e = refl
sum-length F (a ∷ f) [] e = e
sum-length F (a ∷ f) (b ∷ g) e = ap suc (sum-length F f g (suc_inj e))

-- c ∷ r without its last coefficient is as long as h
length-shifted :
    (h : List ℕ) (c : ℕ) (r : List ℕ) → 0 < length h → length r ≡ length h
    → length (c ∷ take (length h - 1) r) ≡ length h
length-shifted h c r s e = let l = length-take-le (length h - 1) r (omega arith) in omega arith

shifted-lengths :
    (F : Field) (h : List ℕ) (c t : ℕ) (r : List ℕ) → 0 < length h → length r ≡ length h
    → length (c ∷ take (length h - 1) r) ≡ length (scale F t h)
shifted-lengths F h c t r s e = length-shifted h c r s e ∙ sym (length-scale F t h)

length-reduced_cons :
    (F : Field) (h : List ℕ) (c : ℕ) (r : List ℕ) → 0 < length h → length r ≡ length h
    → length (reduced_cons F h c r) ≡ length h
unfolding reduced_cons
length-reduced_cons F h c r s e =
    sum-length F _ _ (shifted-lengths F h c (get_or r (length h - 1) 0) r s e) ∙ length-scale F _ h

length-remainder :
    (F : Field) (h r cs : List ℕ) → 0 < length h → length r ≡ length h
    → length (remainder F h r cs) ≡ length h
unfolding remainder
length-remainder F h r [] s e = e
length-remainder F h r (c ∷ cs) s e =
    length-reduced_cons F h c (remainder F h r cs) s (length-remainder F h r cs s e)

-- Lists of zeros
zeros-get_or : (f : List ℕ) → T (holds_for_all (eqb 0) f) → (i : ℕ) → get_or f i 0 ≡ 0
zeros-get_or [] h i = refl
zeros-get_or (c ∷ f) h zero = sym (eqb→eq 0 c (all_uncons (eqb 0) c f h).0)
zeros-get_or (c ∷ f) h (suc i) = zeros-get_or f (all_uncons (eqb 0) c f h).1 i

get_or-zeros : (f : List ℕ) → ((i : ℕ) → get_or f i 0 ≡ 0) → T (holds_for_all (eqb 0) f)
get_or-zeros [] h = all_nil (eqb 0)
get_or-zeros (c ∷ f) h =
    all_cons (eqb 0) c f (subst (λ (x : ℕ). T (eqb 0 x)) (sym (h 0)) (eqb_refl 0))
    (get_or-zeros f (λ i. h (suc i)))

module _ {F : Field} (I : IsField F) where
  reduced_cons-elements :
      (h : List ℕ) (c : ℕ) (r : List ℕ)
      → c < F.size
      → Below F.size r
      → T (are_elements F (reduced_cons F h c r))
  unfolding reduced_cons
  reduced_cons-elements h c r l b =
      plus-elements I (c ∷ take (length h - 1) r) (scale F (get_or r (length h - 1) 0) h)
      (below-elements F (below-cons l (take_below (length h - 1) b)))
      (scale-elements I (get_or r (length h - 1) 0) h)

  remainder-elements :
      (h r : List ℕ) {cs : List ℕ} → Below F.size r → Below F.size cs
      → T (are_elements F (remainder F h r cs))
  unfolding remainder
  remainder-elements h r b below_nil = below-elements F b
  remainder-elements h r b (below-cons {c} {f = cs} l ls) =
      reduced_cons-elements h c (remainder F h r cs) l
      (elements-below F (remainder F h r cs) (remainder-elements h r b ls))

  module _ (h : List ℕ) (e : T (are_elements F h)) (s : 0 < length h) where
    abbrev g : Polynomial
    g = modulus F h

    degree-g : degree g ≡ suc (length h - 1)
    degree-g = degree-modulus F h ∙ omega arith

    reduced_cons-congruent :
        (c : ℕ) (r : List ℕ) → length r ≡ length h → Congruent I g (c ∷ r) (reduced_cons F h c r)
    unfolding reduced_cons
    reduced_cons-congruent c r l =
        subst (Congruent I g (c ∷ r)) same
        (congruent-top I g (modulus-monic I h) (c ∷ r) (ap suc (l ∙ sym (degree-modulus F h))))
      where
        same :
            plus F (take (degree g) (c ∷ r)) (scale F (get_or (c ∷ r) (degree g) 0) (lowered F g))
            ≡ plus F (c ∷ take (length h - 1) r) (scale F (get_or r (length h - 1) 0) h)
        same =
            ap₂ (λ (n : ℕ) w. plus F (take n (c ∷ r)) (scale F (get_or (c ∷ r) n 0) w)) degree-g
            (lowered-modulus I h e)

    pub remainder-congruent :
        (r cs : List ℕ) → length r ≡ length h → Congruent I g (cs ++ r) (remainder F h r cs)
    unfolding remainder
    remainder-congruent r [] l = congruent-refl I r
    remainder-congruent r (c ∷ cs) l =
        congruent_trans I (congruent-cons I c (remainder-congruent r cs l))
        (reduced_cons-congruent c (remainder F h r cs) (length-remainder F h r cs s l))

    module _ (f : Polynomial) (m : T (is_monic_over F f)) (k : length h ≤ length f) where
      abbrev n : ℕ
      n = length f - length h

      abbrev rest : List ℕ
      rest = remainder F h (drop n f) (take n f)

      length_high : length (drop n f) ≡ length h
      length_high = length-drop n f ∙ omega arith

      rest-congruent : Congruent I g f rest
      rest-congruent =
          subst (λ u. Congruent I g u rest) (take-append-drop n f)
          (remainder-congruent (drop n f) (take n f) length_high)

      -- the remainder is 0 exactly where x^a − h divides f
      tried-divisor : T (divides F h f) → Divisor F g f
      unfolding divides
      tried-divisor t =
          remainder-divisor I g f (modulus-monic I h) m rest rest-congruent (zeros-get_or rest t)

      divisor-tried : Divisor F g f → T (divides F h f)
      unfolding divides
      divisor-tried d =
          get_or-zeros rest
          (divisor-remainder I g f (modulus-monic I h) m rest
          (remainder-elements h (drop n f) (drop-below n below) (take_below n below))
          (omega (arith, length-remainder F h (drop n f) (take n f) s length_high, degree-modulus F h))
          rest-congruent
          d)
        where
          below : Below F.size f
          below = elements-below F f (monic-elements F f m)

  -- a divisor of degree a, with a constant term other than 0
  module _ (f : Polynomial) (m : T (is_monic_over F f)) (a : ℕ) (l : 1 ≤ a) (k : a ≤ degree f / 2) where
    half : 2 * a ≤ degree f
    half = omega (arith, mul-div-le (degree f) 2)

    module _ (i c : ℕ) (z : c < F.size) where
      abbrev tried : List ℕ
      tried = c ∷ digits F.size (a - 1) i

      tried-length : length tried ≡ a
      tried-length = omega (arith, length_digits F.size (a - 1) i)

      tried-elements : T (are_elements F tried)
      tried-elements = below-elements F (below-cons z (digits-below F.size (a - 1) i (size-positive I)))

      tried_reducible : T (divides F tried f) → ¬ T (irreducible F f)
      tried_reducible v =
          divisor_reducible I (modulus F tried) f (modulus-monic I tried)
          (omega (arith, degree-modulus F tried, tried-length))
          (omega (arith, degree-modulus F tried, tried-length, half))
          (tried-divisor tried tried-elements (omega arith) f m
          (omega (arith, tried-length, monic-length F f m, half)) v)

    pub has_divisor_reducible : T (has_divisor F f a) → ¬ T (irreducible F f)
    unfolding has_divisor divides_some divides_at
    has_divisor_reducible t =
        let (i, _, _, u) = some-range (divides_some F f a) 0 (F.size ^ (a - 1)) t in
        let (c, y, z, v) = some-range (divides_at F f a i) 1 (F.size - 1) u in
        tried_reducible i c (omega arith) v

  -- a divisor that the search tries
  module _ (f : Polynomial) (m : T (is_monic_over F f)) where
    divides-found :
        (a c : ℕ) (t : List ℕ) → length t ≡ a - 1 → 1 ≤ c → c < F.size → Below F.size t
        → T (divides F (c ∷ t) f)
        → T (has_divisor F f a)
    unfolding has_divisor divides_some divides_at
    divides-found a c t e l z b d =
        range-some (divides_some F f a) 0 (F.size ^ (a - 1)) i (omega arith) (omega (arith, less))
        (range-some (divides_at F f a i) 1 (F.size - 1) c l (omega arith)
        (subst (λ u. T (divides F (c ∷ u) f)) (sym whole) d))
      where
        i : ℕ
        i = value F.size t

        less : i < F.size ^ (a - 1)
        less = subst (λ (j : ℕ). i < F.size ^ j) e (value-below b)

        whole : digits F.size (a - 1) i ≡ t
        whole = ap (λ (j : ℕ). digits F.size j i) (sym e) ∙ digits_value b

    divides-found-list :
        (a : ℕ) (h : List ℕ) → length h ≡ a → 1 ≤ a → get_or h 0 0 ≢ 0 → Below F.size h → T (divides F h f)
        → T (has_divisor F f a)
    divides-found-list a [] e l z b d = absurd (omega arith)
    divides-found-list a (c ∷ t) e l z (below-cons y b) d =
        divides-found a c t (omega arith) (pos_of_ne-zero z) y b d

    -- the constant term of the list is 0 only where that of the divisor is
    lowered-constant :
        (g : Polynomial) → T (is_monic_over F g) → 1 ≤ degree g → get_or g 0 0 ≢ 0 → get_or (lowered F g) 0
        0 ≢ 0
    lowered-constant g o l z e =
        z
        (sym (number-negative-negative I (get_or-below I g (monic-elements F g o) 0))
        ∙ ap (negative F) (sym (get_or-lowered F g 0 l) ∙ e)
        ∙ number-negative-zero I)

    divisor-found :
        (g : Polynomial) → T (is_monic_over F g) → 1 ≤ degree g → degree g ≤ degree f → get_or g 0 0 ≢ 0
        → Divisor F g f
        → T (has_divisor F f (degree g))
    divisor-found g o l k z d =
        divides-found-list (degree g) (lowered F g) (length-lowered F g) l (lowered-constant g o l z)
        (elements-below F (lowered F g) (lowered-elements I g))
        (divisor-tried (lowered F g) (lowered-elements I g) (omega (arith, length-lowered F g)) f m
        (omega (arith, length-lowered F g, monic-length F f m))
        (subst (λ u. Divisor F u f) (sym (modulus-lowered I g o)) d))

    pub trial_search :
        get_or f 0 0 ≢ 0 → not (irreducible F f) ≡ holds_for_some (has_divisor F f) (range 1 (degree f / 2))
    trial_search z = T-same search found
      where
        search : T (not (irreducible F f)) → T (holds_for_some (has_divisor F f) (range 1 (degree f / 2)))
        search r = elim (T-decided (holds_for_some (has_divisor F f) (range 1 (degree f / 2)))) [
          | yes t ↦ t
          | no t ↦ absurd (T_not (irreducible F f) r (irreducible_trial I f m z (λ g o l k y d.
              none-range (has_divisor F f) 1 (degree f / 2) t (degree g) l (omega arith)
              (divisor-found g o l (omega arith) y d))))
        ]

        found : T (holds_for_some (has_divisor F f) (range 1 (degree f / 2))) → T (not (irreducible F f))
        found t =
            let (a, l, k, u) = some-range (has_divisor F f) 1 (degree f / 2) t in
            not_T (irreducible F f) (has_divisor_reducible f m a l (omega arith) u)
