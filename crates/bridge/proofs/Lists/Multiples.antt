-- The monic multiple of a list, for which a factor with any leading coefficient stands.
--
--   Leads F f         == f is a list over F whose leading coefficient is not 0; `coefficients_lead`: one that
--                        11 lets pass
--   multiple-found    == its monic multiple is c·f, where c times its leading coefficient is 1
--   multiple-unique   == whatever such c is
--   multiple-back     == f is its leading coefficient times its monic multiple
--   multiple-monic, multiple-length, multiple_self == it is monic, and as long as f; a monic list is its own
--   multiple-ten, multiple-eleven, multiples-ten, multiples-eleven == 10 holds of it where it holds of f, and
--                        it is monic over the field; of all factors of a list
--   multiples_self, multiples-total, multiples_uppers == monic factors are their own; the total degree and 14
--                        are as they were
--   Associates f g    == each divides the other; products and powers of associates are associates
--   associates_annihilate == associates annihilate the same sequences
--   multiple_associates, associates_product == a list and its monic multiple, the product of powers of
--                        factors and that of the same powers of their multiples
--   multiple-product, product-multiple == f is no product of two of positive degree exactly where its
--                        multiple is none
-- Assumes nothing.
use Prim.Native.Nat.{ℕ, zero, suc, ◌+◌, ◌*◌, ◌-◌, ◌<◌}
use mathlib.Core.Path.{◌≡◌, refl, sym, ap, ap₂, subst, ◌∙◌}
use mathlib.Core.Logic.{◌≢◌, ◌↔◌}
use mathlib.Core.Bool.{true, false, not, ◌||◌}
use mathlib.Core.List.{List, [], ◌∷◌, map}
use native.Mathlib.Omega.{arith}
use lib.ListN.{length, get_or, length-map, get_or-map}
use lib.Dec.{T, eqb, ltb, eqb→eq}
use borrow.Author.Tests.{eq-eqb}
use Rattle.meaning.specs.Search.{holds_for_some}
use Rattle.meaning.specs.Field.{Field, are_elements}
use Rattle.meaning.specs.Polynomial.{Polynomial, degree, leading, is_monic, is_monic_over, scale, times}
use Rattle.meaning.specs.Polynomial.{power}
use Rattle.meaning.specs.Polynomial.{product, monic_multiple, NotAProduct}
use Rattle.meaning.specs.Sequence.{Sequence, AnnihilatesEndless}
use Rattle.meaning.specs.Conditions.{named, total_degree, factor_degree_out_of_range}
use Rattle.meaning.specs.Conditions.{coefficient_out_of_range}
use Rattle.meaning.specs.Conditions.{not_monic, upper_powers_out_of_range}
use Rattle.algebra.proofs.Rings.Ideal.{Divides, divides-mul, divides-refl, divides-multiple}
use Rattle.algebra.proofs.Polynomials.Polynomial.{constant}
use Rattle.algebra.proofs.Sequences.Annihilator.{kills-ideal}
use Rattle.bridge.proofs.Basics.Searches.{true-T, least_exists, or-false, not-false, T-not-false}
use Rattle.bridge.proofs.Basics.Searches.{T_and}
use Rattle.bridge.proofs.Basics.Searches.{none_uncons, none-cons, false-T}
use Rattle.bridge.proofs.Basics.Interpretation.{IsField, number-mul_comm, number-mul_assoc}
use Rattle.bridge.proofs.Basics.Interpretation.{number-one-mul}
use Rattle.bridge.proofs.Basics.Interpretation.{number-mul-zero, reciprocal, reciprocal-below}
use Rattle.bridge.proofs.Basics.Interpretation.{number-mul-reciprocal}
use Rattle.bridge.proofs.Lists.Polynomials.{poly, poly_ring, poly-scale, poly-times, length-scale}
use Rattle.bridge.proofs.Lists.Polynomials.{scale-elements, leading-get_or, leading-nonempty}
use Rattle.bridge.proofs.Lists.Polynomials.{degree-length}
use Rattle.bridge.proofs.Lists.Polynomials.{monic_over_lem, monic-leading, monic-elements, elements_uncons}
use Rattle.bridge.proofs.Lists.Polynomials.{get_or-below, list-equal, times-elements, length-times}
use Rattle.bridge.proofs.Sequences.Actions.{endless-kills, kills-endless}
use Rattle.bridge.proofs.Lists.Products.{accepted-monic}

-- a list over the field with a leading coefficient other than 0
pub record Leads (F : Field) (f : Polynomial) : Type 0 where
  pub elements : T (are_elements F f)
  pub nonzero : leading f ≢ 0

pub coefficients_lead : (F : Field) (f : Polynomial) → coefficient_out_of_range F f ≡ false → Leads F f
unfolding coefficient_out_of_range
coefficients_lead F f h =
    let (a, b) = or-false (not (are_elements F f)) (eqb (leading f) 0) h in
    record {
      elements = not-false (are_elements F f) a;
      nonzero = λ z. false-T b (subst (λ c. T (eqb c 0)) (sym z) tt);
    }

pub monic-leads : (F : Field) (f : Polynomial) → T (is_monic_over F f) → Leads F f
monic-leads F f m =
    record { elements = monic-elements F f m; nonzero = λ z. omega (arith, monic-leading F f m) }

-- 11 lets a monic list pass
pub monic-coefficients : (F : Field) (f : Polynomial) → not_monic F f ≡ false
    → coefficient_out_of_range F f ≡ false
unfolding coefficient_out_of_range not_monic
monic-coefficients F f h =
    let (a, _) = or-false (not (are_elements F f)) (not (is_monic f)) h in
    let e = monic-leading F f (accepted-monic F f h) in
    rw (a, e)

pub monics-coefficients :
    (F : Field) (fs : List Polynomial)
    → holds_for_some (not_monic F) fs ≡ false
    → holds_for_some (coefficient_out_of_range F) fs ≡ false
unfolding holds_for_some
monics-coefficients F [] h = refl
monics-coefficients F (f ∷ fs) h =
    let (a, b) = none_uncons (not_monic F) f fs h in
    none-cons (coefficient_out_of_range F) f fs (monic-coefficients F f a) (monics-coefficients F fs b)

module _ {F : Field} (I : IsField F) where
  open I use {K, ring, field, element}

  leading-below : (f : Polynomial) → T (are_elements F f) → leading f < F.size
  leading-below f h = subst (λ c. c < F.size) (sym (leading-get_or f)) (get_or-below I f h (degree f))

  -- THE MULTIPLE
  pub multiple-found :
      {f : Polynomial}
      → Leads F f
      → (c : ℕ) × (F.mul (leading f) c ≡ 1) × (monic_multiple F f ≡ scale F c f)
  unfolding monic_multiple
  multiple-found {f} x =
      let (r, e, _, m) =
      least_exists (F.size - 1) (λ c. eqb (F.mul (leading f) c) 1) (reciprocal I (leading f))
      (omega (arith, reciprocal-below I (leading f)))
      (true-T (eq-eqb _ 1 (number-mul-reciprocal I (leading-below f x.elements) x.nonzero))) in
      (r, eqb→eq _ 1 m.holds, rw (e, monic_multiple))

  scale_back : (c d : ℕ) (f : Polynomial) → T (are_elements F f) → F.mul d c ≡ 1
      → scale F d (scale F c f) ≡ f
  unfolding scale
  scale_back c d [] h e = refl
  scale_back c d (a ∷ f) h e =
      let (l, k) = elements_uncons F a f h in
      ap₂ ◌∷◌
      (sym (number-mul_assoc I d c a) ∙ ap (λ u. F.mul u a) e ∙ number-one-mul I l)
      (scale_back c d f k e)

  pub multiple-elements : {f : Polynomial} → Leads F f → T (are_elements F (monic_multiple F f))
  multiple-elements {f} x =
      let (c, _, m) = multiple-found x in subst (λ g. T (are_elements F g)) (sym m) (scale-elements I c f)

  -- f is a multiple of it, and it is monic
  pub multiple-back : {f : Polynomial} → Leads F f → scale F (leading f) (monic_multiple F f) ≡ f
  multiple-back {f} x =
      let (c, e, m) = multiple-found x in
      ap (scale F (leading f)) m ∙ scale_back c (leading f) f x.elements e

  pub multiple-unique :
      {f : Polynomial} → Leads F f → (c : ℕ) → F.mul (leading f) c ≡ 1 → scale F c f ≡ monic_multiple F f
  multiple-unique {f} x c e =
      ap (scale F c) (sym (multiple-back x))
      ∙ scale_back (leading f) c (monic_multiple F f) (multiple-elements x)
      (number-mul_comm I c (leading f) ∙ e)

  pub multiple-monic : {f : Polynomial} → Leads F f → T (is_monic_over F (monic_multiple F f))
  unfolding scale
  multiple-monic {f} x =
      let (c, e, m) = multiple-found x in
      let size = length-scale F c f ∙ degree-length f (leading-nonempty f x.nonzero) in
      subst (λ g. T (is_monic_over F g)) (sym m)
      (monic_over_lem F (scale F c f) (degree f) size
      (ap (get_or (scale F c f) (degree f)) (sym (number-mul-zero I c))
      ∙ get_or-map (F.mul c) f (degree f) 0
      ∙ ap (F.mul c) (sym (leading-get_or f))
      ∙ number-mul_comm I c (leading f)
      ∙ e)
      (scale-elements I c f))

  scale_one : (g : Polynomial) → T (are_elements F g) → scale F 1 g ≡ g
  unfolding scale
  scale_one [] k = refl
  scale_one (a ∷ g) k = let (l, n) = elements_uncons F a g k in ap₂ ◌∷◌ (number-one-mul I l) (scale_one g n)

  -- a monic list is its own multiple
  pub multiple_self : (f : Polynomial) → T (is_monic_over F f) → monic_multiple F f ≡ f
  multiple_self f m =
      let x = monic-leads F f m in
      sym (scale_one (monic_multiple F f) (multiple-elements x))
      ∙ ap (λ c. scale F c (monic_multiple F f)) (sym (monic-leading F f m))
      ∙ multiple-back x

  pub multiple-length : {f : Polynomial} → Leads F f → length (monic_multiple F f) ≡ length f
  multiple-length {f} x = let (c, _, m) = multiple-found x in ap length m ∙ length-scale F c f

  pub multiple-degree : {f : Polynomial} → Leads F f → degree (monic_multiple F f) ≡ degree f
  unfolding degree
  multiple-degree x = ap (λ n. n - 1) (multiple-length x)

  -- 10 AND 11 of the multiples
  same-ten : (f g : Polynomial) → length f ≡ length g
      → factor_degree_out_of_range F f ≡ factor_degree_out_of_range F g
  unfolding factor_degree_out_of_range degree
  same-ten [] [] e = refl
  same-ten [] (b ∷ g) e = absurd (omega arith)
  same-ten (a ∷ f) [] e = absurd (omega arith)
  same-ten (a ∷ f) (b ∷ g) e = rw e

  pub multiple-ten :
      {f : Polynomial} → Leads F f → factor_degree_out_of_range F (monic_multiple F f) ≡
      factor_degree_out_of_range F f
  multiple-ten {f} x = same-ten (monic_multiple F f) f (multiple-length x)

  pub multiple-eleven : {f : Polynomial} → Leads F f → not_monic F (monic_multiple F f) ≡ false
  unfolding not_monic is_monic_over
  multiple-eleven {f} x =
      let g = monic_multiple F f in
      let (m, e) = T_and (is_monic g) (are_elements F g) (multiple-monic x) in
      rw (T-not-false (are_elements F g) e, T-not-false (is_monic g) m)

  -- all factors of a list
  pub multiples-ten :
      (fs : List Polynomial)
      → holds_for_some (coefficient_out_of_range F) fs ≡ false
      → holds_for_some (factor_degree_out_of_range F) fs ≡ false
      → holds_for_some (factor_degree_out_of_range F) (map (monic_multiple F) fs) ≡ false
  multiples-ten [] h k = k
  multiples-ten (f ∷ fs) h k =
      let (a, b) = none_uncons (coefficient_out_of_range F) f fs h in
      let (c, d) = none_uncons (factor_degree_out_of_range F) f fs k in
      none-cons (factor_degree_out_of_range F) (monic_multiple F f) (map (monic_multiple F) fs)
      (multiple-ten (coefficients_lead F f a) ∙ c) (multiples-ten fs b d)

  pub multiples-eleven :
      (fs : List Polynomial)
      → holds_for_some (coefficient_out_of_range F) fs ≡ false
      → holds_for_some (not_monic F) (map (monic_multiple F) fs) ≡ false
  unfolding holds_for_some
  multiples-eleven [] h = refl
  multiples-eleven (f ∷ fs) h =
      let (a, b) = none_uncons (coefficient_out_of_range F) f fs h in
      none-cons (not_monic F) (monic_multiple F f) (map (monic_multiple F) fs)
      (multiple-eleven (coefficients_lead F f a)) (multiples-eleven fs b)

  pub multiples_self : (fs : List Polynomial) → holds_for_some (not_monic F) fs ≡ false
      → map (monic_multiple F) fs ≡ fs
  multiples_self [] h = refl
  multiples_self (f ∷ fs) h =
      let (a, b) = none_uncons (not_monic F) f fs h in
      ap₂ ◌∷◌ (multiple_self f (accepted-monic F f a)) (multiples_self fs b)

  pub multiples-total :
      (fs : List Polynomial) (vs : List ℕ)
      → holds_for_some (coefficient_out_of_range F) fs ≡ false
      → total_degree (named (map (monic_multiple F) fs) vs) ≡ total_degree (named fs vs)
  unfolding total_degree named
  multiples-total [] vs h = refl
  multiples-total (f ∷ fs) [] h =
      let (a, b) = none_uncons (coefficient_out_of_range F) f fs h in
      ap₂ (λ d n. 0 * d + n) (multiple-degree (coefficients_lead F f a)) (multiples-total fs [] b)
  multiples-total (f ∷ fs) (v ∷ vs) h =
      let (a, b) = none_uncons (coefficient_out_of_range F) f fs h in
      ap₂ (λ d n. v * d + n) (multiple-degree (coefficients_lead F f a)) (multiples-total fs vs b)

  -- 14 of the multiples
  uppers_zero :
      (fs gs : List Polynomial) (vs : List ℕ)
      → length fs ≡ length gs
      → holds_for_some (λ (f : Polynomial × ℕ). eqb f.1 0) (named fs vs)
      ≡ holds_for_some (λ (f : Polynomial × ℕ). eqb f.1 0) (named gs vs)
  unfolding named holds_for_some
  uppers_zero [] [] vs e = refl
  uppers_zero [] (g ∷ gs) vs e = absurd (omega arith)
  uppers_zero (f ∷ fs) [] vs e = absurd (omega arith)
  uppers_zero (f ∷ fs) (g ∷ gs) [] e = refl
  uppers_zero (f ∷ fs) (g ∷ gs) (v ∷ vs) e =
      ap (λ b. elim (eqb v 0) [ true ↦ true | false ↦ b ]) (uppers_zero fs gs vs (omega arith))

  pub multiples_uppers :
      (fs : List Polynomial) (vs : List ℕ)
      → holds_for_some (coefficient_out_of_range F) fs ≡ false
      → upper_powers_out_of_range (named (map (monic_multiple F) fs) vs) ≡ upper_powers_out_of_range
      (named fs vs)
  unfolding upper_powers_out_of_range
  multiples_uppers fs vs h =
      ap₂ (λ b d. b || ltb 4096 d)
      (uppers_zero (map (monic_multiple F) fs) fs vs (length-map fs (monic_multiple F)))
      (multiples-total fs vs h)

  -- ASSOCIATES
  pub record Associates (f g : Polynomial) : Type 0 where
    pub left : Divides (poly_ring I) (poly I f) (poly I g)
    pub right : Divides (poly_ring I) (poly I g) (poly I f)

  scale-divides : (c : ℕ) (f : Polynomial) → Divides (poly_ring I) (poly I f) (poly I (scale F c f))
  scale-divides c f =
      rw (poly-scale I c f)
      (divides-multiple (poly_ring I) (constant ring field.discrete (element c)) (poly I f))

  pub multiple_associates : {f : Polynomial} → Leads F f → Associates f (monic_multiple F f)
  multiple_associates {f} x =
      let (c, _, m) = multiple-found x in
      record {
        left = rw m (scale-divides c f);
        right =
            subst (λ g. Divides (poly_ring I) (poly I (monic_multiple F f)) (poly I g)) (multiple-back x)
            (scale-divides (leading f) (monic_multiple F f));
      }

  associates_times : {f g h k : Polynomial} → Associates f g → Associates h k
      → Associates (times F f h) (times F g k)
  associates_times {f} {g} {h} {k} x y =
      record {
        left = rw (poly-times I f h, poly-times I g k) (divides-mul (poly_ring I) x.left y.left);
        right = rw (poly-times I f h, poly-times I g k) (divides-mul (poly_ring I) x.right y.right);
      }

  associates_same : (f : Polynomial) → Associates f f
  associates_same f =
      record { left = divides-refl (poly_ring I) (poly I f); right = divides-refl (poly_ring I) (poly I f) }

  pub associates_power : {f g : Polynomial} → Associates f g → (n : ℕ)
      → Associates (power F f n) (power F g n)
  unfolding power
  associates_power x zero = associates_same (1 ∷ [])
  associates_power x (suc n) = associates_times x (associates_power x n)

  pub associates_product :
      (fs : List Polynomial) (vs : List ℕ)
      → holds_for_some (coefficient_out_of_range F) fs ≡ false
      → Associates (product F (named fs vs)) (product F (named (map (monic_multiple F) fs) vs))
  unfolding product named
  associates_product [] vs h = associates_same (1 ∷ [])
  associates_product (f ∷ fs) [] h =
      let (a, b) = none_uncons (coefficient_out_of_range F) f fs h in
      associates_times (associates_power (multiple_associates (coefficients_lead F f a)) 0)
      (associates_product fs [] b)
  associates_product (f ∷ fs) (v ∷ vs) h =
      let (a, b) = none_uncons (coefficient_out_of_range F) f fs h in
      associates_times (associates_power (multiple_associates (coefficients_lead F f a)) v)
      (associates_product fs vs b)

  kills-multiple :
      (f g : Polynomial)
      → Divides (poly_ring I) (poly I f) (poly I g)
      → (s : Sequence)
      → AnnihilatesEndless F f s
      → AnnihilatesEndless F g s
  kills-multiple f g d s h =
      kills-endless I g s (rw d.equation ((kills-ideal _).multiple d.quotient (endless-kills I f s h)))

  pub associates_annihilate :
      {f g : Polynomial}
      → Associates f g
      → (s : Sequence)
      → AnnihilatesEndless F f s ↔ AnnihilatesEndless F g s
  associates_annihilate {f} {g} x s = (kills-multiple f g x.left s, kills-multiple g f x.right s)

  -- PRODUCTS of two of positive degree
  scale-times :
      (c : ℕ) (g h : Polynomial)
      → 0 < length g
      → 0 < length h
      → times F (scale F c g) h ≡ scale F c (times F g h)
  scale-times c g h l k =
      list-equal I (times F (scale F c g) h) (scale F c (times F g h)) (times-elements I (scale F c g) h)
      (scale-elements I c (times F g h))
      (length-times I (scale F c g) h (subst (λ n. 0 < n) (sym (length-scale F c g)) l) k
      ∙ ap (λ n. n + length h - 1) (length-scale F c g)
      ∙ sym (length-scale F c (times F g h) ∙ length-times I g h l k))
      (poly-times I (scale F c g) h
      ∙ ap (λ u. (poly_ring I).◌⊗◌ u (poly I h)) (poly-scale I c g)
      ∙ (poly_ring I).mul_assoc _ (poly I g) (poly I h)
      ∙ sym (poly-scale I c (times F g h) ∙ ap ((poly_ring I).◌⊗◌ _) (poly-times I g h)))

  -- a nonzero multiple has the degree, and a leading coefficient other than 0
  scale-leading : (c : ℕ) (g : Polynomial) → leading (scale F c g) ≡ F.mul c (leading g)
  unfolding scale degree
  scale-leading c g =
      leading-get_or (scale F c g)
      ∙ ap (λ n. get_or (scale F c g) (n - 1) 0) (length-scale F c g)
      ∙ ap (get_or (scale F c g) (length g - 1)) (sym (number-mul-zero I c))
      ∙ get_or-map (F.mul c) g (degree g) 0
      ∙ ap (F.mul c) (sym (leading-get_or g))

  scale-nonzero :
      (c d : ℕ) (g : Polynomial)
      → F.mul d c ≡ 1
      → T (are_elements F g)
      → leading g ≢ 0
      → leading (scale F c g) ≢ 0
  scale-nonzero c d g e h n z =
      n
      (ap leading (sym (scale_back c d g h e))
      ∙ scale-leading d (scale F c g)
      ∙ ap (F.mul d) z
      ∙ number-mul-zero I d)

  scale-degree : (c : ℕ) (g : Polynomial) → degree (scale F c g) ≡ degree g
  unfolding degree
  scale-degree c g = ap (λ n. n - 1) (length-scale F c g)

  -- what is no product is no product after it is multiplied by c, where c·d is 1
  scaled-product :
      (c d : ℕ) (f : Polynomial)
      → F.mul d c ≡ 1
      → F.mul c d ≡ 1
      → T (are_elements F f)
      → NotAProduct F f
      → NotAProduct F (scale F c f)
  scaled-product c d f e i els n g h a b l k y z q =
      n (scale F d g) h (scale-elements I d g) b (subst (λ m. 0 < m) (sym (scale-degree d g)) l) k
      (scale-nonzero d c g i a y) z
      (scale-times d g h (leading-nonempty g y) (leading-nonempty h z)
      ∙ ap (scale F d) q
      ∙ scale_back c d f els e)

  pub multiple-product : {f : Polynomial} → Leads F f → NotAProduct F f → NotAProduct F (monic_multiple F f)
  multiple-product {f} x n =
      let (c, e, m) = multiple-found x in
      subst (NotAProduct F) (sym m)
      (scaled-product c (leading f) f e (number-mul_comm I c (leading f) ∙ e) x.elements n)

  pub product-multiple : {f : Polynomial} → Leads F f → NotAProduct F (monic_multiple F f) → NotAProduct F f
  product-multiple {f} x n =
      let (c, e, m) = multiple-found x in
      subst (NotAProduct F) (multiple-back x)
      (scaled-product (leading f) c (monic_multiple F f) (number-mul_comm I c (leading f) ∙ e) e
      (multiple-elements x) n)
