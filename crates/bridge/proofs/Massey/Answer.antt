-- The Berlekamp-Massey model finds the least degree and a polynomial that fits. (First has the first of
-- those that fit, which answers the free way.)
--
--   Inverts F inverse == the function gives each element of F other than 0 its inverse
--   MasseyRight I ts n x == the state x is right after n terms: its lower coefficients are elements of the
--                       field, and its polynomials are a `State` of `algebra`, of the least degree, with the
--                       discrepancy `value` that its inverse inverts
--   right-step, massey_right == each step leaves a right state, and so all states are right
--   massey_elements  == the lower coefficients are elements of the field
--   massey_fits, massey_least == after all terms the polynomial fits them, and its degree is the least one
--   massey_reading   == a meter shows the degree of the model
--
-- No condition on the terms is needed: a number beyond the field stands for its element.
-- Assumes nothing.
use Prim.Native.Nat.{ℕ, zero, suc, ◌+◌, ◌*◌, ◌-◌, ◌≤◌, ◌<◌}
use mathlib.Core.Path.{◌≡◌, refl, sym, ap, ap₂, subst, subst₂, ◌∙◌}
use mathlib.Core.Logic.{◌≢◌}
use mathlib.Core.List.{List, [], ◌∷◌, ◌++◌}
use mathlib.Core.Option.{some}
use native.Mathlib.Decide.{dec_lt, ℕ_discrete}
use native.Mathlib.Omega.{arith}
use lib.ListN.{length, get_or, take, drop, take-append-drop, get_or-eq_default}
use lib.Seq.{length-take-le}
use lib.Dec.{T}
use Rattle.meaning.specs.Search.{map_option}
use Rattle.meaning.specs.Field.{Field, are_elements}
use Rattle.meaning.specs.Polynomial.{degree, is_monic_over, plus, scale}
use Rattle.meaning.specs.Sequence.{act_at, known}
use Rattle.meaning.specs.Free.{least_degree, Fits, is_unique}
use Rattle.meaning.specs.Meter.{free_figures}
use Rattle.algebra.proofs.Rings.Ring.{inverse-unique, add_right_comm, neg-mul}
use Rattle.algebra.proofs.Rings.Power.{power, power-add}
use Rattle.algebra.proofs.Rings.Solver.{solve, ◌:=◌, ◌:+◌, ◌:*◌, :-◌}
use Rattle.algebra.proofs.Polynomials.Polynomial.{X, constant, constant-polynomial-hom, polynomial_ext}
use Rattle.algebra.proofs.Sequences.Action.{act, act-add, act-one, act-x-power-mul}
use Rattle.algebra.proofs.Sequences.MasseyStep.{shift, State, start, step_same}
use Rattle.algebra.proofs.Sequences.MasseyStep.{discrepancy as algebra-discrepancy}
use Rattle.algebra.proofs.Sequences.MasseyStep.{step_kept as algebra-kept, step-changed as algebra-changed}
use Rattle.bridge.proofs.Basics.Interpretation.{IsField, element-add, element-mul}
use Rattle.bridge.proofs.Basics.Interpretation.{element-negative, element-nonzero}
use Rattle.bridge.proofs.Basics.Interpretation.{add-below, mul-below}
use Rattle.bridge.proofs.Lists.Polynomials.{Poly, poly_ring, poly, poly-nil, poly-one, poly-plus}
use Rattle.bridge.proofs.Lists.Polynomials.{poly-scale, coefficient-poly, length-scale, elements-nil}
use Rattle.bridge.proofs.Lists.Polynomials.{elements-get_or, get_or-elements, poly-append}
use Rattle.bridge.proofs.Lists.Polynomials.{length-degree, leading_length, leading-monic}
use Rattle.bridge.proofs.Sequences.Actions.{sequence, element-act}
use Rattle.bridge.proofs.Sequences.Actions.{known-get_or}
use Rattle.bridge.proofs.Ways.Fitting.{algebra_fits, fit_least, least-least_degree}
use Rattle.bridge.proofs.Basics.Padding.{pad, get_or-pad, length-pad, pad-split}
use Rattle.bridge.proofs.Massey.Steps.{MasseyState, polynomial_of, discrepancy, correction, kept}
use Rattle.bridge.proofs.Massey.Steps.{changed, correction_at, kept_state, changed_state, massey_step}
use Rattle.bridge.proofs.Massey.Steps.{massey_start, massey_after, massey_degree, massey_polynomial}
use Rattle.bridge.proofs.Massey.Steps.{step-zero, step_kept, step-changed, MasseySizes, sizes-kept}
use Rattle.bridge.proofs.Massey.Steps.{sizes-changed, kept-before, kept-within, changed-before}
use Rattle.bridge.proofs.Massey.Steps.{changed-within}
use Rattle.bridge.proofs.Massey.Steps.{length-kept, length-changed}

abbrev pub Inverts : Field → (ℕ → ℕ) → Type 0
Inverts F inverse = (a : ℕ) → a < F.size → a ≢ 0 → F.mul a (inverse a) ≡ 1

-- The lists as polynomials
module _ {F : Field} (I : IsField F) where
  open I use {K, ring, field, element}
  open poly_ring I use {0# as 0ₚ, 1# as 1ₚ, ◌⊕◌ as ◌⊞◌, ◌⊗◌ as ◌⊠◌, ⊖◌ as ⊟◌}

  infixl 60 ◌⊞◌
  infixl 70 ◌⊠◌
  infix 80 ⊟◌
  abbrev pub x^ : ℕ → Poly I
  x^ n = power (poly_ring I) (X ring field.discrete) n

  -- zeros after a list change nothing
  pub poly-pad : (k : ℕ) (l : List ℕ) → length l ≤ k → poly I (pad k l) ≡ poly I l
  poly-pad k l h =
      polynomial_ext
      (λ n. coefficient-poly I (pad k l) n ∙ ap element (same n (dec_lt n k)) ∙ sym (coefficient-poly I l n))
    where
      same : (n : ℕ) → Dec (n < k) → get_or (pad k l) n 0 ≡ get_or l n 0
      same n (yes b) = get_or-pad k l n b
      same n (no b) =
          get_or-eq_default (pad k l) 0 (omega (arith, length-pad k l))
          ∙ sym (get_or-eq_default l 0 (omega arith))

  -- f + c·x^s·g and x^s·f + c·g, below the leading 1 and with it
  module _ (c s : ℕ) (f g : List ℕ) where
    abbrev pub scalar : Poly I
    scalar = constant ring field.discrete (element c)

    poly-sum : (a b : List ℕ) → poly I (plus F a (scale F c b)) ≡ poly I a ⊞ scalar ⊠ poly I b
    poly-sum a b = poly-plus I a (scale F c b) ∙ ap (◌⊞◌ (poly I a)) (poly-scale I c b)

    poly-kept :
        s ≤ length f
        → length g ≤ length f - s
        → poly I (kept F c s f g) ≡ poly I f ⊞ x^ s ⊠ (scalar ⊠ poly I g)
    unfolding kept
    poly-kept l h =
        poly-append I (take s f) (plus F (drop s f) (scale F c (pad (length f - s) g)))
        ∙ ap₂ (λ n u. poly I (take s f) ⊞ x^ n ⊠ u) (length-take-le s f l)
        (poly-sum (drop s f) (pad (length f - s) g)
        ∙ ap (λ u. poly I (drop s f) ⊞ scalar ⊠ u) (poly-pad (length f - s) g h))
        ∙ solve (poly_ring I) 5 (λ a x b c g. a :+ x :* (b :+ c :* g) := a :+ x :* b :+ x :* (c :* g)) refl
        (poly I (take s f)) (x^ s) (poly I (drop s f)) scalar (poly I g)
        ∙ ap (λ u. u ⊞ x^ s ⊠ (scalar ⊠ poly I g)) (sym whole)
      where
        whole : poly I f ≡ poly I (take s f) ⊞ x^ s ⊠ poly I (drop s f)
        whole =
            ap (poly I) (sym (take-append-drop s f))
            ∙ poly-append I (take s f) (drop s f)
            ∙ ap (λ n. poly I (take s f) ⊞ x^ n ⊠ poly I (drop s f)) (length-take-le s f l)

    poly-changed :
        length g ≤ s + length f → poly I (changed F c s f g) ≡ x^ s ⊠ poly I f ⊞ scalar ⊠ poly I g
    unfolding changed
    poly-changed h =
        poly-append I (scale F c (pad s g)) (plus F f (scale F c (pad (length f) (drop s g))))
        ∙ ap₂ ◌⊞◌ (poly-scale I c (pad s g))
        (ap₂ (λ n u. x^ n ⊠ u) (length-scale F c (pad s g) ∙ length-pad s g)
        (poly-sum f (pad (length f) (drop s g))))
        ∙ solve (poly_ring I) 5 (λ a x f c b. c :* a :+ x :* (f :+ c :* b) := x :* f :+ c :* (a :+ x :* b))
        refl
        (poly I (pad s g)) (x^ s) (poly I f) scalar (poly I (pad (length f) (drop s g)))
        ∙ ap (λ u. x^ s ⊠ poly I f ⊞ scalar ⊠ u) (sym whole)
      where
        whole : poly I g ≡ poly I (pad s g) ⊞ x^ s ⊠ poly I (pad (length f) (drop s g))
        whole =
            sym (poly-pad (s + length f) g h)
            ∙ ap (poly I) (pad-split s (length f) g)
            ∙ poly-append I (pad s g) (pad (length f) (drop s g))
            ∙ ap (λ n. poly I (pad s g) ⊞ x^ n ⊠ poly I (pad (length f) (drop s g))) (length-pad s g)

    -- with the leading 1
    pub lead_kept :
        s ≤ length f
        → length g ≤ length f - s
        → poly I (kept F c s f g ++ (1 ∷ [])) ≡ poly I (f ++ (1 ∷ [])) ⊞ x^ s ⊠ (scalar ⊠ poly I g)
    lead_kept l h =
        poly-append I (kept F c s f g) (1 ∷ [])
        ∙ ap₂ (λ u n. u ⊞ x^ n ⊠ poly I (1 ∷ [])) (poly-kept l h) (length-kept F c s f g l)
        ∙ add_right_comm (poly_ring I) (poly I f) (x^ s ⊠ (scalar ⊠ poly I g))
        (x^ (length f) ⊠ poly I (1 ∷ []))
        ∙ ap (λ u. u ⊞ x^ s ⊠ (scalar ⊠ poly I g)) (sym (poly-append I f (1 ∷ [])))

    lead_changed :
        length g ≤ s + length f
        → poly I (changed F c s f g ++ (1 ∷ [])) ≡ x^ s ⊠ poly I (f ++ (1 ∷ [])) ⊞ scalar ⊠ poly I g
    lead_changed h =
        poly-append I (changed F c s f g) (1 ∷ [])
        ∙ ap₂ (λ u n. u ⊞ n ⊠ poly I (1 ∷ [])) (poly-changed h)
        (ap x^ (length-changed F c s f g) ∙ power-add (poly_ring I) (X ring field.discrete) s (length f))
        ∙ solve (poly_ring I) 5 (λ x f g y u. x :* f :+ g :+ x :* y :* u := x :* (f :+ y :* u) :+ g) refl
        (x^ s) (poly I f) (scalar ⊠ poly I g) (x^ (length f)) (poly I (1 ∷ []))
        ∙ ap (λ u. x^ s ⊠ u ⊞ scalar ⊠ poly I g) (sym (poly-append I f (1 ∷ [])))

  -- The discrepancy and the factor −d/b
  open ring use {0#, 1#, ◌⊕◌, ◌⊗◌, ⊖◌}

  infixl 60 ◌⊕◌
  infixl 70 ◌⊗◌
  infix 80 ⊖◌
  pub element-discrepancy :
      (ts : List ℕ) (n : ℕ) (f : List ℕ)
      → length f ≤ n
      → element (discrepancy F ts n f)
      ≡ algebra-discrepancy (poly I (f ++ (1 ∷ []))) (length f) n (sequence I (known ts))
  unfolding discrepancy algebra-discrepancy
  element-discrepancy ts n f l =
      element-add I (act_at F f (known ts) (n - length f)) (get_or ts n 0)
      ∙ ap₂ ◌⊕◌ (element-act I f (known ts) (n - length f)) (sym leading)
      ∙ sym (act-add (poly I f) (x^ (length f) ⊠ poly I (1 ∷ [])) (sequence I (known ts)) (n - length f))
      ∙ ap (λ h. act h (sequence I (known ts)) (n - length f)) (sym (poly-append I f (1 ∷ [])))
    where
      leading :
          act (x^ (length f) ⊠ poly I (1 ∷ [])) (sequence I (known ts)) (n - length f) ≡ element
          (get_or ts n 0)
      leading =
          let e : length f + (n - length f) ≡ n = omega arith in
          act-x-power-mul (length f) (poly I (1 ∷ [])) (sequence I (known ts)) (n - length f)
          ∙ ap₂ (λ h k. act h (sequence I (known ts)) k) (poly-one I) e
          ∙ act-one ring field.discrete (sequence I (known ts)) n
          ∙ ap element (known-get_or ts n)

  pub element-correction :
      (d i : ℕ) {b : K} → b ⊗ element i ≡ 1# → element (correction F d i) ≡ ⊖ (element d ⊗ field.inverse b)
  unfolding correction
  element-correction d i e =
      element-negative I (F.mul d i)
      ∙ ap ⊖◌ (element-mul I d i ∙ ap (◌⊗◌ (element d)) (inverse-unique field e))

  -- The new lower coefficients are elements of the field
  pub kept-elements :
      (c s : ℕ) (f g : List ℕ) → s ≤ length f → T (are_elements F f) → T (are_elements F (kept F c s f g))
  kept-elements c s f g l h =
      get_or-elements F (kept F c s f g) (λ i b. go i (omega (arith, size)) (dec_lt i s))
    where
      size : length (kept F c s f g) ≡ length f
      size = length-kept F c s f g l

      go : (i : ℕ) → i < length f → Dec (i < s) → get_or (kept F c s f g) i 0 < F.size
      go i b (yes o) =
          subst (λ a. a < F.size) (sym (kept-before F c s f g i l o)) (elements-get_or F f h i b)
      go i b (no o) =
          let e : s + (i - s) ≡ i = omega arith in
          subst (λ j. get_or (kept F c s f g) j 0 < F.size) e
          (subst (λ a. a < F.size) (sym (kept-within F c s f g (i - s) (omega arith))) (add-below I _ _))

  pub changed-elements : (c s : ℕ) (f g : List ℕ) → T (are_elements F (changed F c s f g))
  changed-elements c s f g =
      get_or-elements F (changed F c s f g) (λ i b. go i (omega (arith, size)) (dec_lt i s))
    where
      size : length (changed F c s f g) ≡ s + length f
      size = length-changed F c s f g

      go : (i : ℕ) → i < s + length f → Dec (i < s) → get_or (changed F c s f g) i 0 < F.size
      go i b (yes o) = subst (λ a. a < F.size) (sym (changed-before F c s f g i o)) (mul-below I _ _)
      go i b (no o) =
          let e : s + (i - s) ≡ i = omega arith in
          subst (λ j. get_or (changed F c s f g) j 0 < F.size) e
          (subst (λ a. a < F.size) (sym (changed-within F c s f g (i - s) (omega arith))) (add-below I _ _))

pub record MasseyRight {F : Field} (I : IsField F) (ts : List ℕ) (n : ℕ) (x : MasseyState) : Type 0 where
  pub sizes : MasseySizes n x
  pub elements : T (are_elements F x.lower)
  pub value : I.K
  pub inverted : I.ring.◌⊗◌ value (I.element x.inverse) ≡ I.ring.1#
  pub state : State (poly I (polynomial_of x)) (poly I x.previous) (length x.lower) value n
      (sequence I (known ts))

module _ {F : Field} (I : IsField F) (inverse : ℕ → ℕ) (v : Inverts F inverse) (ts : List ℕ) where
  open I use {K, ring, field, element}
  open ring use {0#, 1#, ◌⊗◌, ⊖◌, mul-one}
  open poly_ring I use {◌⊕◌ as ◌⊞◌, ◌⊗◌ as ◌⊠◌, ⊖◌ as ⊟◌}

  infixl 60 ◌⊞◌
  infixl 70 ◌⊗◌ ◌⊠◌
  infix 80 ⊖◌ ⊟◌
  abbrev known-sequence : ℕ → K
  known-sequence = sequence I (known ts)

  right-start : MasseyRight I ts 0 massey_start
  unfolding massey_start
  right-start =
      record {
        sizes = record { short = omega arith; room = omega arith };
        elements = elements-nil F;
        value = 1#;
        inverted = ap (◌⊗◌ 1#) I.element_one ∙ mul-one 1#;
        state =
            subst₂ (λ f g. State f g 0 1# 0 known-sequence) (sym (poly-one I)) (sym (poly-nil I))
            (start field known-sequence);
      }

  module _ {n : ℕ} {x : MasseyState} (r : MasseyRight I ts n x) where
    abbrev d : ℕ
    d = discrepancy F ts n x.lower

    below : d < F.size
    unfolding discrepancy
    below = add-below I (act_at F x.lower (known ts) (n - length x.lower)) (get_or ts n 0)

    told : element d ≡ algebra-discrepancy (poly I (polynomial_of x)) (length x.lower) n known-sequence
    told = element-discrepancy I ts n x.lower r.sizes.short

    factor : element (correction_at F ts n x) ≡ ⊖ (element d ⊗ field.inverse r.value)
    factor = element-correction I d x.inverse r.inverted

    right_zero : d ≡ 0 → MasseyRight I ts (suc n) x
    right_zero e =
        record {
          sizes = record { short = omega (arith, r.sizes.short); room = omega (arith, r.sizes.room) };
          elements = r.elements;
          value = r.value;
          inverted = r.inverted;
          state = step_same r.state (sym told ∙ ap element e ∙ I.element-zero);
        }

    -- a multiple by −d/b is the negative of one by d/b
    abbrev Q : Poly I
    Q = constant ring field.discrete (element d ⊗ field.inverse r.value)

    negated : constant ring field.discrete (element (correction_at F ts n x)) ≡ ⊟ Q
    negated =
        ap (constant ring field.discrete) factor
        ∙ (constant-polynomial-hom ring field.discrete).neg
        (element d ⊗ field.inverse r.value)

    right_kept : n < 2 * length x.lower → MasseyRight I ts (suc n) (kept_state F ts n x)
    unfolding kept_state
    right_kept l =
        record {
          sizes = sizes-kept F inverse ts r.sizes;
          elements = kept-elements I c s x.lower x.previous (omega arith) r.elements;
          value = r.value;
          inverted = r.inverted;
          state =
              subst₂ (λ f m. State f (poly I x.previous) m r.value (suc n) known-sequence)
              (sym polynomial) (sym (length-kept F c s x.lower x.previous (omega arith)))
              (algebra-kept field r.state (element d) (sym told) l);
        }
      where
        c : ℕ
        c = correction_at F ts n x

        s : ℕ
        s = 2 * length x.lower - suc n

        polynomial :
            poly I (kept F c s x.lower x.previous ++ (1 ∷ []))
            ≡ poly I (polynomial_of x) ⊞ ⊟ (Q ⊠ shift s (poly I x.previous))
        polynomial =
            lead_kept I c s x.lower x.previous (omega arith) (omega (arith, r.sizes.room))
            ∙ ap (λ u. poly I (polynomial_of x) ⊞ shift s (u ⊠ poly I x.previous)) negated
            ∙ solve (poly_ring I) 4 (λ f y q g. f :+ y :* (:- q :* g) := f :+ :- (q :* (y :* g))) refl
            (poly I (polynomial_of x)) (x^ I s) Q (poly I x.previous)

    right-changed :
        d ≢ 0 → 2 * length x.lower ≤ n → MasseyRight I ts (suc n) (changed_state F inverse ts n x)
    unfolding changed_state
    right-changed h l =
        record {
          sizes = sizes-changed F inverse ts r.sizes l;
          elements = changed-elements I c s x.lower x.previous;
          value = element d;
          inverted = sym (element-mul I d (inverse d)) ∙ ap element (v d below h) ∙ I.element_one;
          state =
              subst₂ (λ f m. State f (poly I (polynomial_of x)) m (element d) (suc n) known-sequence)
              (sym polynomial) (sym (length-changed F c s x.lower x.previous ∙ omega arith))
              (algebra-changed field r.state (element d) (sym told) (element-nonzero I below h) l);
        }
      where
        c : ℕ
        c = correction_at F ts n x

        s : ℕ
        s = suc n - 2 * length x.lower

        polynomial :
            poly I (changed F c s x.lower x.previous ++ (1 ∷ []))
            ≡ shift s (poly I (polynomial_of x)) ⊞ ⊟ (Q ⊠ poly I x.previous)
        polynomial =
            lead_changed I c s x.lower x.previous (omega (arith, r.sizes.room))
            ∙ ap (λ u. shift s (poly I (polynomial_of x)) ⊞ u ⊠ poly I x.previous) negated
            ∙ ap (◌⊞◌ (shift s (poly I (polynomial_of x)))) (neg-mul (poly_ring I) Q (poly I x.previous))

    pub right-step : MasseyRight I ts (suc n) (massey_step F inverse ts n x)
    right-step = go (ℕ_discrete d 0) (dec_lt n (2 * length x.lower))
      where
        go :
            Dec (d ≡ 0)
            → Dec (n < 2 * length x.lower)
            → MasseyRight I ts (suc n) (massey_step F inverse ts n x)
        go (yes e) _ = rw (step-zero F inverse ts n x e) (right_zero e)
        go (no h) (yes l) = rw (step_kept F inverse ts n x h l) (right_kept l)
        go (no h) (no l) = rw (step-changed F inverse ts n x h (omega arith)) (right-changed h (omega arith))

  pub massey_right : (n : ℕ) → MasseyRight I ts n (massey_after F inverse ts n)
  unfolding massey_after
  massey_right zero = right-start
  massey_right (suc n) = right-step (massey_right n)

  pub massey_elements : (n : ℕ) → T (are_elements F (massey_after F inverse ts n).lower)
  massey_elements n = (massey_right n).elements

  -- After all terms
  pub massey_monic : T (is_monic_over F (massey_polynomial F inverse ts))
  massey_monic =
      leading-monic I (massey_after F inverse ts (length ts)).lower (massey_elements (length ts))

  pub massey_degree_lem : degree (massey_polynomial F inverse ts) ≡ massey_degree F inverse ts
  massey_degree_lem =
      length-degree (massey_polynomial F inverse ts)
      (leading_length (massey_after F inverse ts (length ts)).lower)

  pub massey_fits : Fits F ts (massey_degree F inverse ts) (massey_polynomial F inverse ts)
  massey_fits =
      algebra_fits I (massey_polynomial F inverse ts) massey_monic massey_degree_lem
      (massey_right (length ts)).state.shortest.fits

  pub massey_least : least_degree F ts ≡ some (massey_degree F inverse ts)
  massey_least = least-least_degree I (fit_least I ts (massey_right (length ts)).state.shortest)

-- The figures of the free way
pub massey_reading :
    {F : Field} (I : IsField F) (inverse : ℕ → ℕ)
    → Inverts F inverse
    → (ts : List ℕ)
    → free_figures F ts
    ≡ some
    (record {
      degree = massey_degree F inverse ts;
      unique = is_unique ts (massey_degree F inverse ts);
    })
unfolding free_figures map_option
massey_reading I inverse v ts =
    ap (map_option (λ e. record { degree = e; unique = is_unique ts e })) (massey_least I inverse v ts)
