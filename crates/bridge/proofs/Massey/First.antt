-- The first of the polynomials that fit, from what the Berlekamp-Massey model knows after all terms.
--
-- With f of degree L after m terms and g, the earlier one, of degree e: two that fit differ at a place from e
-- to e + 2L − m − 1 (`fits-window` of `algebra`), and multiples of g make f 0 there, from the highest place
-- down.
--
--   reduce_at F g s f   == f − a·x^s·g for the coefficient a of f at place e + s, with as many numbers as f
--   reduced F g w f    == this for s from w − 1 down to 0
--   first_lower F n x   == the lower coefficients of the first that fits n terms, from the state x after them
--   massey_first        == the first polynomial that fits all terms
--   reduced-zero, reduced-suc, length-reduce_at == its equations, and the number of coefficients
--   earlier-monic      == g is monic where L is not 0
--   Reducing I ts n x k f == after the turns down to k: f is a polynomial that fits, and 0 at the places from
--                         e + k on
--   reducing-turn, reducing-all == a turn more, and all of them
--   window-first       == after all turns f precedes every other that fits
--   massey_first_lem       == the polynomial of the model so reduced is the first that fits
--   massey_answer      == the answer of the free way is that polynomial
--
-- Assumes nothing.
use Prim.Native.Nat.{ℕ, zero, suc, ◌+◌, ◌*◌, ◌-◌, ◌≤◌, ◌<◌}
use mathlib.Core.Path.{◌≡◌, refl, sym, ap, ap₂, subst, ◌∙◌}
use mathlib.Core.Logic.{◌⊎◌, inl, inr, ◌≢◌}
use mathlib.Core.List.{List, [], ◌∷◌, ◌++◌}
use native.Mathlib.Nat as ℕ
use native.Mathlib.Decide.{dec_lt}
use native.Mathlib.Omega.{arith}
use lib.ListN.{length, get_or, get_or-append, get_or-eq_default}
use lib.Dec.{T}
use Rattle.meaning.specs.Field.{Field, are_elements, negative}
use Rattle.meaning.specs.Polynomial.{Polynomial, degree, is_monic_over}
use Rattle.meaning.specs.Sequence.{known}
use Rattle.meaning.specs.Result.{answered}
use Rattle.meaning.specs.Free.{Fits, Precedes, is_unique, free_table, free_in}
use Rattle.meaning.proofs.Passes.{Passes}
use Rattle.algebra.proofs.Rings.Ring.{sub-zero_of_eq, eq_of_sub-zero}
use Rattle.algebra.proofs.Rings.Solver.{solve, ◌:=◌, ◌:+◌, ◌:*◌, :-◌}
use Rattle.algebra.proofs.Polynomials.Polynomial.{below_weaken, coefficient, coefficient-add, coefficient-neg}
use Rattle.algebra.proofs.Polynomials.Polynomial.{constant, constant-polynomial-hom}
use Rattle.algebra.proofs.Polynomials.Monic.{Monic, Degree}
use Rattle.algebra.proofs.Sequences.Massey.{Fits as AlgebraFits}
use Rattle.algebra.proofs.Sequences.MasseyStep.{State, below-shift}
use Rattle.algebra.proofs.Sequences.FirstFit.{earlier-room, fits-window, fits-reduced}
use Rattle.bridge.proofs.Basics.Interpretation.{IsField, element-negative}
use Rattle.bridge.proofs.Basics.Interpretation.{element_injective}
use Rattle.bridge.proofs.Basics.Interpretation.{number-add-negative, number-mul_comm, number-one-mul}
use Rattle.bridge.proofs.Basics.Interpretation.{number-mul-zero, number-add-zero, negative-below}
use Rattle.bridge.proofs.Basics.Interpretation.{size-positive}
use Rattle.bridge.proofs.Lists.Polynomials.{Poly, poly_ring, poly, poly-below, poly-constant}
use Rattle.bridge.proofs.Lists.Polynomials.{coefficient-poly, get_or-below, length-degree}
use Rattle.bridge.proofs.Lists.Polynomials.{leading_length}
use Rattle.bridge.proofs.Lists.Polynomials.{leading-monic, monic-elements, monic-length, monic-last}
use Rattle.bridge.proofs.Lists.Polynomials.{monic-poly, monic-equal}
use Rattle.bridge.proofs.Sequences.Actions.{sequence}
use Rattle.bridge.proofs.Ways.Fitting.{fits_algebra, algebra_fits, least_degree-least, only-first}
use Rattle.bridge.proofs.Ways.Fitting.{FirstFit, free-answer}
use Rattle.bridge.proofs.Massey.Steps.{MasseyState, kept, length-kept}
use Rattle.bridge.proofs.Massey.Steps.{kept-within, massey_after}
use Rattle.bridge.proofs.Massey.Steps.{massey_degree, massey_earlier}
use Rattle.bridge.proofs.Massey.Answer.{Inverts, x^, lead_kept, kept-elements}
use Rattle.bridge.proofs.Massey.Answer.{MasseyRight, massey_right, massey_elements, massey_fits}
use Rattle.bridge.proofs.Massey.Answer.{massey_least}

-- The model
unfoldable pub reduce_at : Field → List ℕ → ℕ → List ℕ → List ℕ
reduce_at F g s f = kept F (negative F (get_or f (length g - 1 + s) 0)) s f g

unfoldable pub reduced : Field → List ℕ → ℕ → List ℕ → List ℕ
reduced F g zero f = f
reduced F g (suc s) f = reduced F g s (reduce_at F g s f)

abbrev pub first_lower : Field → ℕ → MasseyState → List ℕ
first_lower F n x = reduced F x.previous (2 * length x.lower - n) x.lower

abbrev pub massey_first : Field → (ℕ → ℕ) → List ℕ → Polynomial
massey_first F inverse ts = first_lower F (length ts) (massey_after F inverse ts (length ts)) ++ (1 ∷ [])

pub reduced-zero : (F : Field) (g f : List ℕ) → reduced F g 0 f ≡ f
unfolding reduced
reduced-zero F g f = refl

pub reduced-suc :
    (F : Field) (g : List ℕ) (s : ℕ) (f : List ℕ) → reduced F g (suc s) f ≡ reduced F g s (reduce_at F g s f)
unfolding reduced
reduced-suc F g s f = refl

pub length-reduce_at :
    (F : Field) (g : List ℕ) (s : ℕ) (f : List ℕ) → s ≤ length f → length (reduce_at F g s f) ≡ length f
unfolding reduce_at
length-reduce_at F g s f l = length-kept F (negative F (get_or f (length g - 1 + s) 0)) s f g l

-- The earlier polynomial
module _ {F : Field} (I : IsField F) (inverse : ℕ → ℕ) (v : Inverts F inverse) (ts : List ℕ) where
  pub earlier-monic :
      (n : ℕ)
      → 0 < length (massey_after F inverse ts n).lower
      → T (is_monic_over F (massey_after F inverse ts n).previous)
  earlier-monic =
      massey_earlier F inverse ts (λ g. T (is_monic_over F g))
      (λ n. leading-monic I (massey_after F inverse ts n).lower (massey_elements I inverse v ts n))

-- The turns
pub record Reducing {F : Field} (I : IsField F) (ts : List ℕ) (n : ℕ) (x : MasseyState) (k : ℕ) (f : List ℕ)
    : Type 0 where
  pub size : length f ≡ length x.lower
  pub elements : T (are_elements F f)
  pub value : I.K
  pub state : State (poly I (f ++ (1 ∷ []))) (poly I x.previous) (length x.lower) value n
      (sequence I (known ts))
  pub zeros : (s : ℕ)
      → k ≤ s
      → s < 2 * length x.lower - n
      → get_or f (length x.previous - 1 + s) 0 ≡ 0

module _ {F : Field} (I : IsField F) (ts : List ℕ) (n : ℕ) (x : MasseyState) where
  open I use {ring, field, element}
  open poly_ring I use {◌⊕◌ as ◌⊞◌, ◌⊗◌ as ◌⊠◌, ⊖◌ as ⊟◌}

  infixl 60 ◌⊞◌
  infixl 70 ◌⊠◌
  infix 80 ⊟◌
  abbrev L : ℕ
  L = length x.lower

  abbrev g : List ℕ
  g = x.previous

  abbrev w : ℕ
  w = 2 * L - n

  reducing-start : MasseyRight I ts n x → Reducing I ts n x w x.lower
  reducing-start r =
      record {
        size = refl;
        elements = r.elements;
        value = r.value;
        state = r.state;
        zeros = λ s k l. absurd (omega arith);
      }

  module _ (o : T (is_monic_over F g)) where
    abbrev e : ℕ
    e = length g - 1

    g-length : length g ≡ suc e
    g-length = let l = monic-length F g o in omega arith

    g-monic : Monic (poly I g) e
    g-monic = subst (Monic (poly I g)) (length-degree g g-length) (monic-poly I g o)

    module _ {s : ℕ} {f : List ℕ} (b : s < w) (r : Reducing I ts n x (suc s) f) where
      abbrev a : ℕ
      a = get_or f (e + s) 0

      abbrev A : Poly I
      A = poly I (a ∷ [])

      earlier-within : e + L ≤ n
      earlier-within = earlier-room field r.state g-monic

      within : length g ≤ length f - s
      within = omega (arith, earlier-within, r.state.short, r.size, g-length)

      fewer : s ≤ length f
      fewer = omega (arith, r.state.short, r.size)

      poly-reduce_at :
          poly I (reduce_at F g s f ++ (1 ∷ [])) ≡ poly I (f ++ (1 ∷ [])) ⊞ ⊟ (x^ I s ⊠ A ⊠ poly I g)
      unfolding reduce_at
      poly-reduce_at =
          lead_kept I (negative F a) s f g fewer within
          ∙ ap (λ u. poly I (f ++ (1 ∷ [])) ⊞ x^ I s ⊠ (u ⊠ poly I g)) opposite
          ∙ solve (poly_ring I) 4 (λ f y q g. f :+ y :* (:- q :* g) := f :+ :- (y :* q :* g)) refl
          (poly I (f ++ (1 ∷ []))) (x^ I s) A (poly I g)
        where
          opposite : constant ring field.discrete (element (negative F a)) ≡ ⊟ A
          opposite =
              ap (constant ring field.discrete) (element-negative I a)
              ∙ (constant-polynomial-hom ring field.discrete).neg (element a)
              ∙ ap ⊟◌ (sym (poly-constant I a))

      -- the place e + s becomes 0, and those above it stay 0
      cleared : (i : ℕ) → s ≤ i → i < w → get_or (reduce_at F g s f) (e + i) 0 ≡ 0
      unfolding reduce_at
      cleared i k l =
          let q : s + (e + (i - s)) ≡ e + i = omega arith in
          ap (λ j. get_or (reduce_at F g s f) j 0) (sym q)
          ∙ kept-within F (negative F a) s f g (e + (i - s))
          (omega (arith, earlier-within, r.state.short, r.size))
          ∙ ap (λ j. F.add (get_or f j 0) (F.mul (negative F a) (get_or g (e + (i - s)) 0))) q
          ∙ go (dec_lt s i)
        where
          go :
              Dec (s < i)
              → F.add (get_or f (e + i) 0) (F.mul (negative F a) (get_or g (e + (i - s)) 0)) ≡ 0
          go (yes h) =
              ap₂ (λ u c. F.add u (F.mul (negative F a) c)) (r.zeros i h l)
              (get_or-eq_default g 0 (omega (arith, g-length)))
              ∙ ap (F.add 0) (number-mul-zero I (negative F a))
              ∙ number-add-zero I (size-positive I)
          go (no h) =
              let q : i ≡ s = omega arith in
              let z : e + (i - s) ≡ degree g = omega (arith, length-degree g g-length) in
              ap₂ (λ j c. F.add (get_or f (e + j) 0) (F.mul (negative F a) c)) q
              (ap (λ j. get_or g j 0) z ∙ monic-last F g o)
              ∙ ap (F.add a)
              (number-mul_comm I (negative F a) 1 ∙ number-one-mul I (negative-below I a))
              ∙ number-add-negative I a

      pub reducing-turn : Reducing I ts n x s (reduce_at F g s f)
      unfolding reduce_at
      reducing-turn =
          record {
            size = length-reduce_at F g s f fewer ∙ r.size;
            elements = kept-elements I (negative F a) s f g fewer r.elements;
            value = r.value;
            state =
                subst (λ h. State h (poly I g) L r.value n (sequence I (known ts)))
                (sym poly-reduce_at)
                (fits-reduced field r.state g-monic (omega arith)
                (below_weaken (below-shift s (poly-below I (a ∷ []))) (omega arith)));
            zeros = cleared;
          }

    pub reducing-all :
        (k : ℕ) {f : List ℕ}
        → k ≤ w
        → Reducing I ts n x k f
        → Reducing I ts n x 0 (reduced F g k f)
    unfolding reduced
    reducing-all zero l r = r
    reducing-all (suc s) l r = reducing-all s (omega arith) (reducing-turn (omega arith) r)

    -- Another that fits differs in the window, where f is 0
    module _ {f : List ℕ} (more : n < 2 * L) (count : n ≡ length ts) (r : Reducing I ts n x 0 f) where
      abbrev first : Polynomial
      first = f ++ (1 ∷ [])

      first-monic : T (is_monic_over F first)
      first-monic = leading-monic I f r.elements

      first_fits : Fits F ts L first
      first_fits =
          algebra_fits I first first-monic (length-degree first (leading_length f) ∙ r.size)
          (subst (λ m. AlgebraFits (poly I first) L m (sequence I (known ts))) count
          r.state.shortest.fits)

      module _ {h : Polynomial} (y : Fits F ts L h) where
        -- the coefficients of the difference
        difference :
            (i : ℕ)
            → coefficient (poly I h ⊞ ⊟ (poly I first)) i
            ≡ ring.◌⊕◌ (element (get_or h i 0)) (ring.⊖◌ (element (get_or first i 0)))
        difference i =
            coefficient-add (poly I h) (⊟ (poly I first)) i
            ∙ ap₂ ring.◌⊕◌ (coefficient-poly I h i)
            (coefficient-neg (poly I first) i ∙ ap ring.⊖◌ (coefficient-poly I first i))

        precedes_at :
            (k : ℕ)
            → e ≤ k
            → k + n < e + 2 * L
            → Degree (poly I h ⊞ ⊟ (poly I first)) k
            → Precedes first h
        precedes_at k low high d =
            record {
              place = k;
              smaller = positive (get_or h k 0) refl;
              above = λ i l.
                  sym
                  (element_injective I
                  (get_or-below I h (monic-elements F h y.monic) i)
                  (get_or-below I first (monic-elements F first first-monic) i)
                  (eq_of_sub-zero ring (sym (difference i) ∙ d.below.above i l)));
            }
          where
            zero-there : get_or first k 0 ≡ 0
            zero-there =
                let q : e + (k - e) ≡ k = omega arith in
                get_or-append f (1 ∷ []) 0 k
                (omega (arith, earlier-room field r.state g-monic, r.size))
                ∙ ap (λ j. get_or f j 0) (sym q)
                ∙ r.zeros (k - e) (omega arith) (omega arith)

            positive : (c : ℕ) → get_or h k 0 ≡ c → get_or first k 0 < get_or h k 0
            positive zero q =
                absurd
                (d.leading (difference k ∙ sub-zero_of_eq ring (ap element (q ∙ sym zero-there))))
            positive (suc c) q = omega (arith, zero-there)

        first-window : h ≢ first → Precedes first h
        first-window other =
            go
            (fits-window field r.state g-monic
            (subst (λ m. AlgebraFits (poly I h) L m (sequence I (known ts))) (sym count) (fits_algebra I y)))
          where
            go :
                (poly I h ≡ poly I first)
                ⊎ ((k : ℕ) × (e ≤ k) × (k + n < e + 2 * L) × Degree (poly I h ⊞ ⊟ (poly I first)) k)
                → Precedes first h
            go (inl q) = absurd (other (monic-equal I h first y.monic first-monic q))
            go (inr (k, low, high, d)) = precedes_at k low high d

      pub window-first : FirstFit F ts L first
      window-first = record { fits = first_fits; first = λ h y other. first-window y other }

-- After all terms
module _ {F : Field} (I : IsField F) (inverse : ℕ → ℕ) (v : Inverts F inverse) (ts : List ℕ) where
  abbrev m : ℕ
  m = length ts

  abbrev last : MasseyState
  last = massey_after F inverse ts m

  pub massey_first_lem : FirstFit F ts (massey_degree F inverse ts) (massey_first F inverse ts)
  massey_first_lem = go (dec_lt m (2 * length last.lower))
    where
      go :
          Dec (m < 2 * length last.lower)
          → FirstFit F ts (massey_degree F inverse ts) (massey_first F inverse ts)
      go (yes l) =
          let o = earlier-monic I inverse v ts m (omega arith) in
          window-first I ts m last o l refl
          (reducing-all I ts m last o (2 * length last.lower - m) (ℕ.le_refl _)
          (reducing-start I ts m last (massey_right I inverse v ts m)))
      go (no l) =
          let z : 2 * length last.lower - m ≡ 0 = omega arith in
          subst (λ f. FirstFit F ts (massey_degree F inverse ts) (f ++ (1 ∷ [])))
          (sym (ap (λ k. reduced F last.previous k last.lower) z
          ∙ reduced-zero F last.previous last.lower))
          (only-first I (least_degree-least I (massey_least I inverse v ts)) (omega arith)
          (massey_fits I inverse v ts))

-- The free way
pub massey_answer :
    {F : Field} (I : IsField F) (inverse : ℕ → ℕ)
    → Inverts F inverse
    → (ts : List ℕ) (answer work : ℕ)
    → Passes (free_table F ts answer work)
    → free_in F ts answer work
    ≡ answered
    (record {
      figures = record {
        degree = massey_degree F inverse ts;
        unique = is_unique ts (massey_degree F inverse ts);
      };
      polynomial = massey_first F inverse ts;
    })
massey_answer I inverse v ts answer work h =
    free-answer I ts answer work h (massey_least I inverse v ts) (massey_first_lem I inverse v ts)
