-- The set way: the powers that `meaning` finds make the minimal polynomial.
--
-- l is a list of factors with their upper powers, D its total degree, ts the known terms.
--
--   act_on_known-product-… == a product of powers acts as its powers one after the other
--   portion_at F l ts i == what the others' upper powers leave of the first D terms, for factor i
--   others_acted F l i j ts == what the upper powers of the factors before place j, but for factor i, leave
--                              of
--                     ts: one factor after the other up to `portion_at`
--   least_at-portion == `least_at` is the least power of factor i that annihilates `portion_at`, at most its
--                     upper power; `least_at-search` says that the search finds it
--   least_at_exists, set_powers_exists == it is always found; `least_at-upper`: at most the upper power
--   onward_continues, onward-unique == `onward` is the one sequence of the field that begins with the first D
--                     terms and that the product to the upper powers annihilates; `onward-cut` for a stretch
--   part-onward, onward-part == a product with a lower power of one factor annihilates `onward` exactly where
--                     it annihilates the first D terms (Lemma 5)
--   set_powers-minimal == the product of the powers that `set_powers` finds is the minimal polynomial
--   portion-least == with one factor, its power is the least that annihilates
--   annihilated_agrees == where the product to the upper powers annihilates all terms, they agree with
--                     `onward`
--   nothing_continues == where it does not, no sequence that it annihilates begins with them
--
-- The factors are not empty, or monic, or irreducible and different (`Factors`), as each law says. The factor
-- x is allowed.
-- Assumes nothing.
use Prim.Native.Nat.{ℕ, zero, suc, ◌+◌, ◌*◌, ◌-◌, ◌^◌, ◌≤◌, ◌<◌}
use mathlib.Core.Path.{◌≡◌, sym, ap, subst, fun_ext, ◌∙◌}
use mathlib.Core.Logic.{◌≢◌}
use mathlib.Core.List.{List, [], ◌∷◌, map-map}
use mathlib.Core.Option.{some}
use native.Mathlib.Nat as ℕ
use native.Mathlib.Omega.{arith}
use lib.ListN.{length, get_or, take, length-take, length-map}
use lib.Seq.{take-length, get_or-set_same, get_or-set_other, take-suc, get_or-take, length-take-le}
use lib.Dec.{T}
use Rattle.meaning.specs.Search.{least}
use Rattle.meaning.specs.Field.{Field, are_elements}
use Rattle.meaning.specs.Polynomial.{Polynomial, degree, is_monic_over, times, power, product}
use Rattle.meaning.specs.Sequence.{Sequence, InField, AnnihilatesEndless, annihilates_known, act_on_known}
use Rattle.meaning.specs.Sequence.{cut}
use Rattle.meaning.specs.Sequence.{Continues, continuation}
use Rattle.meaning.specs.Conditions.{named, total_degree}
use Rattle.meaning.specs.Portion.{factors_of, with_power, least_at, set_powers, onward, SetMeaning, Agrees}
use Rattle.meaning.specs.Portion.{PortionMeaning}
use Rattle.algebra.proofs.Numbers.Number.{Least}
use Rattle.algebra.proofs.Rings.Ideal.{Generator}
use Rattle.algebra.proofs.Sequences.Action.{Kills}
use Rattle.algebra.proofs.Sequences.Annihilator.{kills-ideal, generator-minimal}
use Rattle.algebra.proofs.Rings.PowerProduct.{power-product, update, LeastPowers, least-powers_generate}
use Rattle.bridge.proofs.Basics.Searches.{LeastPasses, least-some, least_exists, together-range}
use Rattle.bridge.proofs.Basics.Searches.{range-together-some}
use Rattle.bridge.proofs.Basics.Interpretation.{IsField}
use Rattle.bridge.proofs.Lists.Polynomials.{Poly, poly_ring, poly, degree-times, monic-nonempty}
use Rattle.bridge.proofs.Lists.Polynomials.{monic-poly}
use Rattle.bridge.proofs.Lists.Products.{factor_at, power_at, Nonempties, MonicFactors, monics-nonempty}
use Rattle.bridge.proofs.Lists.Products.{length-with_power, factor_at-with_power, polys, with_power_self}
use Rattle.bridge.proofs.Lists.Products.{with_power-nonempties, with_power-monics, degree-split}
use Rattle.bridge.proofs.Lists.Products.{product-nil}
use Rattle.bridge.proofs.Lists.Products.{product-nonempty, degree-product, product-monic}
use Rattle.bridge.proofs.Lists.Products.{product-single, product-append, product-split, poly-product}
use Rattle.bridge.proofs.Lists.Products.{poly-with_power, poly-named, times_comm, power-nonempty}
use Rattle.bridge.proofs.Lists.Products.{power-monic}
use Rattle.bridge.proofs.Lists.Products.{power-add, named-monics, times_assoc, total-one}
use Rattle.bridge.proofs.Sequences.Actions.{sequence, endless-kills, kills-endless, endless-known}
use Rattle.bridge.proofs.Sequences.Actions.{cut-take}
use Rattle.bridge.proofs.Sequences.Actions.{length_cut, cut-elements, act_at-shift, cut-equal}
use Rattle.bridge.proofs.Lists.Irreducibles.{Factors, pairs-atoms, factors-monics}
use Rattle.bridge.proofs.Sequences.Continuations.{continuation_continues, continues_unique}
use Rattle.bridge.proofs.Sequences.Continuations.{take-elements}
use Rattle.bridge.proofs.Sequences.Continuations.{known_agrees}
use Rattle.bridge.proofs.Sequences.Minimal.{algebra_minimal}
use Rattle.bridge.proofs.Sequences.KnownActions.{act_on_known-power-zero, act_on_known-one}
use Rattle.bridge.proofs.Sequences.KnownActions.{act_on_known-times}
use Rattle.bridge.proofs.Sequences.KnownActions.{act_on_known-elements, length-act_on_known}
use Rattle.bridge.proofs.Sequences.KnownActions.{annihilates_known-times}
use Rattle.bridge.proofs.Sequences.KnownActions.{short-known, endless-part}
use Rattle.bridge.proofs.Ways.PowerSearch.{Steps, power_found, portion-search}

-- The first pairs, and one alone
pub take-nonempties : (j : ℕ) (l : List (Polynomial × ℕ)) → Nonempties l → Nonempties (take j l)
take-nonempties j l h i k =
    let b : i < j = omega (arith, length-take j l) in
    let c : i < length l = omega (arith, length-take j l) in
    subst (λ f. 0 < length f.0) (sym (get_or-take j l i ([], 0) b)) (h i c)

pub single-nonempties : (f : Polynomial × ℕ) → 0 < length f.0 → Nonempties (f ∷ [])
single-nonempties f h zero k = h
single-nonempties f h (suc i) k = absurd (omega arith)

-- Products of powers that act
module _ {F : Field} (I : IsField F) where
  pub act_on_known-product-nil : (ts : List ℕ) → T (are_elements F ts) → act_on_known F (product F []) ts ≡ ts
  act_on_known-product-nil ts h = ap (λ g. act_on_known F g ts) (product-nil F) ∙ act_on_known-one I ts h

  -- the first powers, and one more
  pub act_on_known-product-take :
      (j : ℕ) (l : List (Polynomial × ℕ)) (ts : List ℕ)
      → j < length l
      → Nonempties l
      → act_on_known F (product F (take (suc j) l)) ts
      ≡ act_on_known F (power F (factor_at l j) (power_at l j)) (act_on_known F (product F (take j l)) ts)
  act_on_known-product-take j l ts k h =
      ap (λ g. act_on_known F g ts)
      (ap (product F) (take-suc l j ([], 0) k)
      ∙ product-append I (take j l) (get_or l j ([], 0) ∷ []) first
      (single-nonempties (get_or l j ([], 0)) (h j k))
      ∙ ap (times F (product F (take j l))) (product-single I (factor_at l j) (power_at l j) (h j k))
      ∙ times_comm I (product F (take j l)) (power F (factor_at l j) (power_at l j)) front last)
      ∙ act_on_known-times I (power F (factor_at l j) (power_at l j)) (product F (take j l)) ts last front
    where
      first : Nonempties (take j l)
      first = take-nonempties j l h

      front : 0 < length (product F (take j l))
      front = product-nonempty I (take j l) first

      last : 0 < length (power F (factor_at l j) (power_at l j))
      last = power-nonempty I (factor_at l j) (power_at l j) (h j k)

-- What is left for one factor
abbrev pub portion_at : Field → List (Polynomial × ℕ) → List ℕ → ℕ → List ℕ
portion_at F l ts i = act_on_known F (product F (with_power i 0 l)) (take (total_degree l) ts)

abbrev pub others_acted : Field → List (Polynomial × ℕ) → ℕ → ℕ → List ℕ → List ℕ
others_acted F l i j ts = act_on_known F (product F (take j (with_power i 0 l))) ts

pub power_at-own : (i r : ℕ) (l : List (Polynomial × ℕ)) → i < length l → power_at (with_power i r l) i ≡ r
unfolding with_power
power_at-own i r l k = ap (λ f. f.1) (get_or-set_same l i (factor_at l i, r) ([], 0) k)

pub power_at-other :
    (i j r : ℕ) (l : List (Polynomial × ℕ)) → j ≢ i → power_at (with_power i r l) j ≡ power_at l j
unfolding with_power
power_at-other i j r l h = ap (λ f. f.1) (get_or-set_other l i j (factor_at l i, r) ([], 0) h)

module _ {F : Field} (I : IsField F) (l : List (Polynomial × ℕ)) (nonempties : Nonempties l) (i : ℕ)
    (ts : List ℕ)
  where
    pub others_acted-zero : T (are_elements F ts) → others_acted F l i 0 ts ≡ ts
    others_acted-zero h = act_on_known-product-nil I ts h

    acted-next :
        (j : ℕ)
        → j < length l
        → others_acted F l i (suc j) ts
        ≡ act_on_known F (power F (factor_at l j) (power_at (with_power i 0 l) j)) (others_acted F l i j ts)
    acted-next j k =
        act_on_known-product-take I j (with_power i 0 l) ts (rw length-with_power k)
        (with_power-nonempties i 0 l nonempties)
        ∙ ap
        (λ f. act_on_known F (power F f (power_at (with_power i 0 l) j)) (others_acted F l i j ts))
        (factor_at-with_power i 0 l j)

    pub others_acted-other :
        (j : ℕ)
        → j < length l
        → j ≢ i
        → others_acted F l i (suc j) ts
        ≡ act_on_known F (power F (factor_at l j) (power_at l j)) (others_acted F l i j ts)
    others_acted-other j k h =
        acted-next j k
        ∙ ap (λ n. act_on_known F (power F (factor_at l j) n) (others_acted F l i j ts))
        (power_at-other i j 0 l h)

    pub others_acted-own : i < length l → others_acted F l i (suc i) ts ≡ others_acted F l i i ts
    others_acted-own k =
        acted-next i k
        ∙ ap (λ n. act_on_known F (power F (factor_at l i) n) (others_acted F l i i ts))
        (power_at-own i 0 l k)
        ∙ act_on_known-power-zero I (factor_at l i) (nonempties i k) (others_acted F l i i ts)
        (act_on_known-elements I (product F (take i (with_power i 0 l))) ts)

    pub others_acted-all :
        others_acted F l i (length l) ts ≡ act_on_known F (product F (with_power i 0 l)) ts
    others_acted-all =
        ap (λ m. act_on_known F (product F m) ts)
        (ap (λ n. take n (with_power i 0 l)) (sym (length-with_power i 0 l)) ∙ take-length (with_power i 0 l))

pub degree-others :
    (l : List (Polynomial × ℕ)) (i : ℕ)
    → i < length l
    → total_degree l ≡ power_at l i * degree (factor_at l i) + total_degree (with_power i 0 l)
degree-others l i k = ap total_degree (sym (with_power_self i l)) ∙ degree-split l i (power_at l i) k

module _ {F : Field} (I : IsField F) (l : List (Polynomial × ℕ)) (nonempties : Nonempties l)
    (ts : List ℕ) where
  abbrev first : List ℕ
  first = take (total_degree l) ts

  pub portion_at-elements : (i : ℕ) → T (are_elements F (portion_at F l ts i))
  portion_at-elements i = act_on_known-elements I (product F (with_power i 0 l)) first

  others-degree : (i : ℕ) → degree (product F (with_power i 0 l)) ≡ total_degree (with_power i 0 l)
  others-degree i = degree-product I (with_power i 0 l) (with_power-nonempties i 0 l nonempties)

  portion-short :
      (i : ℕ) → i < length l → length (portion_at F l ts i) ≤ power_at l i * degree (factor_at l i)
  portion-short i k =
      omega (
        arith,
        length-act_on_known F (product F (with_power i 0 l)) first,
        length-take (total_degree l) ts,
        others-degree i,
        degree-others l i k,
      )

  -- the search for the power of factor i
  annihilates_split :
      (i : ℕ)
      → i < length l
      → (r : ℕ)
      → annihilates_known F (product F (with_power i r l)) first
      ≡ annihilates_known F (power F (factor_at l i) r) (portion_at F l ts i)
  annihilates_split i k r =
      ap (λ g. annihilates_known F g first) (product-split I l i r k nonempties)
      ∙ annihilates_known-times I (power F (factor_at l i) r) (product F (with_power i 0 l)) first
      (power-nonempty I (factor_at l i) r (nonempties i k))
      (product-nonempty I (with_power i 0 l) (with_power-nonempties i 0 l nonempties))

  pub least_at-portion :
      (i : ℕ)
      → i < length l
      → least_at F l ts i
      ≡ least (power_at l i) (λ r. annihilates_known F (power F (factor_at l i) r) (portion_at F l ts i))
  unfolding least_at
  least_at-portion i k = ap (least (power_at l i)) (fun_ext (annihilates_split i k))

  -- some power is found
  upper_annihilates : (i : ℕ) → T (annihilates_known F (product F (with_power i (power_at l i) l)) first)
  upper_annihilates i =
      short-known F (product F (with_power i (power_at l i) l)) first
      (omega (
        arith,
        ap (λ m. degree (product F m)) (with_power_self i l),
        degree-product I l nonempties,
        length-take (total_degree l) ts,
      ))

  pub least_at_exists :
      (i : ℕ)
      → (r : ℕ)
      × (least_at F l ts i ≡ some r)
      × (r ≤ power_at l i)
      × LeastPasses (λ r. annihilates_known F (product F (with_power i r l)) first) r
  unfolding least_at
  least_at_exists i =
      least_exists (power_at l i) (λ r. annihilates_known F (product F (with_power i r l)) first)
      (power_at l i)
      (ℕ.le_refl (power_at l i)) (upper_annihilates i)

  pub least_at-upper : (i : ℕ) {r : ℕ} → least_at F l ts i ≡ some r → r ≤ power_at l i
  unfolding least_at
  least_at-upper i e =
      (least-some (power_at l i) (λ r. annihilates_known F (product F (with_power i r l)) first) e).0

  pub set_powers_exists : (rs : List ℕ) × (set_powers F l ts ≡ some rs)
  unfolding set_powers
  set_powers_exists =
      range-together-some (least_at F l ts) 0 (length l)
      (λ i _ _. let x = least_at_exists i in (x.0, x.1))

  pub set_powers-places :
      {rs : List ℕ}
      → set_powers F l ts ≡ some rs
      → (length rs ≡ length l) × ((i : ℕ) → i < length l → least_at F l ts i ≡ some (get_or rs i 0))
  unfolding set_powers
  set_powers-places {rs} e =
      let x = together-range 0 (least_at F l ts) 0 (length l) e in
      (x.0, λ i k. ap (least_at F l ts) (sym (ℕ.zero-add i)) ∙ x.1 i k)

  -- what the digits find
  pub least_at-search :
      (i : ℕ)
      → i < length l
      → T (is_monic_over F (factor_at l i))
      → (step : ℕ → List ℕ → List ℕ)
      → Steps F (factor_at l i) step
      → (w : ℕ)
      → power_at l i ≤ F.characteristic ^ w
      → least_at F l ts i
      ≡ some (power_found step F.characteristic (degree (factor_at l i)) w (portion_at F l ts i))
  least_at-search i k m step steps w b =
      least_at-portion i k
      ∙ portion-search I (factor_at l i) m step steps w (power_at l i) (portion_at F l ts i)
      (portion_at-elements i) b (portion-short i k)

-- The endless continuation
module _ {F : Field} (I : IsField F) (l : List (Polynomial × ℕ)) (monics : MonicFactors F l) where
  whole-monic : T (is_monic_over F (product F l))
  whole-monic = product-monic I l monics

  nonempties : Nonempties l
  nonempties = monics-nonempty F l monics

  whole-degree : degree (product F l) ≡ total_degree l
  whole-degree = degree-product I l nonempties

  -- the rest of the upper power of factor i
  pub product-raise :
      (i r : ℕ)
      → i < length l
      → r ≤ power_at l i
      → product F l ≡ times F (power F (factor_at l i) (power_at l i - r)) (product F (with_power i r l))
  product-raise i r k b =
      ap (product F) (sym (with_power_self i l))
      ∙ product-split I l i (power_at l i) k nonempties
      ∙ ap (λ g. times F g others) (ap (power F f) (sym (ℕ.sub-add_cancel b)) ∙ power-add I f n r nonempty)
      ∙ times_assoc I (power F f n) (power F f r) others
      (power-nonempty I f n nonempty)
      (power-nonempty I f r nonempty)
      (product-nonempty I (with_power i 0 l) (with_power-nonempties i 0 l nonempties))
      ∙ ap (times F (power F f n)) (sym (product-split I l i r k nonempties))
    where
      f : Polynomial
      f = factor_at l i

      n : ℕ
      n = power_at l i - r

      others : Polynomial
      others = product F (with_power i 0 l)

      nonempty : 0 < length f
      nonempty = nonempties i k

  module _ (ts : List ℕ) (elements : T (are_elements F ts)) (enough : total_degree l ≤ length ts) where
    first-length : length (take (total_degree l) ts) ≡ degree (product F l)
    first-length = length-take-le (total_degree l) ts enough ∙ sym whole-degree

    first-elements : T (are_elements F (take (total_degree l) ts))
    first-elements = take-elements F (total_degree l) ts elements

    pub onward_continues : Continues F (product F l) (take (total_degree l) ts) (onward F l ts)
    unfolding onward
    onward_continues =
        continuation_continues I (product F l) whole-monic (take (total_degree l) ts) first-length
        first-elements

    pub onward-unique :
        (s : Sequence)
        → Continues F (product F l) (take (total_degree l) ts) s
        → (i : ℕ)
        → s i ≡ onward F l ts i
    unfolding onward
    onward-unique = continues_unique I (product F l) whole-monic (take (total_degree l) ts) first-length

    onward-first : cut (onward F l ts) 0 (total_degree l) ≡ take (total_degree l) ts
    onward-first =
        ap (cut (onward F l ts) 0) (sym (length-take-le (total_degree l) ts enough))
        ∙ onward_continues.begins

    -- a lower power of one factor, by the first D terms
    pub part-onward :
        (i r : ℕ)
        → i < length l
        → r ≤ power_at l i
        → T (annihilates_known F (product F (with_power i r l)) (take (total_degree l) ts))
        → AnnihilatesEndless F (product F (with_power i r l)) (onward F l ts)
    part-onward i r k b z =
        endless-part I (power F (factor_at l i) (power_at l i - r)) (product F (with_power i r l))
        (onward F l ts)
        (power-monic I (factor_at l i) (power_at l i - r) (monics i k))
        (product-monic I (with_power i r l) (with_power-monics F i r l monics))
        (subst (λ g. AnnihilatesEndless F g (onward F l ts)) (product-raise i r k b)
        onward_continues.annihilated)
        (subst (λ w. T (annihilates_known F (product F (with_power i r l)) w))
        (sym onward-first ∙ ap (cut (onward F l ts) 0) degrees) z)
      where
        degrees :
            total_degree l
            ≡ degree (power F (factor_at l i) (power_at l i - r)) + degree (product F (with_power i r l))
        degrees =
            sym whole-degree
            ∙ ap degree (product-raise i r k b)
            ∙ degree-times I (power F (factor_at l i) (power_at l i - r)) (product F (with_power i r l))
            (power-nonempty I (factor_at l i) (power_at l i - r) (nonempties i k))
            (product-nonempty I (with_power i r l) (with_power-nonempties i r l nonempties))

    pub onward-part :
        (g : Polynomial)
        → AnnihilatesEndless F g (onward F l ts)
        → T (annihilates_known F g (take (total_degree l) ts))
    onward-part g z =
        subst (λ w. T (annihilates_known F g w)) onward-first
        (endless-known F g (onward F l ts) 0 (total_degree l) z)

    -- the least power of factor i with the others at their upper powers
    pub least_at-onward :
        (i : ℕ) {r : ℕ}
        → i < length l
        → least_at F l ts i ≡ some r
        → (r ≤ power_at l i)
        × Least (λ e. AnnihilatesEndless F (product F (with_power i e l)) (onward F l ts)) r
    unfolding least_at
    least_at-onward i {r} k e =
        let (b, x) =
        least-some (power_at l i)
        (λ r. annihilates_known F (product F (with_power i r l)) (take (total_degree l) ts)) e in (
          b,
          record {
            holds = part-onward i r k b x.holds;
            least = λ m s z. x.least m s (onward-part (product F (with_power i m l)) z);
          },
        )

    -- The terms after the first D
    pub annihilated_agrees : T (annihilates_known F (product F l) ts) → Agrees F l ts
    unfolding onward
    annihilated_agrees z =
        subst (λ d. cut (continuation F (product F l) (take d ts)) 0 (length ts) ≡ ts) whole-degree
        (known_agrees I (product F l) whole-monic ts elements whole-enough z)
      where
        whole-enough : degree (product F l) ≤ length ts
        whole-enough = omega (arith, whole-degree)

-- where the terms are not annihilated, no sequence that is begins with them
pub nothing_continues :
    (F : Field) (g : Polynomial) (ts : List ℕ)
    → ¬ T (annihilates_known F g ts)
    → (s : Sequence)
    → AnnihilatesEndless F g s
    → ¬ (cut s 0 (length ts) ≡ ts)
nothing_continues F g ts h s z e =
    h (subst (λ w. T (annihilates_known F g w)) e (endless-known F g s 0 (length ts) z))

-- Stretches of a sequence that the product annihilates
module _ {F : Field} (I : IsField F) (l : List (Polynomial × ℕ)) (monics : MonicFactors F l) where
  pub onward-cut :
      (s : Sequence) (k m : ℕ)
      → InField F s
      → AnnihilatesEndless F (product F l) s
      → total_degree l ≤ m
      → (i : ℕ)
      → onward F l (cut s k m) i ≡ s (k + i)
  onward-cut s k m h z e i =
      sym (onward-unique I l monics (cut s k m) (cut-elements F s k m h)
      (subst (λ n. total_degree l ≤ n) (sym (length_cut s k m)) e) (λ i. s (k + i)) from_there i)
    where
      stretch : take (total_degree l) (cut s k m) ≡ cut s k (total_degree l)
      stretch = cut-take s k (total_degree l) m e

      from_there : Continues F (product F l) (take (total_degree l) (cut s k m)) (λ i. s (k + i))
      from_there =
          record {
            in_field = λ i. h (k + i);
            begins =
                ap (λ w. cut (λ i. s (k + i)) 0 (length w)) stretch
                ∙ ap (cut (λ i. s (k + i)) 0) (length_cut s k (total_degree l))
                ∙ cut-equal (λ i. s (k + i)) s 0 k (total_degree l)
                (λ j _. ap (λ n. s (k + n)) (ℕ.zero-add j))
                ∙ sym stretch;
            annihilated = λ j. act_at-shift F (product F l) s k j ∙ z (k + j);
          }

-- The minimal polynomial
module _ {F : Field} (I : IsField F) (l : List (Polynomial × ℕ)) (factors : Factors F (factors_of l))
    (ts : List ℕ) (elements : T (are_elements F ts)) (enough : total_degree l ≤ length ts) where
  abbrev monics : MonicFactors F l
  monics = factors-monics I l factors

  abbrev s : Sequence
  s = onward F l ts

  abbrev KillsOnward : Poly I → Type 0
  KillsOnward = Kills (sequence I s)

  whole-kills : KillsOnward (power-product (poly_ring I) (polys I l) (power_at l))
  whole-kills =
      subst KillsOnward (poly-product I l)
      (endless-kills I (product F l) s (onward_continues I l monics ts elements enough).annihilated)

  least-kills :
      (i : ℕ) {r : ℕ}
      → i < length l
      → least_at F l ts i ≡ some r
      → Least (λ e. KillsOnward (power-product (poly_ring I) (polys I l) (update (power_at l) i e))) r
  least-kills i {r} k e =
      let (b, x) = least_at-onward I l monics ts elements enough i k e in
      record { holds = kills r x.holds; least = λ m c z. x.least m c (endless m z) }
    where
      kills :
          (e : ℕ)
          → AnnihilatesEndless F (product F (with_power i e l)) s
          → KillsOnward (power-product (poly_ring I) (polys I l) (update (power_at l) i e))
      kills e z =
          subst KillsOnward (poly-with_power I l i e k) (endless-kills I (product F (with_power i e l)) s z)

      endless :
          (e : ℕ)
          → KillsOnward (power-product (poly_ring I) (polys I l) (update (power_at l) i e))
          → AnnihilatesEndless F (product F (with_power i e l)) s
      endless e z =
          kills-endless I (product F (with_power i e l)) s
          (subst KillsOnward (sym (poly-with_power I l i e k)) z)

  -- a list of the least powers generates what annihilates
  powers_generate :
      (rs : List ℕ)
      → ((i : ℕ) → i < length l → least_at F l ts i ≡ some (get_or rs i 0))
      → Generator (poly_ring I) KillsOnward (poly I (product F (named (factors_of l) rs)))
  unfolding factors_of
  powers_generate rs found =
      subst (Generator (poly_ring I) KillsOnward)
      (sym (poly-named I (factors_of l) rs
      ∙ ap (λ fs. power-product (poly_ring I) fs (λ i. get_or rs i 0)) (map-map (poly I) (λ f. f.0) l)))
      (least-powers_generate (poly_ring I) (kills-ideal (sequence I s)) (pairs-atoms I l factors) powers)
    where
      powers : LeastPowers (poly_ring I) KillsOnward (polys I l) (power_at l) (λ i. get_or rs i 0)
      powers =
          record {
            upper = whole-kills;
            least =
                λ i b.
                let k : i < length l = subst (λ n. i < n) (length-map l (λ f. poly I f.0)) b in
                least-kills i k (found i k);
          }

  pub set_powers-minimal : {rs : List ℕ} → set_powers F l ts ≡ some rs → SetMeaning F l ts rs
  set_powers-minimal {rs} e =
      let (size, found) = set_powers-places I l (monics-nonempty F l monics) ts e in
      record {
        one_per_factor = size;
        minimal =
            algebra_minimal I (product F (named (factors_of l) rs)) s monic
            (generator-minimal I.field.one_nonzero
            (monic-poly I (product F (named (factors_of l) rs)) monic)
            (powers_generate rs found));
      }
    where
      monic : T (is_monic_over F (product F (named (factors_of l) rs)))
      monic = product-monic I (named (factors_of l) rs) (named-monics F l rs monics)

-- One factor
module _ {F : Field} (I : IsField F) (f : Polynomial) (monic : T (is_monic_over F f)) (v : ℕ) (ts : List ℕ)
    (elements : T (are_elements F ts)) (enough : v * degree f ≤ length ts) where
  abbrev single : List (Polynomial × ℕ)
  single = (f, v) ∷ []

  single-monics : MonicFactors F single
  single-monics zero k = monic
  single-monics (suc i) k = absurd (omega arith)

  single-power : (r : ℕ) → product F (with_power 0 r single) ≡ power F f r
  unfolding with_power
  single-power r = product-single I f r (monic-nonempty F f monic)

  pub portion-least : {r : ℕ} → least_at F ((f, v) ∷ []) ts 0 ≡ some r → PortionMeaning F f v ts r
  portion-least {r} e =
      let (b, x) =
      least_at-onward I single single-monics ts elements
      (subst (λ d. d ≤ length ts) (sym (total-one f v)) enough) 0 (omega arith) e in
      record {
        annihilates = subst (λ g. AnnihilatesEndless F g (onward F single ts)) (single-power r) x.holds;
        smallest =
            λ m z.
            let not-less : ¬ (m < r) =
            λ c.
            x.least m c
            (subst (λ g. AnnihilatesEndless F g (onward F single ts)) (sym (single-power m)) z) in
            omega arith;
      }
