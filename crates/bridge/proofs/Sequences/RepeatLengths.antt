-- The repeat length: what it says, and how powers and orders of factors tell it.
--
--   again-period, period-again == of a sequence that a monic list of degree e annihilates: it repeats
--                        every n terms exactly where its e terms from place n on are its first e terms
--   repeat_length-constant, repeat_length-search == where x divides g it is 0, else what the search finds
--   repeat_length-known, repeat_length-beyond == else it is the least period as far as that is told, or 0
--   minimal-constant     == x does not divide the minimal polynomial of a sequence that has a period
--   For a sequence s with the minimal polynomial g, the product of the pairs l of factors and powers:
--   period-constant      == where x divides g it has no period
--   repeat_length-orders  == `repeat_length g s` is `repeat_by_orders F l`
--   repeat_length_meaning == and it is what `RepeatMeaning` says
--   set-repeat_length, set-RepeatMeaning == so it is of the set way's answer, for the powers that it finds
--
-- Assumes nothing.
use Prim.Native.Nat.{ℕ, ◌+◌, ◌*◌, ◌^◌, ◌/◌, ◌∣◌, ◌≤◌, ◌<◌}
use mathlib.Core.Path.{◌≡◌, refl, sym, ap, subst, ◌∙◌}
use mathlib.Core.Logic.{inl, inr, ◌≢◌}
use mathlib.Core.List.{List, []}
use mathlib.Core.Option.{some}
use native.Mathlib.Nat as ℕ
use native.Mathlib.Decide.{dec_le}
use native.Mathlib.Omega.{arith}
use lib.ListN.{length, get_or, length-map, get_or-map}
use lib.Dec.{T, eqb, eqb→eq, eqb_refl}
use Rattle.meaning.specs.Field.{Field, are_elements}
use Rattle.meaning.specs.Polynomial.{Polynomial, degree, is_monic_over, product}
use Rattle.meaning.specs.Sequence.{Sequence, InField, AnnihilatesEndless, cut, Period, LeastPeriod}
use Rattle.meaning.specs.Sequence.{Continues, MinimalPolynomial}
use Rattle.meaning.specs.RepeatLength.{comes_again, longest_repeat, least_within, repeat_length}
use Rattle.meaning.specs.RepeatLength.{RepeatMeaning}
use Rattle.meaning.specs.Conditions.{named, total_degree}
use Rattle.meaning.specs.Portion.{factors_of, set_powers, onward}
use Rattle.algebra.proofs.Rings.Power.{power-one}
use Rattle.algebra.proofs.Rings.Ideal.{Divides, Generator, divides-power, divides_trans}
use Rattle.algebra.proofs.Rings.PowerProduct.{power-divides-product}
use Rattle.algebra.proofs.Polynomials.Polynomial.{X}
use Rattle.algebra.proofs.Polynomials.Division.{x-divides-constant}
use Rattle.algebra.proofs.Polynomials.Irreducible.{Irreducible}
use Rattle.algebra.proofs.Polynomials.Derivative.{unity as algebra-unity}
use Rattle.algebra.proofs.Sequences.Period.{unity-divisor-constant-term}
use Rattle.algebra.proofs.Sequences.Action.{Kills}
use Rattle.algebra.proofs.Sequences.Annihilator.{minimal-generator}
use Rattle.algebra.proofs.Sequences.Cut.{Periodic, periodic-kills}
use Rattle.algebra.proofs.FiniteFields.Order.{LeastPeriod as AlgebraLeastPeriod, least-period}
use Rattle.algebra.proofs.Sequences.Orders.{Unity, Unities, Factored, unity-period, period-unity}
use Rattle.algebra.proofs.Sequences.Orders.{period-level}
use Rattle.algebra.proofs.Sequences.Orders.{period_exists}
use Rattle.bridge.proofs.Basics.Searches.{T-same, T_true, T_false, T-decided}
use Rattle.bridge.proofs.Basics.Within.{within-found, within-missing, within-multiples}
use Rattle.bridge.proofs.Basics.Interpretation.{IsField, element_injective, element-zero-only}
use Rattle.bridge.proofs.Basics.Interpretation.{elements}
use Rattle.bridge.proofs.Basics.Interpretation.{characteristic_two}
use Rattle.bridge.proofs.Lists.Polynomials.{Poly, poly_ring, poly, poly-nil, coefficient-poly}
use Rattle.bridge.proofs.Lists.Polynomials.{get_or-below}
use Rattle.bridge.proofs.Lists.Polynomials.{same-equal, equal-same, monic-elements}
use Rattle.bridge.proofs.Lists.Products.{factor_at, power_at, polys, poly-product, factor_at-factors_of}
use Rattle.bridge.proofs.Lists.Products.{length-factors_of, factors_of-named}
use Rattle.bridge.proofs.Lists.Irreducibles.{Factors, irreducible-poly, pairs-atoms, factors-monics}
use Rattle.bridge.proofs.Sequences.Actions.{sequence, act_at-shift, length_cut, cut-equal}
use Rattle.bridge.proofs.Sequences.Continuations.{continues_unique}
use Rattle.bridge.proofs.Sequences.Minimal.{minimal_algebra}
use Rattle.bridge.proofs.Ways.Portions.{onward_continues, set_powers-minimal}
use Rattle.bridge.proofs.Basics.Levels.{Level, level_exists}
use Rattle.bridge.proofs.Sequences.Orders.{unity-divides, divides-unity}
use Rattle.bridge.proofs.Sequences.CommonOrders.{reaching-level, largest_power, power-largest}
use Rattle.bridge.proofs.Sequences.CommonOrders.{largest-below, all_divide_unity, orders_within}
use Rattle.bridge.proofs.Sequences.CommonOrders.{repeat_by_orders}
use Rattle.bridge.proofs.Sequences.CommonOrders.{unities_at, at_unities}

-- The least period
module _ {F : Field} (I : IsField F) (s : Sequence) (h : InField F s) where
  periodic-element : (n : ℕ) → Periodic (sequence I s) n → Periodic s n
  periodic-element n e i = element_injective I (h (i + n)) (h i) (e i)

  algebra-LeastPeriod : {n : ℕ} → AlgebraLeastPeriod (sequence I s) n → LeastPeriod s n
  algebra-LeastPeriod {n} x =
      record {
        period = record { positive = x.holds.0; repeats = periodic-element n x.holds.1 };
        least =
            λ m y.
            let not-less : ¬ (m < n) = λ l. x.least m l (y.positive, λ i. ap I.element (y.repeats i)) in
            omega arith;
      }

-- A sequence that comes again
pub period-again : (s : Sequence) (e n : ℕ) → Period s n → T (comes_again s e n)
unfolding comes_again
period-again s e n h =
    equal-same (cut-equal s s n 0 e (λ i _. ap s (omega arith) ∙ h.repeats i ∙ ap s (omega arith)))

module _ {F : Field} (I : IsField F) (g : Polynomial) (monic : T (is_monic_over F g)) (s : Sequence)
    (h : InField F s) (annihilated : AnnihilatesEndless F g s)
  where
    start : List ℕ
    start = cut s 0 (degree g)

    -- from place n on it is annihilated too
    onwards : (n : ℕ) → cut s n (degree g) ≡ start → Continues F g start (λ i. s (n + i))
    unfolding start
    onwards n e =
        record {
          in_field = λ i. h (n + i);
          begins =
              ap (cut (λ i. s (n + i)) 0) (length_cut s 0 (degree g))
              ∙ cut-equal (λ i. s (n + i)) s 0 n (degree g) (λ i _. ap (λ j. s (n + j)) (ℕ.zero-add i))
              ∙ e;
          annihilated = λ k. act_at-shift F g s n k ∙ annihilated (n + k);
        }

    same-onwards : (n : ℕ) → cut s n (degree g) ≡ start → (i : ℕ) → s (n + i) ≡ s (0 + i)
    unfolding start
    same-onwards n e i =
        let size = length_cut s 0 (degree g) in
        continues_unique I g monic start size _ (onwards n e) i
        ∙ sym (continues_unique I g monic start size _ (onwards 0 refl) i)

    pub again-period : (n : ℕ) → 0 < n → T (comes_again s (degree g) n) → Period s n
    unfolding comes_again start
    again-period n l z =
        record {
          positive = l;
          repeats =
              λ i.
              ap s (ℕ.add_comm i n)
              ∙ same-onwards n (same-equal (cut s n (degree g)) (cut s 0 (degree g)) z) i
              ∙ ap s (ℕ.zero-add i);
        }

-- x does not divide the minimal polynomial of a sequence that has a period
pub minimal-constant : {F : Field} (I : IsField F) (g : Polynomial) (s : Sequence) → MinimalPolynomial F g s
    → (n : ℕ)
    → Period s n
    → get_or g 0 0 ≢ 0
minimal-constant I g s minimal n y z =
    unity-divisor-constant-term I.ring I.field.discrete I.field.one_nonzero n y.positive
    ((minimal-generator I.field (minimal_algebra I g s minimal)).divides
    (algebra-unity (poly_ring I) (X I.ring I.field.discrete) n)
    ((periodic-kills I.ring I.field.discrete (sequence I s) n).0 (λ i. ap I.element (y.repeats i))))
    (coefficient-poly I g 0 ∙ ap I.element z ∙ I.element-zero)

-- The repeat length
module _ (g : Polynomial) (s : Sequence) where
  pub repeat_length-constant : get_or g 0 0 ≡ 0 → repeat_length g s ≡ 0
  unfolding repeat_length
  repeat_length-constant z =
      rw (T_true {b = eqb (get_or g 0 0) 0} (subst (λ c. T (eqb c 0)) (sym z) (eqb_refl 0)), repeat_length)

  pub repeat_length-search :
      get_or g 0 0 ≢ 0 → repeat_length g s ≡ least_within longest_repeat (comes_again s (degree g))
  unfolding repeat_length
  repeat_length-search c =
      rw (T_false {b = eqb (get_or g 0 0) 0} (λ z. c (eqb→eq (get_or g 0 0) 0 z)), repeat_length)

module _ {F : Field} (I : IsField F) (g : Polynomial) (monic : T (is_monic_over F g)) (s : Sequence)
    (h : InField F s) (annihilated : AnnihilatesEndless F g s) (constant : get_or g 0 0 ≢ 0) {n : ℕ}
    (least : LeastPeriod s n)
  where
    again-least : (m : ℕ) → 0 < m → T (comes_again s (degree g) m) → n ≤ m
    again-least m l z = least.least m (again-period I g monic s h annihilated m l z)

    pub repeat_length-known : n ≤ longest_repeat → repeat_length g s ≡ n
    repeat_length-known l =
        let p = least.period in
        repeat_length-search g s constant
        ∙ within-found longest_repeat (comes_again s (degree g)) l
        (record {
          holds = (p.positive, period-again s (degree g) n p);
          least = λ m k z. omega (arith, again-least m z.0 z.1);
        })

    pub repeat_length-beyond : longest_repeat < n → repeat_length g s ≡ 0
    repeat_length-beyond l =
        repeat_length-search g s constant
        ∙ within-missing longest_repeat (comes_again s (degree g))
        (λ m k b z. omega (arith, again-least m k z))

-- The periods of a sequence with the minimal polynomial Π f^r
module _
    {F : Field} (I : IsField F) (l : List (Polynomial × ℕ)) (factors : Factors F (factors_of l))
    (s : Sequence) (h : InField F s) (minimal : MinimalPolynomial F (product F l) s)
  where
    abbrev g : Polynomial
    g = product F l

    abbrev p : ℕ
    p = F.characteristic

    abbrev x : Poly I
    x = X I.ring I.field.discrete

    factor-poly : (i : ℕ) → get_or (polys I l) i (poly_ring I).0# ≡ poly I (factor_at l i)
    factor-poly i =
        ap (get_or (polys I l) i) (sym (poly-nil I)) ∙ get_or-map (λ f. poly I f.0) l i ([], 0)

    within : (i : ℕ) → i < length (polys I l) → i < length l
    within i = subst (λ n. i < n) (length-map l (λ f. poly I f.0))

    within' : (i : ℕ) → i < length l → i < length (polys I l)
    within' i = subst (λ n. i < n) (sym (length-map l (λ f. poly I f.0)))

    period : (n : ℕ) → 0 < n → T (comes_again s (degree g) n) → Period s n
    period = again-period I g minimal.monic s h minimal.annihilates

    module _ (i : ℕ) (k : i < length l) where
      at : i < length (factors_of l)
      at = subst (λ n. i < n) (sym (length-factors_of l)) k

      factor-monic : T (is_monic_over F (factor_at l i))
      factor-monic = subst (λ f. T (is_monic_over F f)) (factor_at-factors_of l i) (factors.monic i at)

      factor-positive : 1 ≤ degree (factor_at l i)
      factor-positive = subst (λ f. 1 ≤ degree f) (factor_at-factors_of l i) (factors.positive i at)

      factor-irreducible : Irreducible (poly I (factor_at l i)) (degree (factor_at l i))
      factor-irreducible =
          subst (λ f. Irreducible (poly I f) (degree f)) (factor_at-factors_of l i)
          (irreducible-poly I (get_or (factors_of l) i []) (factors.monic i at) (factors.positive i at)
          (factors.irreducibles i at))

    whole : Generator (poly_ring I) (Kills (sequence I s)) (poly I g)
    whole = minimal-generator I.field (minimal_algebra I g s minimal)

    -- Periods in both rooms
    period_algebra : (n : ℕ) → Period s n → Periodic (sequence I s) n
    period_algebra n y i = ap I.element (y.repeats i)

    algebra_period : (n : ℕ) → 0 < n → Periodic (sequence I s) n → Period s n
    algebra_period n k y =
        record { positive = k; repeats = λ i. element_injective I (h (i + n)) (h i) (y i) }

    -- there is none where x divides g
    pub period-constant : get_or (product F l) 0 0 ≡ 0 → (n : ℕ) → ¬ Period s n
    period-constant z n y = minimal-constant I g s minimal n y z

    module _ {t : ℕ} (level : Level F.characteristic (largest_power l) t) where
      lowest : (w : ℕ) → ((i : ℕ) → i < length (polys I l) → power_at l i ≤ p ^ w) → t ≤ w
      lowest w b =
          let c : largest_power l ≤ p ^ w = largest-below l (p ^ w) (λ i k. b i (within' i k)) in
          let not : ¬ (w < t) = λ k. omega (arith, level.least w k) in
          omega arith

      factored : Factored I.field I.characteristic (polys I l) (power_at l) (sequence I s) t
      factored =
          record {
            irreducibles =
                λ i k. (
                  degree (factor_at l i),
                  subst (λ f. Irreducible f (degree (factor_at l i))) (sym (factor-poly i))
                      (factor-irreducible i (within i k)),
                );
            atoms = pairs-atoms I l factors;
            generator = subst (Generator (poly_ring I) (Kills (sequence I s))) (poly-product I l) whole;
            reaches = λ i _. ℕ.le_trans (power-largest l i) level.reaches;
            least = lowest;
          }

      -- Divisors of x^n − 1 in both rooms
      unities_algebra :
          (n : ℕ)
          → T (all_divide_unity F l n)
          → Unities I.field I.characteristic (polys I l) (power_at l) n
      unities_algebra n u i k b =
          let k' = within i k in
          subst (λ f. Unity (poly_ring I) x f n) (sym (factor-poly i))
          (unity-divides I (factor_at l i) (factor-monic i k') (factor-positive i k') n
          (unities_at F l n u i k' b))

      algebra_unities :
          (n : ℕ)
          → Unities I.field I.characteristic (polys I l) (power_at l) n
          → T (all_divide_unity F l n)
      algebra_unities n u =
          at_unities F l n
          (λ i k b.
          divides-unity I (factor_at l i) (factor-monic i k) (factor-positive i k) n
          (subst (λ f. Unity (poly_ring I) x f n) (factor-poly i) (u i (within' i k) b)))

      positive : 0 < p ^ t
      positive = ℕ.one-le-pow t p (omega (arith, characteristic_two I))

      again_divided_by : (k : ℕ) → 0 < k → comes_again s (degree g) (p ^ t * k) ≡ all_divide_unity F l k
      again_divided_by k b =
          T-same
          (λ z.
          algebra_unities k
          (period-unity I.field I.characteristic factored k b
          (period_algebra (p ^ t * k) (period (p ^ t * k) (ℕ.mul-pos positive b) z))))
          (λ u.
          period-again s (degree g) (p ^ t * k)
          (algebra_period (p ^ t * k) (ℕ.mul-pos positive b)
          (unity-period I.field I.characteristic factored k (unities_algebra k u))))

      again-level : (n : ℕ) → 0 < n → T (comes_again s (degree g) n) → p ^ t ∣ n
      again-level n b z =
          period-level I.field I.characteristic factored n b (period_algebra n (period n b z))

      -- x to a power other than 0 would divide g
      not-x :
          get_or g 0 0 ≢ 0
          → (i : ℕ) → i < length (polys I l) → 0 < power_at l i
          → ¬ (get_or (polys I l) i (poly_ring I).0# ≡ x)
      not-x c i k b e =
          c (element-zero-only I (get_or-below I g (monic-elements F g minimal.monic) 0)
          (sym (coefficient-poly I g 0) ∙ x-divides-constant x-divides))
        where
          x-divides : Divides (poly_ring I) x (poly I g)
          x-divides =
              subst (λ f. Divides (poly_ring I) f (poly I g)) (power-one (poly_ring I) _ ∙ e)
              (divides_trans (poly_ring I) (divides-power (poly_ring I) _ b)
              (subst (Divides (poly_ring I) _) (sym (poly-product I l))
              (power-divides-product (poly_ring I) (polys I l) (power_at l) i k)))

      least_period_exists : get_or g 0 0 ≢ 0 → (m : ℕ) × LeastPeriod s m
      least_period_exists c =
          let (m, b, y) = period_exists I.field I.characteristic factored (elements I) (not-x c) in
          let (n, _, z) = least-period I.field.discrete m b y in
          (n, algebra-LeastPeriod I s h z)

      orders-within :
          least_within longest_repeat (comes_again s (degree g))
          ≡ p ^ t * least_within (longest_repeat / p ^ t) (all_divide_unity F l)
      orders-within =
          within-multiples longest_repeat (p ^ t) (comes_again s (degree g)) (all_divide_unity F l) positive
          again-level again_divided_by

    abbrev searched : ℕ
    searched = least_within longest_repeat (comes_again s (degree g))

    searched-orders : searched ≡ repeat_by_orders F l
    unfolding repeat_by_orders orders_within
    searched-orders =
        let (t, level) = level_exists p (largest_power l) (characteristic_two I) in
        orders-within level
        ∙ ap (λ q. q * least_within (longest_repeat / q) (all_divide_unity F l))
        (sym (reaching-level (characteristic_two I) level))

    -- The repeat length
    constant-decided : Dec (get_or g 0 0 ≡ 0)
    constant-decided = elim (T-decided (eqb (get_or g 0 0) 0)) [
      | yes z ↦ yes (eqb→eq (get_or g 0 0) 0 z)
      | no c ↦ no (λ e. c (subst (λ a. T (eqb a 0)) (sym e) (eqb_refl 0)))
    ]

    pub repeat_length-orders : repeat_length (product F l) s ≡ repeat_by_orders F l
    repeat_length-orders = elim constant-decided [
      | yes z ↦
          repeat_length-constant g s z
          ∙ sym (within-missing longest_repeat (comes_again s (degree g))
          (λ n b _ y. period-constant z n (period n b y)))
          ∙ searched-orders
      | no c ↦ repeat_length-search g s c ∙ searched-orders
    ]

    -- What it says
    known_meaning :
        {n : ℕ} → get_or g 0 0 ≢ 0 → LeastPeriod s n → Dec (n ≤ longest_repeat)
        → RepeatMeaning g s (repeat_length g s)
    unfolding longest_repeat
    known_meaning {n} c y (yes b) =
        let e = repeat_length-known I g minimal.monic s h minimal.annihilates c y b in
        record {
          exact = λ _. subst (λ m. LeastPeriod s m × (m ≤ longest_repeat)) (sym e) (y, b);
          beyond = λ z. let p = y.period in absurd (omega (arith, p.positive));
          never = λ z. absurd (c z);
        }
    known_meaning {n} c y (no k) =
        let b : longest_repeat < n = omega arith in
        let e = repeat_length-beyond I g minimal.monic s h minimal.annihilates c y b in
        record {
          exact = λ l. absurd (omega arith);
          beyond = λ _. inr (n, y, b);
          never = λ z. absurd (c z);
        }

    pub repeat_length_meaning : RepeatMeaning (product F l) s (repeat_length (product F l) s)
    repeat_length_meaning = elim constant-decided [
      | yes z ↦ record {
        exact = λ b. absurd (omega (arith, repeat_length-constant g s z));
        beyond = λ _. inl z;
        never = period-constant;
      }
      | no c ↦
          let (t, level) = level_exists p (largest_power l) (characteristic_two I) in
          let (n, y) = least_period_exists level c in
          known_meaning c y (dec_le n longest_repeat)
    ]

-- The set way's answer
module _
    {F : Field} (I : IsField F) (l : List (Polynomial × ℕ)) (factors : Factors F (factors_of l))
    (ts : List ℕ) (elements : T (are_elements F ts)) (enough : total_degree l ≤ length ts)
    {rs : List ℕ} (found : set_powers F l ts ≡ some rs)
  where
    powered : Factors F (factors_of (named (factors_of l) rs))
    powered = subst (Factors F) (sym (factors_of-named (factors_of l) rs)) factors

    within-field : InField F (onward F l ts)
    within-field = (onward_continues I l (factors-monics I l factors) ts elements enough).in_field

    whole-minimal : MinimalPolynomial F (product F (named (factors_of l) rs)) (onward F l ts)
    whole-minimal = (set_powers-minimal I l factors ts elements enough found).minimal

    pub set-repeat_length :
        repeat_length (product F (named (factors_of l) rs)) (onward F l ts)
        ≡ repeat_by_orders F (named (factors_of l) rs)
    set-repeat_length =
        repeat_length-orders I (named (factors_of l) rs) powered (onward F l ts) within-field whole-minimal

    pub set-RepeatMeaning :
        RepeatMeaning (product F (named (factors_of l) rs)) (onward F l ts)
        (repeat_length (product F (named (factors_of l) rs)) (onward F l ts))
    set-RepeatMeaning =
        repeat_length_meaning I (named (factors_of l) rs) powered (onward F l ts) within-field whole-minimal
