-- The period way: the power that `meaning` finds is the least that annihilates the endless repetition.
--
-- f is an irreducible list, ts a period of N terms, N = p^w·m with m not divisible by the characteristic p.
--
--   period_power-least, least-period_power == `period_power` finds r exactly where r is the least power of f
--                     that annihilates the repetition
--   period_power-none, none-period_power == it finds none exactly where no power annihilates
--   period_power-decided == it finds none exactly where the power p^w does not annihilate the period, so that
--                     one action decides it
--   period-size    == where some power annihilates and the terms are not all 0: p^w·deg f ≤ N
--   period_power-portion == and then the power is that of the first p^w·deg f terms as a portion, with the
--                     upper power p^w
--   period_power-zeros == the power of zeros is 0
--   period_power-search == where p^w annihilates, the search finds the power in the first p^w·deg f terms
--   PeriodSearch F f ts step p w == these three for code: what the power p^w decides, the size, and what the
--                     search finds; so it is by `period-search`
--   period_power-size == the degree of the power found is at most N
--   period_power-minimal == f to the power found is the minimal polynomial of the repetition
--
-- Assumes nothing.
use Prim.Native.Nat.{ℕ, ◌+◌, ◌*◌, ◌-◌, ◌^◌, ◌%◌, ◌≤◌, ◌<◌, min}
use mathlib.Core.Path.{◌≡◌, sym, ap, ap₂, subst, ◌∙◌}
use mathlib.Core.Logic.{◌≢◌}
use mathlib.Core.Bool.{Bool, not}
use mathlib.Core.List.{List}
use mathlib.Core.Option.{Option, none, some, some-injective}
use native.Mathlib.Nat as ℕ
use native.Mathlib.Omega.{arith}
use lib.ListN.{length, get_or, take, length-take}
use lib.Dec.{T, T_not, not_T}
use Rattle.meaning.specs.Search.{least, is_none}
use Rattle.meaning.specs.Field.{Field, are_elements}
use Rattle.meaning.specs.Polynomial.{Polynomial, degree, is_monic_over, times, power, irreducible}
use Rattle.meaning.specs.Sequence.{AnnihilatesEndless, annihilates_known, annihilates_period, periodic, known}
use Rattle.meaning.specs.Sequence.{cut, MinimalPolynomial, LeastPower}
use Rattle.meaning.specs.Period.{period_power, NoPower}
use Rattle.meaning.proofs.Tables.{is_none_none}
use Rattle.algebra.proofs.Rings.Power.{power as algebra-power}
use Rattle.algebra.proofs.Sequences.Action.{Kills}
use Rattle.algebra.proofs.Sequences.Cut.{Periodic}
use Rattle.algebra.proofs.Sequences.Period.{valuation-le, periodic-power, periodic-size}
use Rattle.bridge.proofs.Basics.Searches.{T-same, T-decided, least-some, least-none, least-found}
use Rattle.bridge.proofs.Basics.Searches.{least-missing, least_exists, least_narrower, least-same}
use Rattle.bridge.proofs.Basics.Searches.{none_is_none}
use Rattle.bridge.proofs.Basics.Interpretation.{IsField, element-zero-only}
use Rattle.bridge.proofs.Lists.Polynomials.{poly_ring, poly, monic-nonempty, get_or-below}
use Rattle.bridge.proofs.Lists.Products.{poly-power, power-monic, power-add, degree-power}
use Rattle.bridge.proofs.Sequences.Actions.{sequence, endless-kills, kills-endless, period-endless}
use Rattle.bridge.proofs.Sequences.Actions.{endless-period, periodic-repeats, periodic-get_or}
use Rattle.bridge.proofs.Sequences.Actions.{known-get_or}
use Rattle.bridge.proofs.Sequences.Actions.{endless-known, cut-equal}
use Rattle.bridge.proofs.Lists.Irreducibles.{irreducible-poly}
use Rattle.bridge.proofs.Sequences.Minimal.{least_power_minimal}
use Rattle.bridge.proofs.Sequences.Continuations.{take-elements}
use Rattle.bridge.proofs.Sequences.KnownActions.{all_zero, get_or-all_zero, all_zero-take, endless-part}
use Rattle.bridge.proofs.Sequences.KnownActions.{take-stretch}
use Rattle.bridge.proofs.Sequences.KnownActions.{annihilates_period-all, act_on_period-zeros}
use Rattle.bridge.proofs.Ways.PowerSearch.{Steps, power_found, power_found-zeros, portion-search}
-- what code proofs take of the exponent of p in N
pub use Rattle.algebra.proofs.Sequences.Period.{Valuation, valuation}

-- In words; any list
module _ (F : Field) (f : Polynomial) (ts : List ℕ) where
  pub period_power-least :
      0 < length ts → {r : ℕ} → period_power F f ts ≡ some r → LeastPower F f (periodic ts) r
  unfolding period_power
  period_power-least l {r} e =
      let (_, x) = least-some (length ts) (λ r. annihilates_period F (power F f r) ts) e in
      record {
        annihilates = period-endless F (power F f r) ts l x.holds;
        smallest =
            λ e z.
            let not-less : ¬ (e < r) = λ k. x.least e k (endless-period F (power F f e) ts z) in
            omega arith;
      }

  pub none-period_power : 0 < length ts → NoPower F f ts → period_power F f ts ≡ none
  unfolding period_power
  none-period_power l h =
      least-missing (length ts) (λ r. annihilates_period F (power F f r) ts)
      (λ r _ z. h r (period-endless F (power F f r) ts l z))

module _ {F : Field} (I : IsField F) (f : Polynomial) (ts : List ℕ) where
  pub period_power-zeros : T (all_zero ts) → period_power F f ts ≡ some 0
  unfolding period_power
  period_power-zeros h =
      least-found (length ts) (λ r. annihilates_period F (power F f r) ts) (omega arith)
      (record {
        holds =
            subst T (sym (annihilates_period-all F (power F f 0) ts))
            (act_on_period-zeros I (power F f 0) ts h);
        least = λ m l. absurd (omega arith);
      })

take-periodic : (n : ℕ) (ts : List ℕ) → n ≤ length ts → take n ts ≡ cut (periodic ts) 0 n
take-periodic n ts l =
    let e : min n (length ts) ≡ n = omega arith in
    take-stretch n ts
    ∙ ap (cut (known ts) 0) e
    ∙ cut-equal (known ts) (periodic ts) 0 0 n
    (λ i b. known-get_or ts (0 + i) ∙ sym (periodic-get_or ts (0 + i) (omega arith)))

-- An irreducible list
module _
    {F : Field} (I : IsField F) (f : Polynomial) (monic : T (is_monic_over F f)) (positive : 1 ≤ degree f)
    (irreducibility : T (irreducible F f)) (ts : List ℕ) (nonempty : 0 < length ts)
  where
    abbrev p : ℕ
    p = F.characteristic

    abbrev repeated : ℕ → I.K
    repeated = sequence I (periodic ts)

    repeats : Periodic repeated (length ts)
    repeats i = ap I.element (periodic-repeats ts i)

    power-kills :
        (e : ℕ)
        → AnnihilatesEndless F (power F f e) (periodic ts)
        → Kills repeated (algebra-power (poly_ring I) (poly I f) e)
    power-kills e z =
        subst (Kills repeated) (poly-power I f e) (endless-kills I (power F f e) (periodic ts) z)

    kills-power :
        (e : ℕ)
        → Kills repeated (algebra-power (poly_ring I) (poly I f) e)
        → AnnihilatesEndless F (power F f e) (periodic ts)
    kills-power e z =
        kills-endless I (power F f e) (periodic ts) (subst (Kills repeated) (sym (poly-power I f e)) z)

    pub period_power-minimal :
        {r : ℕ} → period_power F f ts ≡ some r → MinimalPolynomial F (power F f r) (periodic ts)
    period_power-minimal e =
        least_power_minimal I f (periodic ts) monic positive irreducibility
        (period_power-least F f ts nonempty e)

    -- some power annihilates: then p^w does
    valued-kills :
        {w m : ℕ}
        → Valuation p (length ts) w m
        → (e : ℕ)
        → AnnihilatesEndless F (power F f e) (periodic ts)
        → AnnihilatesEndless F (power F f (p ^ w)) (periodic ts)
    valued-kills {w} v e z =
        kills-power (p ^ w)
        (periodic-power I.field repeats (irreducible-poly I f monic positive irreducibility)
        I.characteristic v e (power-kills e z))

    split-length : (w m : ℕ) × Valuation p (length ts) w m
    split-length = valuation I.characteristic.prime (length ts) nonempty

    pub period_power-none : period_power F f ts ≡ none → NoPower F f ts
    unfolding period_power
    period_power-none n e z =
        let (w, m, v) = split-length in
        least-none (length ts) (λ r. annihilates_period F (power F f r) ts) n (p ^ w) (valuation-le v)
        (endless-period F (power F f (p ^ w)) ts (valued-kills v e z))

    pub least-period_power : {r : ℕ} → LeastPower F f (periodic ts) r → period_power F f ts ≡ some r
    unfolding period_power
    least-period_power {r} x =
        let (w, m, v) = split-length in
        least-found (length ts) (λ r. annihilates_period F (power F f r) ts)
        (ℕ.le_trans (x.smallest (p ^ w) (valued-kills v r x.annihilates)) (valuation-le v))
        (record {
          holds = endless-period F (power F f r) ts x.annihilates;
          least = λ e l z. omega (arith, x.smallest e (period-endless F (power F f e) ts nonempty z));
        })

    -- With the length as p^w·m
    module _ (w m : ℕ) (split : length ts ≡ F.characteristic ^ w * m)
        (rest : m % F.characteristic ≢ 0) where
      valued : Valuation p (length ts) w m
      valued = record { product = split; rest = λ d. rest (ℕ.mod-eq-zero_of_dvd p d) }

      abbrev whole : Polynomial
      whole = power F f (p ^ w)

      pub period-whole :
          (e : ℕ)
          → AnnihilatesEndless F (power F f e) (periodic ts)
          → T (annihilates_period F (power F f (F.characteristic ^ w)) ts)
      period-whole e z = endless-period F whole ts (valued-kills valued e z)

      pub period_power-decided :
          is_none (period_power F f ts) ≡ not (annihilates_period F (power F f (F.characteristic ^ w)) ts)
      period_power-decided =
          T-same
          (λ n.
          not_T (annihilates_period F whole ts)
          (λ z. period_power-none (is_none_none n) (p ^ w) (period-endless F whole ts nonempty z)))
          (λ n.
          none_is_none
          (none-period_power F f ts nonempty
          (λ e z. T_not (annihilates_period F whole ts) n (period-whole e z))))

      -- The portion of the first p^w·deg f terms
      module _ (elements : T (are_elements F ts)) where
        pub period-size :
            ¬ T (all_zero ts)
            → T (annihilates_period F (power F f (F.characteristic ^ w)) ts)
            → F.characteristic ^ w * degree f ≤ length ts
        period-size n z =
            periodic-size I.field repeats (irreducible-poly I f monic positive irreducibility)
            I.characteristic valued (λ y. n (get_or-all_zero ts (zeros y))) (p ^ w)
            (power-kills (p ^ w) (period-endless F whole ts nonempty z))
          where
            zeros : ((i : ℕ) → repeated i ≡ I.ring.0#) → (i : ℕ) → i < length ts → get_or ts i 0 ≡ 0
            zeros y i l =
                element-zero-only I (get_or-below I ts elements i)
                (ap I.element (sym (periodic-get_or ts i l)) ∙ y i)

        module _ (annihilated : T (annihilates_period F (power F f (F.characteristic ^ w)) ts)) where
          abbrev portion : List ℕ
          portion = take (p ^ w * degree f) ts

          portion-same :
              p ^ w * degree f ≤ length ts
              → (r : ℕ)
              → r ≤ p ^ w
              → annihilates_period F (power F f r) ts ≡ annihilates_known F (power F f r) portion
          portion-same fits r b =
              T-same
              (λ z.
              subst (λ l. T (annihilates_known F (power F f r) l)) (sym stretch)
              (endless-known F (power F f r) (periodic ts) 0 (p ^ w * degree f)
              (period-endless F (power F f r) ts nonempty z)))
              (λ z.
              endless-period F (power F f r) ts
              (endless-part I (power F f (p ^ w - r)) (power F f r) (periodic ts)
              (power-monic I f (p ^ w - r) monic) (power-monic I f r monic) product-kills
              (subst (λ l. T (annihilates_known F (power F f r) l))
              (stretch ∙ ap (cut (periodic ts) 0) (sym degrees)) z)))
            where
              stretch : portion ≡ cut (periodic ts) 0 (p ^ w * degree f)
              stretch = take-periodic (p ^ w * degree f) ts fits

              product-kills :
                  AnnihilatesEndless F (times F (power F f (p ^ w - r)) (power F f r)) (periodic ts)
              product-kills =
                  subst (λ g. AnnihilatesEndless F g (periodic ts))
                  (ap (power F f) (sym (ℕ.sub-add_cancel b))
                  ∙ power-add I f (p ^ w - r) r (monic-nonempty F f monic))
                  (period-endless F whole ts nonempty annihilated)

              degrees : degree (power F f (p ^ w - r)) + degree (power F f r) ≡ p ^ w * degree f
              degrees =
                  ap₂ ◌+◌ (degree-power I f (p ^ w - r) (monic-nonempty F f monic))
                  (degree-power I f r (monic-nonempty F f monic))
                  ∙ sym (ℕ.add-mul (p ^ w - r) r (degree f))
                  ∙ ap (λ k. k * degree f) (ℕ.sub-add_cancel b)

          pub period_power-portion :
              F.characteristic ^ w * degree f ≤ length ts
              → period_power F f ts
              ≡ least (F.characteristic ^ w)
              (λ r. annihilates_known F (power F f r) (take (F.characteristic ^ w * degree f) ts))
          unfolding period_power
          period_power-portion fits =
              let t : ℕ → Bool = λ r. annihilates_period F (power F f r) ts in
              let (r, e, b, _) = least_exists (length ts) t (p ^ w) (valuation-le valued) annihilated in
              e
              ∙ sym (least_narrower (length ts) (p ^ w) t b e)
              ∙ least-same (p ^ w) t (λ r. annihilates_known F (power F f r) portion) (portion-same fits)

          -- what the digits find
          pub period_power-search :
              (step : ℕ → List ℕ → List ℕ)
              → Steps F f step
              → period_power F f ts
              ≡ some (
              power_found step F.characteristic (degree f) w (take (F.characteristic ^ w * degree f) ts)
              )
          period_power-search step steps = elim (T-decided (all_zero ts)) [
            | yes z ↦
                period_power-zeros I f ts z
                ∙ ap {B = Option ℕ} some
                (sym (power_found-zeros step p (degree f) w portion (all_zero-take (p ^ w * degree f) ts z)))
            | no n ↦
                period_power-portion (period-size n annihilated)
                ∙ portion-search I f monic step steps w (p ^ w) portion
                (take-elements F (p ^ w * degree f) ts elements) (ℕ.le_refl (p ^ w)) short
          ]
            where
              short : length portion ≤ p ^ w * degree f
              short = omega (arith, length-take (p ^ w * degree f) ts)

-- For code
pub record PeriodSearch (F : Field) (f : Polynomial) (ts : List ℕ) (step : ℕ → List ℕ → List ℕ) (p w : ℕ)
    : Type 0 where
  pub decides : is_none (period_power F f ts) ≡ not (annihilates_period F (power F f (p ^ w)) ts)
  pub fits :
      T (annihilates_period F (power F f (p ^ w)) ts) → ¬ T (all_zero ts) → p ^ w * degree f ≤ length ts
  pub finds :
      T (annihilates_period F (power F f (p ^ w)) ts)
      → period_power F f ts ≡ some (power_found step p (degree f) w (take (p ^ w * degree f) ts))

pub period-search :
    {F : Field} (I : IsField F) (f : Polynomial) (ts : List ℕ)
    → T (is_monic_over F f)
    → 1 ≤ degree f
    → T (irreducible F f)
    → 0 < length ts
    → T (are_elements F ts)
    → (w m : ℕ)
    → length ts ≡ F.characteristic ^ w * m
    → m % F.characteristic ≢ 0
    → (step : ℕ → List ℕ → List ℕ)
    → Steps F f step
    → PeriodSearch F f ts step F.characteristic w
period-search I f ts a b c l h w m e r step steps =
    record {
      decides = period_power-decided I f a b c ts l w m e r;
      fits = λ z n. period-size I f a b c ts l w m e r h n z;
      finds = λ z. period_power-search I f a b c ts l w m e r h z step steps;
    }

-- the degree of the power found
pub period_power-size :
    {F : Field} (I : IsField F) (f : Polynomial)
    → T (is_monic_over F f)
    → 1 ≤ degree f
    → T (irreducible F f)
    → (ts : List ℕ)
    → 0 < length ts
    → T (are_elements F ts)
    → {r : ℕ}
    → period_power F f ts ≡ some r
    → r * degree f ≤ length ts
period_power-size {F} I f a b c ts l h {r} e = elim (T-decided (all_zero ts)) [
  | yes z ↦
      let n : 0 ≡ r = some-injective 0 r (sym (period_power-zeros I f ts z) ∙ e) in
      subst (λ n. n * degree f ≤ length ts) n (omega (arith, ℕ.zero-mul (degree f)))
  | no z ↦
      let (w, m, v) = valuation I.characteristic.prime (length ts) l in
      let rest : m % F.characteristic ≢ 0 = λ y. v.rest (ℕ.dvd_of_mod-eq-zero F.characteristic y) in
      let x = period_power-least F f ts l e in
      let whole = period-whole I f a b c ts l w m v.product rest r x.annihilates in
      let below = x.smallest (F.characteristic ^ w)
      (period-endless F (power F f (F.characteristic ^ w)) ts l whole) in
      ℕ.le_trans (ℕ.mul-le-mul_right (degree f) below)
      (period-size I f a b c ts l w m v.product rest h z whole)
]
