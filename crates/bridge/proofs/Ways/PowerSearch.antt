-- The search for the least annihilating power, digit by digit in base p, on lists of known terms.
--
-- `step q s` is what acting once with the power q of a list f leaves of the terms s: for example
-- `power_acts F f`, which leaves nothing where there are too few terms. p is the base, d the degree of f.
--
--   digit_found step c q s == the largest number i, at most c, of steps that leave something of s, which is
--                     not all 0: it steps until nothing would be left, or c times
--   digit_left step c q s == what these steps leave of s
--   digits_found step p d l s == the digits of the levels below l, the top level first: at level k the digit
--                     with the steps p^k, at most p − 1; what it leaves is cut to p^k·d terms for the levels
--                     below. As a number: the sum of the digits times p^k
--   power_found step p d w s == 0 where s is all 0, else one more than the digits below level w
--   Steps F f step == at each level l, `step (p^l)` is the action of f^(p^l) on known terms
--   power_acts F f q s == the action of f^q on s, which is so by `act_steps`
--   search-least   == if f^v annihilates the terms and v ≤ p^w, `power_found` is the least power of f that
--                     annihilates them: what `least v` finds
--   portion-search == so it is for v·d terms, or fewer
--
-- Assumes nothing.
use Prim.Native.Nat.{ℕ, zero, suc, pred, ◌+◌, ◌*◌, ◌-◌, ◌^◌, ◌≤◌, ◌<◌}
use mathlib.Core.Path.{◌≡◌, refl, sym, ap, ap₂, subst, ◌∙◌}
use mathlib.Core.HLevel.{Σ_prop_path}
use mathlib.Core.Bool.{Bool, true, false}
use mathlib.Core.List.{List}
use mathlib.Core.Option.{some}
use native.Mathlib.Nat as ℕ
use native.Mathlib.Numerals.{sub-one}
use native.Mathlib.Omega.{arith}
use lib.ListN.{length, take}
use lib.Dec.{T, T_prop}
use Rattle.meaning.specs.Search.{least}
use Rattle.meaning.specs.Field.{Field, are_elements}
use Rattle.meaning.specs.Polynomial.{Polynomial, degree, is_monic_over, power}
use Rattle.meaning.specs.Sequence.{annihilates_known, act_on_known}
use Rattle.algebra.proofs.Numbers.Number.{Least}
use Rattle.algebra.proofs.Numbers.Digits.{Acts, Keeps, digit, digits, exponent, exponent-least}
use Rattle.bridge.proofs.Basics.Searches.{T_true, T_false, T-decided, LeastPasses, least-found}
use Rattle.bridge.proofs.Basics.Interpretation.{IsField}
use Rattle.bridge.proofs.Lists.Polynomials.{monic-nonempty}
use Rattle.bridge.proofs.Sequences.Continuations.{take-elements}
use Rattle.bridge.proofs.Sequences.KnownActions.{all_zero, all_zero-take, act_on_known-elements}
use Rattle.bridge.proofs.Sequences.KnownActions.{act_on_known-zeros}
use Rattle.bridge.proofs.Sequences.KnownActions.{known-take, act_on_known-power-zero}
use Rattle.bridge.proofs.Sequences.KnownActions.{act_on_known-power-add}
use Rattle.bridge.proofs.Sequences.KnownActions.{known-power-part, known-zeros, zeros-known}
use Rattle.bridge.proofs.Sequences.KnownActions.{short-power}

-- The search
unfoldable pub digit_found : (ℕ → List ℕ → List ℕ) → ℕ → ℕ → List ℕ → ℕ
digit_found step zero q s = 0
digit_found step (suc c) q s =
    elim (all_zero (step q s)) [ true ↦ 0 | false ↦ suc (digit_found step c q (step q s)) ]

unfoldable pub digit_left : (ℕ → List ℕ → List ℕ) → ℕ → ℕ → List ℕ → List ℕ
digit_left step zero q s = s
digit_left step (suc c) q s =
    elim (all_zero (step q s)) [ true ↦ s | false ↦ digit_left step c q (step q s) ]

unfoldable pub digits_found : (ℕ → List ℕ → List ℕ) → ℕ → ℕ → ℕ → List ℕ → ℕ
digits_found step p d zero s = 0
digits_found step p d (suc l) s =
    digit_found step (p - 1) (p ^ l) s * p ^ l
    + digits_found step p d l (take (p ^ l * d) (digit_left step (p - 1) (p ^ l) s))

unfoldable pub power_found : (ℕ → List ℕ → List ℕ) → ℕ → ℕ → ℕ → List ℕ → ℕ
power_found step p d w s = elim (all_zero s) [ true ↦ 0 | false ↦ suc (digits_found step p d w s) ]

-- its equations
module _ (step : ℕ → List ℕ → List ℕ) where
  pub digit_found-none : (q : ℕ) (s : List ℕ) → digit_found step 0 q s ≡ 0
  unfolding digit_found
  digit_found-none q s = refl

  pub digit_left-none : (q : ℕ) (s : List ℕ) → digit_left step 0 q s ≡ s
  unfolding digit_left
  digit_left-none q s = refl

  pub digit_found-stop : (c q : ℕ) (s : List ℕ) → T (all_zero (step q s)) → digit_found step c q s ≡ 0
  unfolding digit_found
  digit_found-stop zero q s h = refl
  digit_found-stop (suc c) q s h = rw (T_true {b = all_zero (step q s)} h, digit_found)

  pub digit_left-stop : (c q : ℕ) (s : List ℕ) → T (all_zero (step q s)) → digit_left step c q s ≡ s
  unfolding digit_left
  digit_left-stop zero q s h = refl
  digit_left-stop (suc c) q s h = rw (T_true {b = all_zero (step q s)} h, digit_left)

  pub digit_found-more :
      (c q : ℕ) (s : List ℕ)
      → ¬ T (all_zero (step q s))
      → digit_found step (suc c) q s ≡ suc (digit_found step c q (step q s))
  unfolding digit_found
  digit_found-more c q s h = rw (T_false {b = all_zero (step q s)} h, digit_found)

  pub digit_left-more :
      (c q : ℕ) (s : List ℕ)
      → ¬ T (all_zero (step q s))
      → digit_left step (suc c) q s ≡ digit_left step c q (step q s)
  unfolding digit_left
  digit_left-more c q s h = rw (T_false {b = all_zero (step q s)} h, digit_left)

  pub digit_found-below : (c q : ℕ) (s : List ℕ) → digit_found step c q s ≤ c
  digit_found-below zero q s = omega (arith, digit_found-none q s)
  digit_found-below (suc c) q s = go (digit_found-below c q (step q s)) (T-decided (all_zero (step q s)))
    where
      go :
          digit_found step c q (step q s) ≤ c
          → Dec (T (all_zero (step q s)))
          → digit_found step (suc c) q s ≤ suc c
      go rest (yes z) = omega (arith, digit_found-stop (suc c) q s z)
      go rest (no z) = omega (arith, digit_found-more c q s z)

  pub digits_found-zero : (p d : ℕ) (s : List ℕ) → digits_found step p d 0 s ≡ 0
  unfolding digits_found
  digits_found-zero p d s = refl

  pub digits_found-suc :
      (p d l : ℕ) (s : List ℕ)
      → digits_found step p d (suc l) s
      ≡ digit_found step (p - 1) (p ^ l) s * p ^ l
      + digits_found step p d l (take (p ^ l * d) (digit_left step (p - 1) (p ^ l) s))
  unfolding digits_found
  digits_found-suc p d l s = refl

  -- the digits are those of a number below p^l
  pub digits_found-below : (p d l : ℕ) (s : List ℕ) → 0 < p → digits_found step p d l s < p ^ l
  digits_found-below p d zero s pos = omega (arith, digits_found-zero p d s, ℕ.pow-zero p)
  digits_found-below p d (suc l) s pos =
      let rest : List ℕ = take (p ^ l * d) (digit_left step (p - 1) (p ^ l) s) in
      let e : suc (p - 1) ≡ p = omega arith in
      omega (
        arith,
        digits_found-suc p d l s,
        digits_found-below p d l rest pos,
        ℕ.mul-le-mul_right (p ^ l) (digit_found-below (p - 1) (p ^ l) s),
        ℕ.suc-mul (p - 1) (p ^ l),
        ap (λ n. n * p ^ l) e,
        ℕ.pow-succ' p l,
      )

  -- zeros have no digits where steps leave them zeros
  module _ (keep : (q : ℕ) (s : List ℕ) → T (all_zero s) → T (all_zero (step q s))) where
    pub digits_found-zeros : (p d l : ℕ) (s : List ℕ) → T (all_zero s) → digits_found step p d l s ≡ 0
    digits_found-zeros p d zero s h = digits_found-zero p d s
    digits_found-zeros p d (suc l) s h =
        digits_found-suc p d l s
        ∙ ap₂ ◌+◌
        (ap (λ n. n * p ^ l) (digit_found-stop (p - 1) (p ^ l) s (keep (p ^ l) s h)) ∙ ℕ.zero-mul (p ^ l))
        (digits_found-zeros p d l (take (p ^ l * d) (digit_left step (p - 1) (p ^ l) s))
        (all_zero-take (p ^ l * d) (digit_left step (p - 1) (p ^ l) s)
        (subst (λ l. T (all_zero l)) (sym (digit_left-stop (p - 1) (p ^ l) s (keep (p ^ l) s h))) h)))

  pub power_found-zeros : (p d w : ℕ) (s : List ℕ) → T (all_zero s) → power_found step p d w s ≡ 0
  unfolding power_found
  power_found-zeros p d w s h = rw (T_true {b = all_zero s} h, power_found)

  pub power_found-digits :
      (p d w : ℕ) (s : List ℕ) → ¬ T (all_zero s) → power_found step p d w s ≡ suc (digits_found step p d w s)
  unfolding power_found
  power_found-digits p d w s h = rw (T_false {b = all_zero s} h, power_found)

-- What the steps have to be
abbrev pub Steps : Field → Polynomial → (ℕ → List ℕ → List ℕ) → Type 0
Steps F f step =
    (l : ℕ) (s : List ℕ)
    → step (F.characteristic ^ l) s ≡ act_on_known F (power F f (F.characteristic ^ l)) s

abbrev pub power_acts : Field → Polynomial → ℕ → List ℕ → List ℕ
power_acts F f q s = act_on_known F (power F f q) s

pub act_steps : (F : Field) (f : Polynomial) → Steps F f (power_acts F f)
act_steps F f l s = refl

-- The search in the terms of `Digits` of algebra
abbrev picks : {A : Type 0} → Bool → A → A → A
picks t a b = elim t [ true ↦ a | false ↦ b ]

picked :
    {A : Type 0} (t : Bool) (x : Dec (T t)) (a b : A)
    → picks t a b ≡ (elim x as (λ _. A) [ yes _ ↦ a | no _ ↦ b ])
picked true (yes h) a b = refl
picked true (no h) a b = absurd (h tt)
picked false (yes h) a b = absurd h
picked false (no h) a b = refl

module _ {F : Field} (I : IsField F) (f : Polynomial) (monic : T (is_monic_over F f)) where
  abbrev p : ℕ
  p = F.characteristic

  abbrev State : Type 0
  State = (s : List ℕ) × T (are_elements F s)

  abbrev Zero : State → Type 0
  Zero x = T (all_zero x.0)

  abbrev acted : ℕ → State → State
  acted i x = (act_on_known F (power F f i) x.0, act_on_known-elements I (power F f i) x.0)

  abbrev cut : ℕ → State → State
  cut l x = (take (p ^ l * degree f) x.0, take-elements F (p ^ l * degree f) x.0 x.1)

  abbrev decided : (x : State) → Dec (Zero x)
  decided x = T-decided (all_zero x.0)

  nonempty : 0 < length f
  nonempty = monic-nonempty F f monic

  state_equal : {x y : State} → x.0 ≡ y.0 → x ≡ y
  state_equal e = Σ_prop_path (λ s. T_prop (are_elements F s)) e

  acts : Acts Zero acted
  acts =
      record {
        act-zero = λ x. state_equal (act_on_known-power-zero I f nonempty x.0 x.1);
        act-add = λ i j x. state_equal (act_on_known-power-add I f nonempty i j x.0);
        zero-act = λ i x. act_on_known-zeros I (power F f i) x.0;
      }

  keeps : Keeps Zero acted p cut
  keeps =
      record {
        kept =
            λ l i x z. (
              λ y.
                  known-zeros F (power F f i) x.0
                  (known-power-part I f i (p ^ l) x.0 monic
                  (zeros-known F (power F f (p ^ l)) x.0 z)
                  (zeros-known F (power F f i) (cut l x).0 y)),
              λ y.
                  known-zeros F (power F f i) (cut l x).0
                  (known-take F (power F f i) (p ^ l * degree f) x.0
                  (zeros-known F (power F f i) x.0 y)),
            );
      }

  -- what a digit leaves, by one action
  none_left : (q : ℕ) (x : State) → x.0 ≡ (acted (0 * q) x).0
  none_left q x =
      sym (ap (λ n. (acted n x).0) (ℕ.zero-mul q) ∙ act_on_known-power-zero I f nonempty x.0 x.1)

  left-picked :
      (t : Bool) (d : Dec (T t)) (q n : ℕ) (x : State)
      → picks t x.0 (acted (n * q) (acted q x)).0
      ≡ (acted ((elim d as (λ _. ℕ) [ yes _ ↦ 0 | no _ ↦ suc n ]) * q) x).0
  left-picked true (yes h) q n x = none_left q x
  left-picked true (no h) q n x = absurd (h tt)
  left-picked false (yes h) q n x = absurd h
  left-picked false (no h) q n x =
      sym (ap (λ m. (acted m x).0) (ℕ.suc-mul n q) ∙ act_on_known-power-add I f nonempty (n * q) q x.0)

  module _ (step : ℕ → List ℕ → List ℕ) (steps : Steps F f step) where
    digit-same :
        (c l : ℕ) (x : State) → digit_found step c (p ^ l) x.0 ≡ digit decided acted c (p ^ l) x
    unfolding digit_found digit
    digit-same zero l x = refl
    digit-same (suc c) l x =
        ap (λ s. picks (all_zero s) 0 (suc (digit_found step c (p ^ l) s))) (steps l x.0)
        ∙ ap (λ n. picks (all_zero (acted (p ^ l) x).0) 0 (suc n)) (digit-same c l (acted (p ^ l) x))
        ∙ picked (all_zero (acted (p ^ l) x).0) (decided (acted (p ^ l) x)) 0
        (suc (digit decided acted c (p ^ l) (acted (p ^ l) x)))

    left-same :
        (c l : ℕ) (x : State)
        → digit_left step c (p ^ l) x.0 ≡ (acted (digit decided acted c (p ^ l) x * p ^ l) x).0
    unfolding digit_left digit
    left-same zero l x = none_left (p ^ l) x
    left-same (suc c) l x =
        ap (λ s. picks (all_zero s) x.0 (digit_left step c (p ^ l) s)) (steps l x.0)
        ∙ ap (picks (all_zero (acted (p ^ l) x).0) x.0) (left-same c l (acted (p ^ l) x))
        ∙ left-picked (all_zero (acted (p ^ l) x).0) (decided (acted (p ^ l) x)) (p ^ l)
        (digit decided acted c (p ^ l) (acted (p ^ l) x)) x

    -- what is left for the levels below
    abbrev rest : ℕ → State → State
    rest l x = cut l (acted (digit decided acted (pred p) (p ^ l) x * p ^ l) x)

    digits_same :
        (l : ℕ) (x : State) → digits_found step p (degree f) l x.0 ≡ digits decided acted cut p l x
    unfolding digits_found digits
    digits_same zero x = refl
    digits_same (suc l) x =
        ap₂ ◌+◌ (ap (λ n. n * p ^ l) top)
        (ap (digits_found step p (degree f) l) left ∙ digits_same l (rest l x))
      where
        top : digit_found step (p - 1) (p ^ l) x.0 ≡ digit decided acted (pred p) (p ^ l) x
        top = ap (λ c. digit_found step c (p ^ l) x.0) (sub-one p) ∙ digit-same (pred p) l x

        left : take (p ^ l * degree f) (digit_left step (p - 1) (p ^ l) x.0) ≡ (rest l x).0
        left =
            ap (take (p ^ l * degree f))
            (ap (λ c. digit_left step c (p ^ l) x.0) (sub-one p) ∙ left-same (pred p) l x)

    power-same :
        (w : ℕ) (x : State) → power_found step p (degree f) w x.0 ≡ exponent decided acted cut p w x
    unfolding power_found exponent
    power-same w x =
        ap (λ n. picks (all_zero x.0) 0 (suc n)) (digits_same w x)
        ∙ picked (all_zero x.0) (decided x) 0 (suc (digits decided acted cut p w x))

    -- The least power
    pub search-least :
        (w v : ℕ) (s : List ℕ)
        → T (are_elements F s)
        → v ≤ F.characteristic ^ w
        → T (annihilates_known F (power F f v) s)
        → least v (λ r. annihilates_known F (power F f r) s)
        ≡ some (power_found step F.characteristic (degree f) w s)
    search-least w v s h l z =
        least-found v (λ r. annihilates_known F (power F f r) s) bound passes
      where
        found : Least (λ r. Zero (acted r (s, h))) (power_found step p (degree f) w s)
        found =
            subst (Least (λ r. Zero (acted r (s, h)))) (sym (power-same w (s, h)))
            (exponent-least acts decided cut p keeps w v (s, h) l (known-zeros F (power F f v) s z))

        bound : power_found step p (degree f) w s ≤ v
        bound =
            let not-less : ¬ (v < power_found step p (degree f) w s)
            = λ k. found.least v k (known-zeros F (power F f v) s z) in
            omega arith

        passes : LeastPasses (λ r. annihilates_known F (power F f r) s) (power_found step p (degree f) w s)
        passes =
            record {
              holds = zeros-known F (power F f _) s found.holds;
              least = λ m k y. found.least m k (known-zeros F (power F f m) s y);
            }

    pub portion-search :
        (w v : ℕ) (s : List ℕ)
        → T (are_elements F s)
        → v ≤ F.characteristic ^ w
        → length s ≤ v * degree f
        → least v (λ r. annihilates_known F (power F f r) s)
        ≡ some (power_found step F.characteristic (degree f) w s)
    portion-search w v s h l k = search-least w v s h l (short-power I f nonempty v s k)
