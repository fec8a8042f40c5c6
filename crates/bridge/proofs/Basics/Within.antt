-- `least_within`, the least positive number within a bound, in words.
--
--   LeastPositive t n  == n is the least positive number that passes t
--   within-either      == `least_within b t` is that number, at most b; or it is 0, and none from 1 to b
--                         passes
--   within-found, within-missing == the converses
--   within-small       == it is at most b
--   within-zero        == where it is 0, none from 1 to b passes
--   within_same        == it depends on the test from 1 to b alone
--   within-multiples   == where t passes on multiples of q alone, and on q·k where u does on k, it is q times
--                         what u has within b / q
--   Closed t           == what passes t is closed under multiples and differences
--   OrderOf t o        == the positive numbers that pass t are the multiples of o
--   least-order, order_least == the least number that passes a closed test is so, and such a number is the
--                         least that passes
--   closed_order       == a closed test that a positive number passes has such a number
--   order-missing      == nothing is found within a bound below o
--   closed_divides     == so t passes, up to b, on the multiples of its least number and on no other; on none
--                         where that is 0
--   common_within b m n == the least common multiple of m and n, 0 where it exceeds b or one of them is 0
--   common_within_lem      == so the least number within b that passes two closed tests is the common
--                             multiple of
--                         the least of each
--
-- Assumes nothing.
use Prim.Native.Nat.{ℕ, ◌+◌, ◌*◌, ◌/◌, ◌%◌, ◌∣◌, ◌≤◌, ◌<◌}
use mathlib.Core.Path.{◌≡◌, sym, ap, ap₂, subst, ◌∙◌}
use mathlib.Core.Logic.{◌⊎◌, inl, inr}
use mathlib.Core.Bool.{Bool, ◌&&◌}
use mathlib.Core.Option.{none, some}
use native.Mathlib.Nat as ℕ
use native.Mathlib.Omega.{arith}
use lib.Dec.{T, eqb, leb, leb→le, le→leb, eqb→eq, eqb_refl}
use Rattle.meaning.specs.Search.{least}
use Rattle.meaning.specs.RepeatLength.{least_within}
use Rattle.algebra.proofs.Numbers.Number.{Least}
use Rattle.bridge.proofs.Basics.Searches.{T_and, and_T, T-same, LeastPasses, least-either}
use Rattle.bridge.proofs.Basics.Searches.{least-unique}

abbrev pub LeastPositive : (ℕ → Bool) → ℕ → Type 0
LeastPositive t n = Least (λ m. (0 < m) × T (t m)) n

module _ (b : ℕ) (t : ℕ → Bool) where
  positive : ℕ → Bool
  positive n = leb 1 n && t n

  positive-least : {n : ℕ} → LeastPasses positive n → LeastPositive t n
  unfolding positive
  positive-least {n} x =
      record {
        holds = let (l, h) = T_and (leb 1 n) (t n) x.holds in (leb→le 1 n l, h);
        least = λ m l h. x.least m l (and_T (leb 1 m) (t m) (le→leb 1 m h.0) h.1);
      }

  within-some : {n : ℕ} → least b positive ≡ some n → least_within b t ≡ n
  unfolding least_within positive
  within-some e = rw (e, least_within)

  within_none : least b positive ≡ none → least_within b t ≡ 0
  unfolding least_within positive
  within_none e = rw (e, least_within)

  pub within-either :
      ((least_within b t ≤ b) × LeastPositive t (least_within b t))
      ⊎ ((least_within b t ≡ 0) × ((n : ℕ) → 0 < n → n ≤ b → ¬ T (t n)))
  within-either = elim (least-either b positive) [
    | inl (n, e, l, x) ↦
        inl (subst (λ m. (m ≤ b) × LeastPositive t m) (sym (within-some e)) (l, positive-least x))
    | inr (e, h) ↦
        inr (within_none e, λ n l k z. h n k (unfold positive in and_T (leb 1 n) (t n) (le→leb 1 n l) z))
  ]

  pub within-found : {n : ℕ} → n ≤ b → LeastPositive t n → least_within b t ≡ n
  within-found {n} l x = elim within-either [
    | inl (_, y) ↦ least-unique y x
    | inr (_, h) ↦ absurd (h n x.holds.0 l x.holds.1)
  ]

  pub within-missing : ((n : ℕ) → 0 < n → n ≤ b → ¬ T (t n)) → least_within b t ≡ 0
  within-missing h = elim within-either [
    | inl (l, x) ↦ absurd (h (least_within b t) x.holds.0 l x.holds.1)
    | inr (e, _) ↦ e
  ]

  pub within-small : least_within b t ≤ b
  within-small = elim within-either [ inl (l, _) ↦ l | inr (e, _) ↦ omega arith ]

  pub within-zero : least_within b t ≡ 0 → (n : ℕ) → 0 < n → n ≤ b → ¬ T (t n)
  within-zero e n l k = elim within-either [
    | inl (_, x) ↦ absurd (omega (arith, x.holds.0))
    | inr (_, h) ↦ h n l k
  ]

pub within_same :
    (b : ℕ) (t u : ℕ → Bool)
    → ((n : ℕ) → 0 < n → n ≤ b → t n ≡ u n)
    → least_within b t ≡ least_within b u
within_same b t u same = elim (within-either b u) [
  | inl (l, x) ↦ within-found b t l (moved l x)
  | inr (e, h) ↦ within-missing b t (λ n l k z. h n l k (subst T (same n l k) z)) ∙ sym e
]
  where
    moved : least_within b u ≤ b → LeastPositive u (least_within b u) → LeastPositive t (least_within b u)
    moved l x =
        record {
          holds = (x.holds.0, subst T (sym (same _ x.holds.0 l)) x.holds.1);
          least = λ m k h. x.least m k (h.0, subst T (same m h.0 (omega arith)) h.1);
        }

-- Multiples of a number
module _
    (b q : ℕ) (t u : ℕ → Bool) (positive : 0 < q)
    (divides : (n : ℕ) → 0 < n → T (t n) → q ∣ n)
    (same : (k : ℕ) → 0 < k → t (q * k) ≡ u k)
  where
    -- a multiple of q is within b where the factor is within b / q
    factor-within : (k : ℕ) → q * k ≤ b → k ≤ b / q
    factor-within k l = (ℕ.le-div_iff_mul-le positive).1 (subst (λ n. n ≤ b) (ℕ.mul_comm q k) l)

    within-factor : (k : ℕ) → k ≤ b / q → q * k ≤ b
    within-factor k l = subst (λ n. n ≤ b) (ℕ.mul_comm k q) ((ℕ.le-div_iff_mul-le positive).0 l)

    passes-factor : (n : ℕ) → 0 < n → T (t n) → (k : ℕ) × (q * k ≡ n) × (0 < k) × T (u k)
    passes-factor n l h =
        let e : q * (n / q) ≡ n = ℕ.mul-div_cancel' q (divides n l h) in
        let k : 0 < n / q = ℕ.pos_of_ne-zero (λ z. omega (arith, ap (◌*◌ q) z, ℕ.mul-zero q)) in
        (n / q, e, k, subst T (same (n / q) k) (subst (λ m. T (t m)) (sym e) h))

    pub within-multiples : least_within b t ≡ q * least_within (b / q) u
    within-multiples = elim (within-either (b / q) u) [
      | inl (l, x) ↦ within-found b t (within-factor _ l) (found x)
      | inr (e, h) ↦ within-missing b t (λ n l k z. missing h n l k z) ∙ sym (ap (◌*◌ q) e ∙ ℕ.mul-zero q)
    ]
      where
        found : {k : ℕ} → LeastPositive u k → LeastPositive t (q * k)
        found {k} x =
            record {
              holds =
                  (ℕ.mul-pos positive x.holds.0, subst T (sym (same k x.holds.0)) x.holds.1);
              least =
                  λ m l h.
                  let (j, e, i, z) = passes-factor m h.0 h.1 in
                  let c : j < k = ℕ.lt_of_mul-lt-mul_left q (subst (λ n. n < q * k) (sym e) l) in
                  x.least j c (i, z);
            }

        missing :
            ((k : ℕ) → 0 < k → k ≤ b / q → ¬ T (u k)) → (n : ℕ) → 0 < n → n ≤ b → ¬ T (t n)
        missing h n l k z =
            let (j, e, i, y) = passes-factor n l z in
            h j i (factor-within j (subst (λ m. m ≤ b) (sym e) k)) y

-- Closed tests
pub record Closed (t : ℕ → Bool) : Type 0 where
  pub multiple : (k n : ℕ) → T (t n) → T (t (k * n))
  pub rest : (m n : ℕ) → T (t (m + n)) → T (t n) → T (t m)

pub record OrderOf (t : ℕ → Bool) (o : ℕ) : Type 0 where
  pub positive : 0 < o
  pub passes : (n : ℕ) → 0 < n → o ∣ n → T (t n)
  pub divides : (n : ℕ) → T (t n) → o ∣ n

pub least-order : {t : ℕ → Bool} {o : ℕ} → Closed t → LeastPositive t o → OrderOf t o
least-order {t} {o} c x =
    record {
      positive = x.holds.0;
      passes = λ n _ d. subst (λ j. T (t j)) (ℕ.div-mul_cancel o d) (c.multiple (n / o) o x.holds.1);
      divides = λ n h.
          let rest : T (t (n % o)) =
          c.rest (n % o) (n / o * o) (subst (λ j. T (t j)) (sym (ℕ.mod-add-div' n o)) h)
          (c.multiple (n / o) o x.holds.1) in
          let not : ¬ (0 < n % o) = λ i. x.least (n % o) (ℕ.mod-lt n x.holds.0) (i, rest) in
          ℕ.dvd_of_mod-eq-zero o (omega arith);
    }

pub closed_order : {t : ℕ → Bool} {n : ℕ} → Closed t → 0 < n → T (t n) → (o : ℕ) × OrderOf t o
closed_order {t} {n} c l h = elim (within-either n t) [
  | inl (_, x) ↦ (least_within n t, least-order c x)
  | inr (_, missing) ↦ absurd (missing n l (ℕ.le_refl n) h)
]

module _ {t : ℕ → Bool} {o : ℕ} (x : OrderOf t o) where
  pub order_least : LeastPositive t o
  order_least =
      record {
        holds = (x.positive, x.passes o x.positive (ℕ.dvd_refl o));
        least = λ m l h. omega (arith, ℕ.le_of_dvd h.0 (x.divides m h.1));
      }

  pub order-missing : {b : ℕ} → b < o → least_within b t ≡ 0
  order-missing {b} l =
      within-missing b t (λ n p k h. omega (arith, ℕ.le_of_dvd p (x.divides n h)))

pub closed_divides :
    (b : ℕ) (t : ℕ → Bool) → Closed t → (n : ℕ) → 0 < n → n ≤ b → t n ≡ eqb (n % least_within b t) 0
closed_divides b t c n l k = elim (within-either b t) [
  | inl (_, x) ↦ T-same (passes (least-order c x)) (multiple (least-order c x))
  | inr (e, h) ↦ T-same (λ z. absurd (h n l k z)) (λ z. absurd (nothing e z))
]
  where
    m : ℕ
    m = least_within b t

    passes : OrderOf t m → T (t n) → T (eqb (n % m) 0)
    passes x h = subst (λ j. T (eqb j 0)) (sym (ℕ.mod-eq-zero_of_dvd m (x.divides n h))) (eqb_refl 0)

    multiple : OrderOf t m → T (eqb (n % m) 0) → T (t n)
    multiple x h = x.passes n l (ℕ.dvd_of_mod-eq-zero m (eqb→eq (n % m) 0 h))

    nothing : m ≡ 0 → ¬ T (eqb (n % m) 0)
    nothing e h = omega (arith, ap (λ j. n % j) e, ℕ.mod-zero n, eqb→eq (n % m) 0 h)

unfoldable pub common_within : ℕ → ℕ → ℕ → ℕ
common_within b m n = least_within b (λ k. eqb (k % m) 0 && eqb (k % n) 0)

pub common_within_lem :
    (b : ℕ) (t u : ℕ → Bool)
    → Closed t
    → Closed u
    → least_within b (λ n. t n && u n) ≡ common_within b (least_within b t) (least_within b u)
unfolding common_within
common_within_lem b t u c d =
    within_same b (λ n. t n && u n) _
    (λ n l k. ap₂ ◌&&◌ (closed_divides b t c n l k) (closed_divides b u d n l k))
