-- The orders of factors with powers, together. A pair is a factor with its power.
--
--   reaching p r         == the least power of p that is at least r; `reaching-level`
--   largest_power l       == the largest power of the pairs l; 0 where there are none. `largest-is`: the
--                            least
--                           number that no power exceeds
--   unity_at F n f        == the factor of the pair f divides x^n − 1, or its power is 0
--   all_divide_unity F l n        == this holds for all pairs of l
--   orders_within F l b   == the least common multiple of the orders of the factors with a power other than
--                            0;
--                           0 where it exceeds b or there is none
--   repeat_by_orders F l   == q times this common multiple, q the least power of the characteristic that is
--                             at
--                           least the largest power; 0 where this exceeds the longest repeat that is told
--   UnitiesOf F l n, unities_at, at_unities == `all_divide_unity` by places
--   Moduli F l           == the factors are monic lists of positive degree
--   orders-none, orders_skip, orders-more == the common multiple of the first factors, one by one
--   orders-stop, orders-all == where the first ones have none within b, all have none; all are the first ones
--
-- Assumes nothing.
use Prim.Native.Nat.{ℕ, zero, suc, ◌+◌, ◌*◌, ◌^◌, ◌/◌, ◌≤◌, ◌<◌, max}
use mathlib.Core.Path.{◌≡◌, refl, sym, ap, subst, ◌∙◌}
use mathlib.Core.Logic.{inl, inr, ◌≢◌}
use mathlib.Core.Bool.{Bool, true, false, ◌&&◌, ◌||◌}
use mathlib.Core.List.{List, [], ◌∷◌}
use mathlib.Core.Option.{none, some}
use native.Mathlib.Nat as ℕ
use native.Mathlib.Omega.{arith}
use lib.ListN.{length, take, length-take}
use lib.Seq.{get_or-take, take-take, take_all}
use lib.Dec.{T, eqb, leb, leb→le, le→leb, eqb→eq, eqb_refl}
use Rattle.meaning.specs.Search.{least, holds_for_all}
use Rattle.meaning.specs.Field.{Field}
use Rattle.meaning.specs.Polynomial.{Polynomial, degree, is_monic_over}
use Rattle.meaning.specs.RepeatLength.{longest_repeat, least_within}
use Rattle.bridge.proofs.Basics.Searches.{T-same, T_and, and_T, all_nil, all_cons, all_uncons}
use Rattle.bridge.proofs.Basics.Searches.{LeastPasses}
use Rattle.bridge.proofs.Basics.Searches.{least-found}
use Rattle.bridge.proofs.Basics.Within.{within-found, within-missing, within-zero, within_same, Closed}
use Rattle.bridge.proofs.Basics.Within.{common_within, common_within_lem}
use Rattle.bridge.proofs.Basics.Interpretation.{IsField}
use Rattle.bridge.proofs.Lists.Products.{factor_at, power_at}
use Rattle.bridge.proofs.Basics.Levels.{Level, level-small}
use Rattle.bridge.proofs.Sequences.Orders.{divides_unity, unity_closed, order_within}

-- The power of the characteristic
unfoldable pub reaching : ℕ → ℕ → ℕ
reaching p r = elim (least r (λ t. leb r (p ^ t))) [ none ↦ 0 | some t ↦ p ^ t ]

pub reaching-level : {p r t : ℕ} → 1 < p → Level p r t → reaching p r ≡ p ^ t
unfolding reaching
reaching-level {p} {r} {t} l x = rw (least-found r (λ t. leb r (p ^ t)) (level-small l x) passes, reaching)
  where
    passes : LeastPasses (λ t. leb r (p ^ t)) t
    passes =
        record {
          holds = le→leb r (p ^ t) x.reaches;
          least = λ m k h. omega (arith, x.least m k, leb→le r (p ^ m) h);
        }

unfoldable pub largest_power : List (Polynomial × ℕ) → ℕ
largest_power [] = 0
largest_power (f ∷ l) = max f.1 (largest_power l)

pub power-largest : (l : List (Polynomial × ℕ)) (i : ℕ) → power_at l i ≤ largest_power l
unfolding largest_power
power-largest [] i = omega arith
power-largest (f ∷ l) zero = ℕ.le-max_left f.1 (largest_power l)
power-largest (f ∷ l) (suc i) = ℕ.le_trans (power-largest l i) (ℕ.le-max_right f.1 (largest_power l))

pub largest-below :
    (l : List (Polynomial × ℕ)) (b : ℕ) → ((i : ℕ) → i < length l → power_at l i ≤ b) → largest_power l ≤ b
unfolding largest_power
largest-below [] b h = omega arith
largest-below (f ∷ l) b h = ℕ.max-le (h 0 (omega arith)) (largest-below l b (λ i k. h (suc i) (omega arith)))

pub largest-is :
    (l : List (Polynomial × ℕ)) (m : ℕ)
    → ((i : ℕ) → i < length l → power_at l i ≤ m)
    → ((b : ℕ) → ((i : ℕ) → i < length l → power_at l i ≤ b) → m ≤ b)
    → m ≡ largest_power l
largest-is l m upper lowest =
    ℕ.le_antisymm (lowest (largest_power l) (λ i _. power-largest l i)) (largest-below l m upper)

-- The orders of the factors
unfoldable pub unity_at : Field → ℕ → Polynomial × ℕ → Bool
unity_at F n f = eqb f.1 0 || divides_unity F f.0 n

unfoldable pub all_divide_unity : Field → List (Polynomial × ℕ) → ℕ → Bool
all_divide_unity F l n = holds_for_all (unity_at F n) l

unfoldable pub orders_within : Field → List (Polynomial × ℕ) → ℕ → ℕ
orders_within F l b = least_within b (all_divide_unity F l)

unfoldable pub repeat_by_orders : Field → List (Polynomial × ℕ) → ℕ
repeat_by_orders F l =
    reaching F.characteristic (largest_power l)
    * orders_within F l (longest_repeat / reaching F.characteristic (largest_power l))

abbrev pub UnitiesOf : Field → List (Polynomial × ℕ) → ℕ → Type 0
UnitiesOf F l n = (i : ℕ) → i < length l → 0 < power_at l i → T (divides_unity F (factor_at l i) n)

unity_at-passes :
    (F : Field) (n : ℕ) (f : Polynomial × ℕ) → T (unity_at F n f) → 0 < f.1 → T (divides_unity F f.0 n)
unfolding unity_at
unity_at-passes F n f h l = go (eqb f.1 0) refl
  where
    go : (b : Bool) → eqb f.1 0 ≡ b → T (divides_unity F f.0 n)
    go true e = absurd (omega (arith, eqb→eq f.1 0 (subst T (sym e) tt)))
    go false e = rw (e, unity_at) at h

passes-unity_at :
    (F : Field) (n : ℕ) (f : Polynomial × ℕ) → (0 < f.1 → T (divides_unity F f.0 n)) → T (unity_at F n f)
unfolding unity_at
passes-unity_at F n f h = go (eqb f.1 0) refl
  where
    go : (b : Bool) → eqb f.1 0 ≡ b → T (unity_at F n f)
    go true e = rw (e, unity_at) tt
    go false e =
        let z : f.1 ≢ 0 = λ z. subst T e (subst (λ m. T (eqb m 0)) (sym z) (eqb_refl 0)) in
        rw (e, unity_at) (h (ℕ.pos_of_ne-zero z))

pub unities_at : (F : Field) (l : List (Polynomial × ℕ)) (n : ℕ) → T (all_divide_unity F l n) → UnitiesOf F
    l n
unfolding all_divide_unity
unities_at F [] n h i k = absurd (ℕ.not-suc-le-zero k)
unities_at F (f ∷ l) n h zero k = unity_at-passes F n f (all_uncons (unity_at F n) f l h).0
unities_at F (f ∷ l) n h (suc i) k =
    unities_at F l n (all_uncons (unity_at F n) f l h).1 i (ℕ.le_of_suc-le-suc k)

pub at_unities : (F : Field) (l : List (Polynomial × ℕ)) (n : ℕ) → UnitiesOf F l n → T
    (all_divide_unity F l n)
unfolding all_divide_unity
at_unities F [] n h = all_nil (unity_at F n)
at_unities F (f ∷ l) n h =
    all_cons (unity_at F n) f l (passes-unity_at F n f (h 0 (omega arith)))
    (at_unities F l n (λ i k. h (suc i) (omega arith)))

-- Factor by factor: the first j, and one more
unities_none : (F : Field) (n : ℕ) → T (all_divide_unity F [] n)
unfolding all_divide_unity
unities_none F n = all_nil (unity_at F n)

unities_first :
    (F : Field) (l : List (Polynomial × ℕ)) (j n : ℕ)
    → T (all_divide_unity F l n)
    → T (all_divide_unity F (take j l) n)
unities_first F l j n u =
    at_unities F (take j l) n
    (λ i k b.
    let c : i < j = omega (arith, length-take j l) in
    let e = get_or-take j l i ([], 0) c in
    subst (λ f. T (divides_unity F f.0 n)) (sym e)
    (unities_at F l n u i (omega (arith, length-take j l)) (subst (λ f. 0 < f.1) e b)))

module _ (F : Field) (l : List (Polynomial × ℕ)) (j : ℕ) (k : j < length l) where
  unities_more :
      (n : ℕ)
      → T (all_divide_unity F (take j l) n)
      → (0 < power_at l j → T (divides_unity F (factor_at l j) n))
      → T (all_divide_unity F (take (suc j) l) n)
  unities_more n u h =
      at_unities F (take (suc j) l) n
      (λ i b c.
      let i' : i < suc j = omega (arith, length-take (suc j) l) in
      let e = get_or-take (suc j) l i ([], 0) i' in
      subst (λ f. T (divides_unity F f.0 n)) (sym e) (go i i' (subst (λ f. 0 < f.1) e c)))
    where
      go : (i : ℕ) → i < suc j → 0 < power_at l i → T (divides_unity F (factor_at l i) n)
      go i b c = elim (ℕ.eq-or-lt_of_le (ℕ.le_of_suc-le-suc b)) [
        | inl e ↦ subst (λ i. 0 < power_at l i → T (divides_unity F (factor_at l i) n)) (sym e) h c
        | inr m ↦
            let e = get_or-take j l i ([], 0) m in
            subst (λ f. T (divides_unity F f.0 n)) e
            (unities_at F (take j l) n u i (omega (arith, length-take j l)) (subst (λ f. 0 < f.1) (sym e) c))
      ]

  unities_less : (n : ℕ) → T (all_divide_unity F (take (suc j) l) n) → T (all_divide_unity F (take j l) n)
  unities_less n u =
      subst (λ m. T (all_divide_unity F m n)) (take-take j (suc j) l (omega arith))
      (unities_first F (take (suc j) l) j n u)

  unities_last :
      (n : ℕ)
      → T (all_divide_unity F (take (suc j) l) n)
      → 0 < power_at l j
      → T (divides_unity F (factor_at l j) n)
  unities_last n u b =
      let e = get_or-take (suc j) l j ([], 0) (omega arith) in
      subst (λ f. T (divides_unity F f.0 n)) e
      (unities_at F (take (suc j) l) n u j (omega (arith, length-take (suc j) l))
      (subst (λ f. 0 < f.1) (sym e) b))

-- The common multiple of the first orders
abbrev pub Moduli : Field → List (Polynomial × ℕ) → Type 0
Moduli F l = (i : ℕ) → i < length l → T (is_monic_over F (factor_at l i)) × (1 ≤ degree (factor_at l i))

pub orders-none : (F : Field) (l : List (Polynomial × ℕ)) (b : ℕ) → 0 < b → orders_within F (take 0 l) b ≡ 1
unfolding orders_within
orders-none F l b k =
    within-found b (all_divide_unity F []) {n = 1} k
    (record { holds = (omega arith, unities_none F 1); least = λ m c h. omega (arith, h.0) })

pub orders-stop :
    (F : Field) (l : List (Polynomial × ℕ)) (j b : ℕ)
    → orders_within F (take j l) b ≡ 0
    → orders_within F l b ≡ 0
unfolding orders_within
orders-stop F l j b e =
    within-missing b (all_divide_unity F l)
    (λ n k c u. within-zero b (all_divide_unity F (take j l)) e n k c (unities_first F l j n u))

pub orders-all :
    (F : Field) (l : List (Polynomial × ℕ)) (j b : ℕ)
    → length l ≤ j
    → orders_within F (take j l) b ≡ orders_within F l b
orders-all F l j b k = ap (λ m. orders_within F m b) (take_all j l k)

module _ {F : Field} (I : IsField F) (l : List (Polynomial × ℕ)) (moduli : Moduli F l) where
  closed_at : (i : ℕ) → i < length l → Closed (divides_unity F (factor_at l i))
  closed_at i k = let (m, d) = moduli i k in unity_closed I (factor_at l i) m d

  unities_closed : Closed (all_divide_unity F l)
  unities_closed =
      record {
        multiple =
            λ k n u.
            at_unities F l (k * n) (λ i c b. (closed_at i c).multiple k n (unities_at F l n u i c b));
        rest =
            λ m n u v.
            at_unities F l m
            (λ i c b. (closed_at i c).rest m n (unities_at F l (m + n) u i c b) (unities_at F l n v i c b));
      }

first-moduli : (F : Field) (l : List (Polynomial × ℕ)) (j : ℕ) → Moduli F l → Moduli F (take j l)
first-moduli F l j moduli i k =
    subst (λ f. T (is_monic_over F f.0) × (1 ≤ degree f.0))
    (sym (get_or-take j l i ([], 0) (omega (arith, length-take j l))))
    (moduli i (omega (arith, length-take j l)))

module _ {F : Field} (I : IsField F) (l : List (Polynomial × ℕ)) (moduli : Moduli F l) (j b : ℕ)
    (k : j < length l) where
  pub orders_skip : power_at l j ≡ 0 → orders_within F (take (suc j) l) b ≡ orders_within F (take j l) b
  unfolding orders_within
  orders_skip z =
      within_same b (all_divide_unity F (take (suc j) l)) (all_divide_unity F (take j l))
      (λ n _ _.
      T-same (unities_less F l j k n) (λ u. unities_more F l j k n u (λ c. absurd (omega arith))))

  pub orders-more :
      0 < power_at l j
      → orders_within F (take (suc j) l) b
      ≡ common_within b (orders_within F (take j l) b) (order_within F (factor_at l j) b)
  unfolding orders_within order_within
  orders-more c =
      within_same b (all_divide_unity F (take (suc j) l))
      (λ n. all_divide_unity F (take j l) n && divides_unity F (factor_at l j) n)
      (λ n _ _.
      T-same
      (λ u.
      and_T (all_divide_unity F (take j l) n) (divides_unity F (factor_at l j) n)
      (unities_less F l j k n u) (unities_last F l j k n u c))
      (λ u.
      let (v, o) = T_and (all_divide_unity F (take j l) n) (divides_unity F (factor_at l j) n) u in
      unities_more F l j k n v (λ _. o)))
      ∙ common_within_lem b (all_divide_unity F (take j l)) (divides_unity F (factor_at l j))
      (unities_closed I (take j l) (first-moduli F l j moduli))
      (closed_at I l moduli j k)
