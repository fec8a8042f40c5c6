-- Factors with their powers in slices, one after another.
--
--   Largest rs m     == m is the largest number of rs, 0 where there is none; `largest_of`: the library's
--                       word; `largest_is`: so it is the largest power of the factors
--   powers-enough, largest-small == each factor has a power, and the largest is at most 4,096
--   factor-suited    == each factor is suited
--   common_start, common_skip, common_more, common_stop, common_end == the common multiple of the orders of
--                       the first factors: of none, one more without and with a power, where it is 0, and of
--                       all
--   orders-small, order_small, orders-zero == within the limit
--   repeat_fits, repeat_is == the repeat length, by the level that reaches the largest power
--
-- Assumes nothing.
use Prim.Native.Nat.{ℕ, zero, suc, ◌+◌, ◌*◌, ◌^◌, ◌/◌, ◌≤◌, ◌<◌, max}
use mathlib.Core.Path.{◌≡◌, refl, sym, ap, ap₂, subst, ◌∙◌}
use mathlib.Core.Logic.{◌≢◌}
use mathlib.Core.List.{List, [], ◌∷◌}
use native.Mathlib.Nat as ℕ
use native.Mathlib.Numerals.{add-one}
use native.Mathlib.Omega.{arith}
use lib.ListN.{length, get_or, take}
use lib.Seq.{get_or-take, length-take-le}
use Rattle.std.specs.Prelude.{Option, Some, None, fold, unwrap_or, option_map}
use Rattle.std.specs.List.{reduce}
use lib.Dec.{T}
use denote.Ref.{Bor}
use Rattle.meaning.specs.Field.{Field}
use Rattle.meaning.specs.Polynomial.{Polynomial, degree, is_monic_over}
use Rattle.meaning.specs.Conditions.{named}
use Rattle.meaning.specs.Slices.{lists_of}
use Rattle.meaning.specs.RepeatLength.{longest_repeat}
use Rattle.meaning.proofs.Slices.{nowhere, lists_length, lists_at}
use Rattle.bridge.proofs.Basics.Interpretation.{IsField}
use Rattle.bridge.proofs.Lists.Products.{power_at}
use Rattle.bridge.proofs.Basics.Within.{common_within, within-small}
use Rattle.bridge.proofs.Basics.Levels.{Level}
use Rattle.bridge.proofs.Sequences.Orders.{order_within}
use Rattle.bridge.proofs.Sequences.CommonOrders.{reaching, reaching-level, largest_power, largest-is}
use Rattle.bridge.proofs.Sequences.CommonOrders.{largest-below}
use Rattle.bridge.proofs.Sequences.CommonOrders.{orders_within, repeat_by_orders, Moduli, orders-none}
use Rattle.bridge.proofs.Sequences.CommonOrders.{orders_skip}
use Rattle.bridge.proofs.Sequences.CommonOrders.{orders-more, orders-stop, orders-all}
use Rattle.arith.specs.Represented.{field_of}
use Rattle.arith.proofs.Represented.{characteristic_least}
use Rattle.arith.specs.declared.field.GaloisField.{GaloisField}
use Rattle.repeat.specs.orders.Orders.{Suited}
use Rattle.poly.proofs.factors.Totals.{factors-length, factor-at}
use Rattle.repeat.specs.Factors.{PoweredFactors}

-- The largest number of a list, 0 where there is none
pub record Largest (rs : List ℕ) (m : ℕ) : Type 0 where
  pub upper : (i : ℕ) → i < length rs → get_or rs i 0 ≤ m
  pub lowest : (b : ℕ) → ((i : ℕ) → i < length rs → get_or rs i 0 ≤ b) → m ≤ b

largest_of-more : (a : ℕ) (rs : List ℕ) → Largest (a ∷ rs) (fold max a rs)
largest_of-more a [] = record {
  upper = λ i k. let z : i ≡ 0 = omega arith in subst (λ j. get_or (a ∷ []) j 0 ≤ a) (sym z) (omega arith);
  lowest = λ b h. h 0 (omega arith);
}
largest_of-more a (c ∷ rs) =
    let x = largest_of-more (max a c) rs in
    let top : max a c ≤ fold max (max a c) rs = x.upper 0 (omega arith) in record {
      upper = λ i. elim i as (λ j. j < length (a ∷ c ∷ rs) →
          get_or (a ∷ c ∷ rs) j 0 ≤ fold max (max a c) rs) [
            | zero ↦ λ k. ℕ.le_trans (ℕ.le-max_left a c) top
            | suc j ↦ λ k. elim j as (λ n. suc n < length (a ∷ c ∷ rs) →
                get_or (a ∷ c ∷ rs) (suc n) 0 ≤ fold max (max a c) rs) [
                  | zero ↦ λ l. ℕ.le_trans (ℕ.le-max_right a c) top
                  | suc n ↦ λ l. x.upper (suc n) (omega arith)
                ] k
          ];
      lowest = λ b h.
          x.lowest b
          (λ i. elim i as (λ j. j < length (max a c ∷ rs) → get_or (max a c ∷ rs) j 0 ≤ b) [
            | zero ↦ λ k. ℕ.max-le (h 0 (omega arith)) (h 1 (omega arith))
            | suc j ↦ λ k. h (suc (suc j)) (omega arith)
          ]);
    }

largest_reduced : (rs : List ℕ) → Largest rs (unwrap_or (reduce max rs) 0)
largest_reduced [] = record { upper = λ i k. absurd (omega arith); lowest = λ b h. omega arith }
largest_reduced (a ∷ rs) = largest_of-more a rs

pub largest_of : (r : Option ℕ) (rs : List ℕ) → option_map (λ x. x) r ≡ reduce max rs
    → Largest rs (unwrap_or r 0)
largest_of r rs e = subst (λ o. Largest rs (unwrap_or o 0)) (sym (same r ∙ e)) (largest_reduced rs)
  where
    same : (o : Option ℕ) → o ≡ option_map (λ x. x) o
    same None = refl
    same (Some x) = refl

module _ (fs : List (Bor (List ℕ))) (rs : List ℕ) where
  abbrev l : List (Polynomial × ℕ)
  l = named (lists_of fs) rs

  size : length l ≡ length fs
  size = factors-length fs rs

  power_at_lem : (i : ℕ) → i < length fs → power_at l i ≡ get_or rs i 0
  power_at_lem i k = ap (λ f. f.1) (factor-at fs rs i k)

  pub largest_is : {m : ℕ} → length fs ≤ length rs → Largest (take (length fs) rs) m
      → m ≡ largest_power (named (lists_of fs) rs)
  largest_is {m} few x =
      largest-is l m
      (λ i k.
      let c : i < length fs = omega (arith, size) in
      subst (λ a. a ≤ m) (sym (power_at_lem i c ∙ sym (get_or-take (length fs) rs i 0 c)))
      (x.upper i (omega (arith, length-take-le (length fs) rs few))))
      (λ b h.
      x.lowest b
      (λ i k.
      let c : i < length fs = omega (arith, length-take-le (length fs) rs few) in
      subst (λ a. a ≤ b) (power_at_lem i c ∙ sym (get_or-take (length fs) rs i 0 c))
      (h i (omega (arith, size)))))

  module _ {F : Field} (x : PoweredFactors F (lists_of fs) rs) where
    pub powers-enough : length fs ≤ length rs
    powers-enough = omega (arith, x.named, lists_length fs)

    pub largest-small : largest_power (named (lists_of fs) rs) ≤ 4096
    largest-small =
        largest-below l 4096
        (λ i k.
        let c : i < length fs = omega (arith, size) in
        subst (λ a. a ≤ 4096) (sym (power_at_lem i c)) (x.small i (omega (arith, lists_length fs))))

    pub factor-suited : (i : ℕ) → i < length fs → Suited F (get_or fs i nowhere).now
    factor-suited i k =
        subst (Suited F) (lists_at fs i) (x.suited i (subst (λ n. i < n) (sym (lists_length fs)) k))

    moduli : Moduli F (named (lists_of fs) rs)
    moduli i k =
        let c : i < length fs = omega (arith, size) in
        let m = (factor-suited i c).modulus in
        subst (λ f. T (is_monic_over F f.0) × (1 ≤ degree f.0)) (sym (factor-at fs rs i c))
        (m.monic, m.positive)

    -- The common multiple of the orders of the first factors
    module _ (I : IsField F) (limit : ℕ) where
      pub common_start : 0 < limit → 1 ≡ orders_within F (take 0 (named (lists_of fs) rs)) limit
      common_start k = sym (orders-none F l limit k)

      module _ (j : ℕ) {m : ℕ} (k : j < length fs)
          (e : m ≡ orders_within F (take j (named (lists_of fs) rs)) limit) where
        within : j < length l
        within = omega (arith, size)

        pub common_skip :
            get_or rs j 0 ≡ 0 → m ≡ orders_within F (take (j + 1) (named (lists_of fs) rs)) limit
        common_skip z =
            e
            ∙ sym (orders_skip I l moduli j limit within (power_at_lem j k ∙ z))
            ∙ ap (λ n. orders_within F (take n l) limit) (sym (add-one j))

        pub common_more :
            {o r : ℕ}
            → get_or rs j 0 ≢ 0
            → o ≡ order_within F (get_or fs j nowhere).now limit
            → r ≡ common_within limit m o
            → r ≡ orders_within F (take (j + 1) (named (lists_of fs) rs)) limit
        common_more c p q =
            q
            ∙ ap₂ (common_within limit) e
            (p ∙ ap (λ f. order_within F f.0 limit) (sym (factor-at fs rs j k)))
            ∙ sym (orders-more I l moduli j limit within
            (subst (λ a. 0 < a) (sym (power_at_lem j k)) (ℕ.pos_of_ne-zero c)))
            ∙ ap (λ n. orders_within F (take n l) limit) (sym (add-one j))

      pub common_stop :
          (j : ℕ) {m : ℕ}
          → m ≡ orders_within F (take j (named (lists_of fs) rs)) limit
          → m ≡ 0
          → 0 ≡ orders_within F (named (lists_of fs) rs) limit
      common_stop j e z = sym (orders-stop F l j limit (sym e ∙ z))

      pub common_end :
          (j : ℕ) {m : ℕ}
          → m ≡ orders_within F (take j (named (lists_of fs) rs)) limit
          → length fs ≤ j
          → m ≡ orders_within F (named (lists_of fs) rs) limit
      common_end j e k = e ∙ orders-all F l j limit (omega (arith, size))

-- Within the limit
pub orders-small : (F : Field) (l : List (Polynomial × ℕ)) (b : ℕ) → orders_within F l b ≤ b
unfolding orders_within
orders-small F l b = within-small b _

pub order_small : (F : Field) (f : Polynomial) (b : ℕ) → order_within F f b ≤ b
unfolding order_within
order_small F f b = within-small b _

pub orders-zero : (F : Field) (l : List (Polynomial × ℕ)) {b : ℕ} → b ≡ 0 → 0 ≡ orders_within F l b
orders-zero F l {b} e = omega (arith, orders-small F l b)

-- The repeat length
module _ (field : GaloisField) {e q r : ℕ} (level : Level (field_of field).characteristic r e)
    (power : q ≡ (field_of field).characteristic ^ e) where
  pub level-positive : 0 < q
  level-positive =
      subst (λ n. 0 < n) (sym power)
      (ℕ.one-le-pow e (field_of field).characteristic (omega (arith, characteristic_least field)))

  pub limit_small : (b : ℕ) → b ≤ 65536 → b / q ≤ 65536
  limit_small b l = ℕ.le_trans (ℕ.div-le_self b q) l

  module _ (l : List (Polynomial × ℕ)) {m : ℕ} where
    pub repeat_fits : (b : ℕ) → m ≡ orders_within (field_of field) l (b / q) → q * m ≤ b
    repeat_fits b found =
        let c : m ≤ b / q = omega (arith, orders-small (field_of field) l (b / q)) in
        subst (λ n. n ≤ b) (ℕ.mul_comm m q) ((ℕ.le-div_iff_mul-le level-positive).0 c)

    pub repeat_is :
        m ≡ orders_within (field_of field) l (65536 / q)
        → r ≡ largest_power l
        → q * m ≡ repeat_by_orders (field_of field) l
    unfolding repeat_by_orders longest_repeat
    repeat_is found k =
        ap (◌*◌ q) found
        ∙ ap (λ n. n * orders_within (field_of field) l (65536 / n))
        (power
        ∙ sym (reaching-level (characteristic_least field) level)
        ∙ ap (reaching (field_of field).characteristic) k)
