-- The multiples of m one after another, until n divides one.
--
--   Trying m n k     == k is a positive multiple of m, and n divides no smaller one
--   trying_start, trying_next, trying_found, trying_missing == the first one, the next one, the one that n
--                       divides, and none within the limit
--   common_swapped   == which of the two numbers is taken for m does not matter; `common_sorted`: the larger
--   common_none      == 0 has no common multiple
--
-- Assumes nothing.
use Prim.Native.Nat.{ℕ, ◌+◌, ◌-◌, ◌%◌, ◌≤◌, ◌<◌, min, max}
use mathlib.Core.Path.{◌≡◌, sym, ap, subst, ◌∙◌}
use mathlib.Core.Logic.{◌≢◌}
use mathlib.Core.Bool.{Bool, ◌&&◌}
use native.Mathlib.Nat.{mod_self, mod-zero, mod-eq_of_lt, mod-add-mod, zero-add, le_of_lt}
use native.Mathlib.Nat.{max-eq_left, max-eq_right, min-eq_left, min-eq_right}
use native.Mathlib.Decide.{dec_lt}
use native.Mathlib.Omega.{arith}
use lib.Dec.{T, eqb, eqb→eq, eqb_refl}
use Rattle.bridge.proofs.Basics.Searches.{T_and, and_T, T-same}
use Rattle.bridge.proofs.Basics.Within.{common_within, within-found, within-missing, within_same}

-- both divide k
abbrev both : ℕ → ℕ → ℕ → Bool
both m n k = eqb (k % m) 0 && eqb (k % n) 0

zero_test : {a : ℕ} → a ≡ 0 → T (eqb a 0)
zero_test e = subst (λ b. T (eqb b 0)) (sym e) (eqb_refl 0)

pub record Trying (m n k : ℕ) : Type 0 where
  pub positive : 0 < k
  pub multiple : k % m ≡ 0
  pub none : (i : ℕ) → 0 < i → i < k → ¬ T (both m n i)

first-divides : (m n i : ℕ) → T (both m n i) → i % m ≡ 0
first-divides m n i h = eqb→eq (i % m) 0 (T_and (eqb (i % m) 0) (eqb (i % n) 0) h).0

second-divides : (m n i : ℕ) → T (both m n i) → i % n ≡ 0
second-divides m n i h = eqb→eq (i % n) 0 (T_and (eqb (i % m) 0) (eqb (i % n) 0) h).1

pub trying_start : {m : ℕ} (n : ℕ) → 0 < m → Trying m n m
trying_start {m} n l =
    record {
      positive = l;
      multiple = mod_self m;
      none = λ i b c h. omega (arith, first-divides m n i h, mod-eq_of_lt c);
    }

-- between two multiples of m there is none
between : (m k i : ℕ) → k % m ≡ 0 → k < i → i < k + m → i % m ≢ 0
between m k i e l b z =
    let small : (i - k) % m ≡ i - k = mod-eq_of_lt (omega arith) in
    let sum : k + (i - k) ≡ i = omega arith in
    let same : (i - k) % m ≡ i % m =
    ap (λ a. a % m) (sym (zero-add (i - k)))
    ∙ ap (λ a. (a + (i - k)) % m) (sym e) ∙ mod-add-mod k m (i - k) ∙ ap (λ a. a % m) sum in
    omega arith

pub trying_next : {m n k : ℕ} → 0 < m → Trying m n k → k % n ≢ 0 → Trying m n (k + m)
trying_next {m} {n} {k} l x not =
    record {
      positive = omega (arith, x.positive);
      multiple =
          sym (mod-add-mod k m m)
          ∙ ap (λ a. (a + m) % m) x.multiple
          ∙ ap (λ a. a % m) (zero-add m)
          ∙ mod_self m;
      none = λ i b c h. go i b c h (dec_lt i k) (dec_lt k i);
    }
  where
    go : (i : ℕ) → 0 < i → i < k + m → T (both m n i) → Dec (i < k) → Dec (k < i) → ⊥
    go i b c h (yes j) _ = x.none i b j h
    go i b c h (no _) (yes j) = between m k i x.multiple j c (first-divides m n i h)
    go i b c h (no j) (no o) =
        let e : i ≡ k = omega arith in
        not (subst (λ a. a % n ≡ 0) e (second-divides m n i h))

pub trying_found :
    {m n k : ℕ} (limit : ℕ) → Trying m n k → k ≤ limit → k % n ≡ 0 → k ≡ common_within limit m n
unfolding common_within
trying_found {m} {n} {k} limit x l e =
    sym (within-found limit (both m n) l
    record {
      holds = (x.positive, and_T (eqb (k % m) 0) (eqb (k % n) 0) (zero_test x.multiple) (zero_test e));
      least = λ i c h. x.none i h.0 c h.1;
    })

pub trying_missing : {m n k : ℕ} (limit : ℕ) → Trying m n k → limit < k → 0 ≡ common_within limit m n
unfolding common_within
trying_missing {m} {n} limit x l =
    sym (within-missing limit (both m n) (λ i b c h. x.none i b (omega arith) h))

pub common_swapped : (limit m n : ℕ) → common_within limit m n ≡ common_within limit n m
unfolding common_within
common_swapped limit m n =
    within_same limit (both m n) (both n m)
    (λ k _ _.
    T-same
    (λ h. let (a, b) = T_and (eqb (k % m) 0) (eqb (k % n) 0) h in and_T (eqb (k % n) 0) (eqb (k % m) 0) b a)
    (λ h. let (a, b) = T_and (eqb (k % n) 0) (eqb (k % m) 0) h in and_T (eqb (k % m) 0) (eqb (k % n) 0) b a))

-- the larger one for m
pub common_sorted : (limit m n : ℕ) → common_within limit (max m n) (min m n) ≡ common_within limit m n
common_sorted limit m n = elim (dec_lt m n) [
  | yes h ↦ rw (max-eq_right (le_of_lt h), min-eq_left (le_of_lt h)) (common_swapped limit n m)
  | no h ↦
      let k : n ≤ m = omega arith in rw (max-eq_left k, min-eq_right k)
]

pub common_none : (limit n : ℕ) {m : ℕ} → m ≡ 0 → 0 ≡ common_within limit m n
unfolding common_within
common_none limit n {m} e =
    sym (within-missing limit (both m n)
    (λ k b _ h. omega (arith, first-divides m n k h, ap (λ a. k % a) e, mod-zero k)))
