-- The search for one digit, try by try, and the levels one after the other, on lists.
--
--   Trying step c q s i t == i steps of s have left t, which is not all 0 if s was not: the digit of s is i
--                        and the digit of t, tried c − i times
--   Tried step c q s i t  == i is the digit of s, and t what is left
--   resumed step p d r l s == the power that r and the digits below the level l of s make: r is 0 where
--                        nothing is known of s yet, else r is at least 1 and s is what the digits in r left
--
-- Assumes nothing.
use Prim.Native.Nat.{ℕ, zero, suc, ◌+◌, ◌*◌, ◌-◌, ◌^◌, ◌/◌, ◌≤◌, ◌<◌}
use mathlib.Core.Path.{◌≡◌, refl, sym, ap, ap₂, ◌∙◌}
use mathlib.Core.List.{List}
use native.Mathlib.Nat as ℕ
use native.Mathlib.Omega.{arith}
use lib.ListN.{take}
use lib.Dec.{T}
use Rattle.bridge.proofs.Sequences.KnownActions.{all_zero}
use Rattle.bridge.proofs.Ways.PowerSearch.{digit_found, digit_left, digits_found, power_found}
use Rattle.bridge.proofs.Ways.PowerSearch.{digit_found-none}
use Rattle.bridge.proofs.Ways.PowerSearch.{digit_left-none, digit_found-stop, digit_left-stop}
use Rattle.bridge.proofs.Ways.PowerSearch.{digit_found-more}
use Rattle.bridge.proofs.Ways.PowerSearch.{digit_left-more, digit_found-below, digits_found-zero}
use Rattle.bridge.proofs.Ways.PowerSearch.{digits_found-suc, digits_found-zeros, power_found-zeros}
use Rattle.bridge.proofs.Ways.PowerSearch.{power_found-digits}

pub record Trying (step : ℕ → List ℕ → List ℕ) (c q : ℕ) (s : List ℕ) (i : ℕ) (t : List ℕ) : Type 0 where
  pub low : i ≤ c
  pub found : digit_found step c q s ≡ i + digit_found step (c - i) q t
  pub left : digit_left step c q s ≡ digit_left step (c - i) q t

pub record Tried (step : ℕ → List ℕ → List ℕ) (c q : ℕ) (s : List ℕ) (i : ℕ) (t : List ℕ) : Type 0 where
  pub digit : i ≡ digit_found step c q s
  pub left : t ≡ digit_left step c q s

module _ (step : ℕ → List ℕ → List ℕ) (c q : ℕ) (s : List ℕ) where
  pub trying_none : Trying step c q s 0 s
  trying_none =
      record {
        low = omega arith;
        found = ap (λ n. digit_found step n q s) (sym (ℕ.sub-zero c)) ∙ sym (ℕ.zero-add _);
        left = ap (λ n. digit_left step n q s) (sym (ℕ.sub-zero c));
      }

  module _ {i : ℕ} {t : List ℕ} (x : Trying step c q s i t) where
    pub trying_more : i < c → ¬ T (all_zero (step q t)) → Trying step c q s (i + 1) (step q t)
    trying_more l h =
        let e : c - i ≡ suc (c - (i + 1)) = omega arith in
        record {
          low = omega arith;
          found =
              x.found
              ∙ ap (λ n. i + n)
              (ap (λ n. digit_found step n q t) e ∙ digit_found-more step (c - (i + 1)) q t h)
              ∙ omega arith;
          left =
              x.left
              ∙ ap (λ n. digit_left step n q t) e
              ∙ digit_left-more step (c - (i + 1)) q t h;
        }

    pub trying_stop : T (all_zero (step q t)) → Tried step c q s i t
    trying_stop h =
        record {
          digit = sym (x.found ∙ ap (λ n. i + n) (digit_found-stop step (c - i) q t h) ∙ ℕ.add-zero i);
          left = sym (x.left ∙ digit_left-stop step (c - i) q t h);
        }

    pub trying_all : i ≡ c → Tried step c q s i t
    trying_all l =
        let e : c - i ≡ 0 = omega arith in
        record {
          digit =
              sym (x.found
              ∙ ap (λ n. i + n) (ap (λ n. digit_found step n q t) e ∙ digit_found-none step q t)
              ∙ ℕ.add-zero i);
          left = sym (x.left ∙ ap (λ n. digit_left step n q t) e ∙ digit_left-none step q t);
        }

pub tried-low : {step : ℕ → List ℕ → List ℕ} {c q : ℕ} {s : List ℕ} {i : ℕ} {t : List ℕ}
    → Tried step c q s i t
    → i ≤ c
tried-low {step} {c} {q} {s} x = rw x.digit (digit_found-below step c q s)

-- The levels
unfoldable pub resumed : (ℕ → List ℕ → List ℕ) → ℕ → ℕ → ℕ → ℕ → List ℕ → ℕ
resumed step p d zero l s = power_found step p d l s
resumed step p d (suc r) l s = suc r + digits_found step p d l s

module _ (step : ℕ → List ℕ → List ℕ) (p d : ℕ) where
  pub resumed-start : (l : ℕ) (s : List ℕ) → resumed step p d 0 l s ≡ power_found step p d l s
  unfolding resumed
  resumed-start l s = refl

  pub resumed-zeros :
      ((q : ℕ) (s : List ℕ) → T (all_zero s) → T (all_zero (step q s)))
      → (r l : ℕ) (s : List ℕ)
      → T (all_zero s)
      → resumed step p d r l s ≡ r
  unfolding resumed
  resumed-zeros keep zero l s h = power_found-zeros step p d l s h
  resumed-zeros keep (suc r) l s h =
      ap (λ n. suc r + n) (digits_found-zeros step keep p d l s h) ∙ ℕ.add-zero (suc r)

  -- where something is left the power is at least 1
  pub resumed-first :
      (l : ℕ) (s : List ℕ) → ¬ T (all_zero s) → resumed step p d 0 l s ≡ 1 + digits_found step p d l s
  unfolding resumed
  resumed-first l s h = power_found-digits step p d l s h ∙ omega arith

  pub resumed-later :
      (r l : ℕ) (s : List ℕ) → 0 < r → resumed step p d r l s ≡ r + digits_found step p d l s
  unfolding resumed
  resumed-later zero l s h = absurd (omega arith)
  resumed-later (suc r) l s h = refl

  pub resumed-none : (r : ℕ) (s : List ℕ) → r + digits_found step p d 0 s ≡ r
  resumed-none r s = ap (λ n. r + n) (digits_found-zero step p d s) ∙ ℕ.add-zero r

  -- one level
  pub resumed-level :
      (r l i : ℕ) (s t : List ℕ)
      → 0 < r
      → Tried step (p - 1) (p ^ l) s i t
      → resumed step p d (r + i * p ^ l) l (take (p ^ l * d) t) ≡ r + digits_found step p d (suc l) s
  resumed-level r l i s t h x =
      resumed-later (r + i * p ^ l) l (take (p ^ l * d) t) (omega arith)
      ∙ ℕ.add_assoc r (i * p ^ l) _
      ∙ ap (λ n. r + n)
      (ap₂ (λ n u. n * p ^ l + digits_found step p d l (take (p ^ l * d) u)) x.digit x.left
      ∙ sym (digits_found-suc step p d l s))

-- Powers of p downwards
module _ (p l q : ℕ) (base : 0 < p) (above : l ≡ 0 → ⊥) (level : q ≡ p ^ l) where
  before : suc (l - 1) ≡ l
  before = omega (arith, above)

  pub level_down : q / p ≡ p ^ (l - 1)
  level_down =
      ap (λ n. n / p) (level ∙ ap (◌^◌ p) (sym before) ∙ ℕ.pow-suc p (l - 1))
      ∙ ℕ.mul-div_cancel (p ^ (l - 1)) base

  pub level-parts : (p - 1) * (q / p) + q / p ≡ q
  level-parts =
      let e : suc (p - 1) ≡ p = omega arith in
      ap (λ n. (p - 1) * n + n) level_down
      ∙ sym (ℕ.suc-mul (p - 1) (p ^ (l - 1)))
      ∙ ap (λ n. n * p ^ (l - 1)) e
      ∙ sym (ℕ.pow-succ' p (l - 1))
      ∙ ap (◌^◌ p) before
      ∙ sym level
