-- The least number of actions that leave nothing, found digit by digit in base p, the top digit first.
--
--   Acts Zero act   == the numbers act on states, and what is Zero stays Zero; so where i actions leave
--                      nothing, more leave nothing (zero_from)
--   Last Zero act s n
--                   == n actions leave something of s and one more leaves nothing
--   Digit Zero act c t s i
--                   == i is the largest number up to c for which i·t actions leave something of s: suc i
--                      tries leave nothing, unless i is c
--   digit decided act c t s
--                   == that number for a state that is not Zero, by trying t, 2t, .. until nothing is left
--   Keeps Zero act p cut
--                   == a state that p^l actions make Zero may be cut at level l, and the numbers of actions
--                      that make it Zero stay the same; `λ l s. s` cuts nothing
--   digits decided act cut p l s
--                   == the sum of i·p^k over the levels k from l − 1 down to 0, where i is the digit with at
--                      most p − 1 tries on what the digits before it left, cut at their levels; 0 at level 0
--   exponent decided act cut p w s
--                   == 0 for a state that is Zero, else one more than the digits from level w
--   exponent-least  == if at most p^w actions make s Zero, `exponent` is the least number that do
--   Upward P        == a property of numbers that passes on to all larger ones: adding acts (upward_acts)
--   least-by-digits == the least number with a decided upward property, by its digits
--
-- Assumes nothing.
use Prim.Native.Nat.{ℕ, zero, suc, pred, ◌+◌, ◌-◌, ◌*◌, ◌^◌, ◌≤◌, ◌<◌}
use mathlib.Core.Path.{◌≡◌, sym}
use mathlib.Core.Logic.{◌↔◌}
use native.Mathlib.Nat.{
  add_comm,
  add_assoc,
  add-zero,
  zero-add,
  zero-mul,
  one-mul,
  suc-mul,
  pow-zero,
  pow-succ',
  sub-add_cancel,
  le-add_right,
  add-suc,
  mul-le-mul_right,
}
use native.Mathlib.Decide.{dec_lt}
use native.Mathlib.Omega.{arith}
use Rattle.algebra.proofs.Numbers.Number.{Least}

module _ {S : Type 0} (Zero : S → Type 0) (act : ℕ → S → S) where
  pub record Acts : Type 0 where
    pub act-zero : (s : S) → act 0 s ≡ s
    pub act-add : (i j : ℕ) (s : S) → act (i + j) s ≡ act i (act j s)
    pub zero-act : (i : ℕ) (s : S) → Zero s → Zero (act i s)

  pub record Last (s : S) (n : ℕ) : Type 0 where
    pub nonzero : ¬ Zero (act n s)
    pub zeroed : Zero (act (suc n) s)

  pub record Digit (c t : ℕ) (s : S) (i : ℕ) : Type 0 where
    pub below : i ≤ c
    pub nonzero : ¬ Zero (act (i * t) s)
    pub zeroed : i < c → Zero (act (suc i * t) s)

  pub record Keeps (p : ℕ) (cut : ℕ → S → S) : Type 0 where
    pub kept : (l i : ℕ) (s : S) → Zero (act (p ^ l) s) → Zero (act i (cut l s)) ↔ Zero (act i s)

module _ {S : Type 0} {Zero : S → Type 0} (decided : (s : S) → Dec (Zero s)) (act : ℕ → S → S) where
  unfoldable pub digit : (c t : ℕ) → S → ℕ
  digit zero t s = 0
  digit (suc c) t s = elim (decided (act t s)) [ yes _ ↦ 0 | no _ ↦ suc (digit c t (act t s)) ]

  unfoldable pub digits : (cut : ℕ → S → S) (p l : ℕ) → S → ℕ
  digits cut p zero s = 0
  digits cut p (suc l) s =
      let i = digit (pred p) (p ^ l) s in
      i * p ^ l + digits cut p l (cut l (act (i * p ^ l) s))

  unfoldable pub exponent : (cut : ℕ → S → S) (p w : ℕ) → S → ℕ
  exponent cut p w s = elim (decided s) [ yes _ ↦ 0 | no _ ↦ suc (digits cut p w s) ]

module _ {S : Type 0} {Zero : S → Type 0} {act : ℕ → S → S} (acts : Acts Zero act) where
  open acts use {act-zero, act-add, zero-act}

  pub zero_from : {i j : ℕ} {s : S} → i ≤ j → Zero (act i s) → Zero (act j s)
  zero_from {i} {j} {s} l z = rw (← act-add (j - i) i s, sub-add_cancel l) at (zero-act (j - i) (act i s) z)

  pub last-least : {s : S} {n : ℕ} → Last Zero act s n → Least (λ r. Zero (act r s)) (suc n)
  last-least e = record { holds = e.zeroed; least = λ m l z. e.nonzero (zero_from (omega arith) z) }

  act-after : (k n : ℕ) (s : S) → act n (act k s) ≡ act (k + n) s
  act-after k n s = rw add_comm (sym (act-add n k s))

  last-after : (k : ℕ) {n : ℕ} {s : S} → Last Zero act (act k s) n → Last Zero act s (k + n)
  last-after k {n} {s} e = record {
    nonzero = rw (act-after k n s) at e.nonzero;
    zeroed = rw (act-after k (suc n) s, add-suc) at e.zeroed;
  }

  digit-none : {c t : ℕ} {s : S} → ¬ Zero s → (0 < c → Zero (act t s)) → Digit Zero act c t s 0
  digit-none h z = record {
    below = omega arith;
    nonzero = λ y. h (rw (zero-mul, act-zero) at y);
    zeroed = λ l. rw one-mul (z l);
  }

  digit-more : {c t i : ℕ} {s : S} → Digit Zero act c t (act t s) i → Digit Zero act (suc c) t s (suc i)
  digit-more {t = t} {i} d = record {
    below = omega arith;
    nonzero = λ y. d.nonzero (rw (suc-mul, act-add) at y);
    zeroed = λ l. rw (suc-mul (suc i) t, act-add) (d.zeroed (omega arith));
  }

  -- After the digit of a level, that level's stride makes Zero what is left
  digit-rest : (p l : ℕ) {i : ℕ} {s : S} → Digit Zero act (pred p) (p ^ l) s i
      → Zero (act (p ^ suc l) s) → Zero (act (p ^ l) (act (i * p ^ l) s))
  digit-rest p l {i} d z = rw (act-after, ← suc-mul) (elim (dec_lt i (pred p)) [
    | yes k ↦ d.zeroed k
    | no n ↦ zero_from (rw pow-succ' (mul-le-mul_right (p ^ l) (omega arith))) z
  ])

  module _ (decided : (s : S) → Dec (Zero s)) where
    pub digit-largest : (c t : ℕ) {s : S} → ¬ Zero s → Digit Zero act c t s (digit decided act c t s)
    unfolding digit
    digit-largest zero t h = digit-none h (λ l. absurd (omega arith))
    digit-largest (suc c) t {s} h = elim (decided (act t s))
        as (λ (x : Dec (Zero (act t s))).
        Digit Zero act (suc c) t s (elim x [ yes _ ↦ 0 | no _ ↦ suc (digit decided act c t (act t s)) ])) [
          | yes z ↦ digit-none h (λ _. z)
          | no n ↦ digit-more (digit-largest c t n)
        ]

    module _ (cut : ℕ → S → S) (p : ℕ) (keeps : Keeps Zero act p cut) where
      open keeps use {kept}

      last-cut : (l : ℕ) {s : S} {n : ℕ} → Zero (act (p ^ l) s)
          → Last Zero act (cut l s) n → Last Zero act s n
      last-cut l {s} {n} z e = record {
        nonzero = λ y. e.nonzero ((kept l n s z).1 y);
        zeroed = (kept l (suc n) s z).0 e.zeroed;
      }

      cut-nonzero : (l : ℕ) {s : S} → Zero (act (p ^ l) s) → ¬ Zero s → ¬ Zero (cut l s)
      cut-nonzero l {s} z h y = h (rw act-zero at ((kept l 0 s z).0 (zero-act 0 (cut l s) y)))

      pub digits_last : (l : ℕ) {s : S} → ¬ Zero s → Zero (act (p ^ l) s)
          → Last Zero act s (digits decided act cut p l s)
      unfolding digits
      digits_last zero {s} h z = record { nonzero = rw act-zero h; zeroed = rw pow-zero at z }
      digits_last (suc l) {s} h z =
          let d = digit-largest (pred p) (p ^ l) h in
          let y = digit-rest p l d z in
          let rest = digits_last l (cut-nonzero l y d.nonzero) ((kept l (p ^ l) _ y).1 y) in
          last-after _ (last-cut l y rest)

      pub exponent-least : (w v : ℕ) (s : S) → v ≤ p ^ w → Zero (act v s)
          → Least (λ r. Zero (act r s)) (exponent decided act cut p w s)
      unfolding exponent
      exponent-least w v s l z = elim (decided s)
          as (λ (x : Dec (Zero s)).
          Least (λ r. Zero (act r s)) (elim x [ yes _ ↦ 0 | no _ ↦ suc (digits decided act cut p w s) ])) [
            | yes y ↦ record { holds = zero-act 0 s y; least = λ m l _. omega arith }
            | no n ↦ last-least (digits_last w n (zero_from l z))
          ]

pub keeps-whole : {S : Type 0} {Zero : S → Type 0} {act : ℕ → S → S} (p : ℕ) → Keeps Zero act p (λ l s. s)
keeps-whole p = record { kept = λ l i s z. (λ y. y, λ y. y) }

abbrev pub Upward : (ℕ → Type 0) → Type 0
Upward P = (i j : ℕ) → i ≤ j → P i → P j

pub upward_acts : {P : ℕ → Type 0} → Upward P → Acts P (λ i n. n + i)
upward_acts up = record {
  act-zero = add-zero;
  act-add = λ i j n. rw (add_comm i j) (sym (add_assoc n j i));
  zero-act = λ i n. up n (n + i) (le-add_right n i);
}

pub least-by-digits : {P : ℕ → Type 0} (decided : (n : ℕ) → Dec (P n)) → Upward P
    → (p w v : ℕ) → v ≤ p ^ w → P v → Least P (exponent decided (λ i n. n + i) (λ l n. n) p w 0)
least-by-digits decided up p w v l h =
    simp zero-add at
    (exponent-least (upward_acts up) decided (λ l n. n) p (keeps-whole p) w v 0 l (simp zero-add h))
