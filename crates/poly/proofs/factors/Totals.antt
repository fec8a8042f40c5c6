-- Factors with their upper powers: what stands at a place, and the total degree as far as its limit.
--
--   total-known      == where 14 passes, the total degree is at most 4,096, and its cap is itself
-- Assumes nothing.
use Prim.Native.Nat.{ℕ, zero, suc, ◌+◌, ◌*◌, min, ◌≤◌, ◌<◌}
use native.Mathlib.Numerals.{add-one}
use native.Mathlib.Omega.{arith}
use mathlib.Core.Path.{◌≡◌, refl, sym, ap, ◌∙◌}
use mathlib.Core.Bool.{false}
use mathlib.Core.List.{List, [], ◌∷◌}
use lib.ListN.{length, get_or, drop, drop_of_length-le}
use lib.Seq.{drop-cons}
use denote.Ref.{Bor}
use Rattle.meaning.specs.Polynomial.{Polynomial, degree}
use Rattle.meaning.specs.Conditions.{named, total_degree, upper_powers_out_of_range}
use Rattle.meaning.specs.Slices.{lists_of}
use Rattle.meaning.proofs.Slices.{nowhere, lists_length, lists_at}
use Rattle.bridge.proofs.Lists.Products.{length-named}
use Rattle.bridge.proofs.Ways.Accepted.{total-accepted}
use Rattle.poly.proofs.factors.Capped.{capped_within, capped_beyond, sum-beyond, sum-within}

named-at : (fs : List Polynomial) (us : List ℕ) (i : ℕ) → i < length fs
    → get_or (named fs us) i ([], 0) ≡ (get_or fs i [], get_or us i 0)
unfolding named
named-at [] us i h = absurd (omega arith)
named-at (f ∷ fs) [] zero h = refl
named-at (f ∷ fs) [] (suc i) h = named-at fs [] i (omega arith)
named-at (f ∷ fs) (u ∷ us) zero h = refl
named-at (f ∷ fs) (u ∷ us) (suc i) h = named-at fs us i (omega arith)

-- The factors of a slice of slices with their upper powers.
pub factors-length : (fs : List (Bor (List ℕ))) (us : List ℕ) → length (named (lists_of fs) us) ≡ length fs
factors-length fs us = length-named (lists_of fs) us ∙ lists_length fs

pub factor-at : (fs : List (Bor (List ℕ))) (us : List ℕ) (i : ℕ) → i < length fs
    → get_or (named (lists_of fs) us) i ([], 0) ≡ ((get_or fs i nowhere).now, get_or us i 0)
factor-at fs us i h =
    named-at (lists_of fs) us i (rw lists_length h)
    ∙ ap (λ (f : Polynomial). (f, get_or us i 0)) (lists_at fs i)

-- The total degree along the factors.
total-cons : (l : List (Polynomial × ℕ)) (i : ℕ) → i < length l
    → total_degree (drop i l)
    ≡ (get_or l i ([], 0)).1 * degree (get_or l i ([], 0)).0 + total_degree (drop (i + 1) l)
unfolding total_degree
total-cons l i h = rw (add-one, drop-cons l i ([], 0) h)

total-at : (fs : List (Bor (List ℕ))) (us : List ℕ) (i : ℕ) → i < length fs
    → total_degree (drop i (named (lists_of fs) us))
    ≡ get_or us i 0 * degree (get_or fs i nowhere).now + total_degree (drop (i + 1) (named (lists_of fs) us))
total-at fs us i h =
    rw (factor-at fs us i h) at (total-cons (named (lists_of fs) us) i (rw factors-length h))

total-past : (fs : List (Bor (List ℕ))) (us : List ℕ) (i : ℕ) → length fs ≤ i
    → total_degree (drop i (named (lists_of fs) us)) ≡ 0
unfolding total_degree
total-past fs us i h =
    ap total_degree (drop_of_length-le (named (lists_of fs) us) {i = i} (rw factors-length h))

-- s, at most 4,096, and the total degree from factor i on are D.
module _ (fs : List (Bor (List ℕ))) (us : List ℕ) (i s : ℕ) {D : ℕ}
    (e : s + total_degree (drop i (named (lists_of fs) us)) ≡ D) where
  pub total_over : length fs ≤ i → s ≤ 4096 → s ≡ min D 4097
  total_over h b = capped_within s b ∙ ap (λ (n : ℕ). min n 4097) (omega (arith, total-past fs us i h))

  -- the product r of factor i, as far as the limit, of its upper power and its degree
  module _ (h : i < length fs) {r u d : ℕ} (er : r ≡ min (u * d) 4097) (eu : u ≡ get_or us i 0)
      (ed : d ≡ degree (get_or fs i nowhere).now) where
    total-split : s + (u * d + total_degree (drop (i + 1) (named (lists_of fs) us))) ≡ D
    total-split = rw (eu, ed, ← total-at fs us i h) e

    pub total-beyond : 4096 < s + r → 4097 ≡ min D 4097
    total-beyond b = capped_beyond D (omega (arith, total-split, sum-beyond s (u * d) (rw er at b)))

    pub total-next : s + r ≤ 4096 → s + r + total_degree (drop (i + 1) (named (lists_of fs) us)) ≡ D
    total-next b = omega (arith, total-split, er, sum-within s (u * d) (rw er at b))

pub total-known : (l : List (Polynomial × ℕ)) → upper_powers_out_of_range l ≡ false
    → (total_degree l ≤ 4096) × (min (total_degree l) 4097 ≡ total_degree l)
total-known l h = let k = total-accepted l h in (k, sym (capped_within (total_degree l) k))
