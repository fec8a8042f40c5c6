-- Refusal 14: an upper power of 0, looked for from the front, or a total degree beyond its limit.
-- Assumes nothing.
use Prim.Native.Nat.{ℕ, ◌+◌, min, ◌≤◌, ◌<◌}
use mathlib.Core.Path.{◌≡◌}
use mathlib.Core.Bool.{Bool, true, false}
use mathlib.Core.List.{List, []}
use lib.Dec.{ltb, eqb}
use lib.ListN.{length, get_or, drop}
use denote.Ref.{Bor}
use borrow.Author.Tests.{eq-eqb, ne_eqb}
use Rattle.meaning.specs.Search.{holds_for_some}
use Rattle.meaning.specs.Polynomial.{Polynomial}
use Rattle.meaning.specs.Conditions.{named, total_degree, upper_powers_out_of_range}
use Rattle.meaning.specs.Slices.{lists_of}
use Rattle.poly.proofs.factors.Capped.{capped_test}
use Rattle.poly.proofs.factors.Totals.{factors-length, factor-at}
use Rattle.refusals.proofs.conditions.factors.Scan.{Scan, some-scan, scan-found, scan-next, scan_over}

-- No upper power before i is 0: the factors from i on decide.
module _ (fs : List (Bor (List ℕ))) (us : List ℕ) (i : ℕ) {x : Bool}
    (e : holds_for_some (λ f. eqb f.1 0) (drop i (named (lists_of fs) us)) ≡ x) where
  abbrev scan : Scan (holds_for_some {A = Polynomial × ℕ} (λ f. eqb f.1 0)) (λ f l. eqb f.1 0)
  scan = some-scan (λ f. eqb f.1 0)

  pub zero-found : i < length fs → get_or us i 0 ≡ 0 → true ≡ x
  zero-found h q =
      scan-found scan ([], 0) (named (lists_of fs) us) i e
      (rw factors-length h)
      (rw (factor-at fs us i h) (eq-eqb _ _ q))

  pub zero-next : i < length fs → (get_or us i 0 ≡ 0 → ⊥)
      → holds_for_some (λ f. eqb f.1 0) (drop (i + 1) (named (lists_of fs) us)) ≡ x
  zero-next h q =
      scan-next scan ([], 0) (named (lists_of fs) us) i e
      (rw factors-length h)
      (rw (factor-at fs us i h) (ne_eqb _ _ q))

  pub zeros_over : length fs ≤ i → false ≡ x
  zeros_over h = scan_over scan ([], 0) (named (lists_of fs) us) i e (rw factors-length h)

-- The two grounds of refusal 14.
module _ (l : List (Polynomial × ℕ)) where
  pub zero-upper : holds_for_some (λ f. eqb f.1 0) l ≡ true → true ≡ upper_powers_out_of_range l
  unfolding upper_powers_out_of_range
  zero-upper h = rw h

  pub large-total : {d : ℕ} → holds_for_some (λ f. eqb f.1 0) l ≡ false → d ≡ min (total_degree l) 4097
      → ltb 4096 d ≡ upper_powers_out_of_range l
  unfolding upper_powers_out_of_range
  large-total h e = rw (h, e) (capped_test (total_degree l))
