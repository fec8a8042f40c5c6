-- The total degree of factors with their powers, along the list.
--
--   total-take, total-part == the total degree of the first pairs, and of one pair after them
--
-- Assumes nothing.
use Prim.Native.Nat.{ℕ, zero, suc, ◌+◌, ◌*◌, ◌≤◌, ◌<◌}
use mathlib.Core.Path.{◌≡◌, sym, ap, ◌∙◌}
use mathlib.Core.List.{List, [], ◌∷◌}
use native.Mathlib.Nat as ℕ
use native.Mathlib.Omega.{arith}
use lib.ListN.{length, take}
use Rattle.meaning.specs.Polynomial.{Polynomial, degree}
use Rattle.meaning.specs.Conditions.{total_degree}
use Rattle.bridge.proofs.Lists.Products.{factor_at, power_at}

pub total-take :
    (l : List (Polynomial × ℕ)) (j : ℕ)
    → j < length l
    → total_degree (take (suc j) l) ≡ total_degree (take j l) + power_at l j * degree (factor_at l j)
unfolding total_degree
total-take [] j h = absurd (omega arith)
total-take (f ∷ l) zero h = omega arith
total-take (f ∷ l) (suc j) h =
    ap (λ n. f.1 * degree f.0 + n) (total-take l j (omega arith)) ∙ sym (ℕ.add_assoc _ _ _)

pub total-part :
    (l : List (Polynomial × ℕ)) (j : ℕ)
    → j < length l
    → total_degree (take j l) + power_at l j * degree (factor_at l j) ≤ total_degree l
unfolding total_degree
total-part [] j h = absurd (omega arith)
total-part (f ∷ l) zero h = omega arith
total-part (f ∷ l) (suc j) h = omega (arith, total-part l j (omega arith))
