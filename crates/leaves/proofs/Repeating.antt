-- The shortest period as a number: 0 where there are no terms.
-- Assumes nothing.
use Prim.Native.Nat.{ℕ}
use native.Mathlib.Omega.{arith}
use mathlib.Core.Path.{◌≡◌, refl}
use mathlib.Core.List.{List, [], ◌∷◌}
use mathlib.Core.Option.{some}
use lib.ListN.{length}
use Rattle.meaning.specs.Search.{least}
use Rattle.meaning.specs.Repeat.{repeats_every, shortest_period}
use Rattle.leaves.specs.Suited.{where_found}

pub nothing-found : (ts : List ℕ) → length ts ≡ 0 → 0 ≡ where_found (shortest_period ts)
unfolding shortest_period repeats_every least where_found
nothing-found [] e = refl
nothing-found (t ∷ ts) e = absurd (omega arith)

pub found : (ts : List ℕ) {n : ℕ} → shortest_period ts ≡ some n → n ≡ where_found (shortest_period ts)
unfolding where_found
found ts e = rw e
