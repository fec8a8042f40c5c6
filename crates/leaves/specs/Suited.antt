-- What the contracts of the leaves cite.
--
--   suited m n         == m is at most n and at most 65,536
--   where_suited b x y  == x where b holds, and else y
--   where_found o       == the value of o, and 0 where it has none
use Rattle.std.specs.Prelude.{ℕ, Bool, true, false, ◌&&◌, leb}
use Rattle.std.proofs.Math.Option.{Option, none, some}

unfoldable pub suited : ℕ → ℕ → Bool
suited m n = leb m n && leb m 65536

unfoldable pub where_suited : {A : Type 0} → Bool → A → A → A
where_suited true x y = x
where_suited false x y = y

unfoldable pub where_found : Option ℕ → ℕ
where_found none = 0
where_found (some n) = n
