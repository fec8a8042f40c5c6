-- What the contracts cite of work bytes whose halves are used.
--
--   Kept w w'         == the work bytes w have become w' of the same length, and those beyond the halves are
--                        as they were
use Rattle.std.specs.Prelude.{ℕ, ◌≡◌, List, length, drop}

pub record Kept (w w' : List ℕ) : Type 0 where
  pub beyond : drop 8192 w' ≡ drop 8192 w
  pub size : length w' ≡ length w
