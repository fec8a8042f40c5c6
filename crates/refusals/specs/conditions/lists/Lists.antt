-- What the contracts of the checks cite beside crate meaning.
--
--   largest l          == the largest number of the list; 0 for the empty list
use Rattle.std.specs.Prelude.{ℕ, max, List, [], ◌∷◌}

unfoldable pub largest : List ℕ → ℕ
largest [] = 0
largest (a ∷ l) = max a (largest l)
