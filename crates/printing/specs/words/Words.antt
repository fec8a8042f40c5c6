-- What the contracts of the words cite.
--
--   Pushed most text old new == the text, of at most `most` bytes, was put after what was printed already
--   led sep ws        == each of the words with the separator before it
use Rattle.std.specs.Prelude.{ℕ, ◌+◌, ◌≤◌, ◌≡◌, List, [], ◌∷◌, ◌++◌, length}

pub record Pushed (most : ℕ) (text old new : List ℕ) : Type 0 where
  pub put : new ≡ old ++ text
  pub within : length new ≤ length old + most

unfoldable pub led : List ℕ → List (List ℕ) → List ℕ
led sep [] = []
led sep (w ∷ ws) = sep ++ (w ++ led sep ws)
