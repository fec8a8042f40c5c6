-- Lists as the calls take them: a slice of slices.
--
--   lists_of fs         == the lists that the slices of fs hold, in order
use Rattle.std.specs.Prelude.{ℕ, List, map}
use Rattle.std.specs.Borrow.{Bor}

unfoldable pub lists_of : List (Bor (List ℕ)) → List (List ℕ)
lists_of fs = map (λ x. x.now) fs
