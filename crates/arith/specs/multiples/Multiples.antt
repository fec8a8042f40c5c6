-- What the contracts of the multiples of an element of a field of 2^n elements cite.
--
--   list_of m             == the multiples of an element by 1, y, …, y^7, as a list
use Rattle.std.specs.Prelude.{ℕ, List, [], ◌∷◌}
use Rattle.arith.specs.declared.multiples.ExtensionMultiples.{ExtensionMultiples}

unfoldable pub list_of : ExtensionMultiples → List ℕ
list_of m = m.m0 ∷ m.m1 ∷ m.m2 ∷ m.m3 ∷ m.m4 ∷ m.m5 ∷ m.m6 ∷ m.m7 ∷ []
