-- Several lists in one slice of bytes, for the factors of a file, which the program lays one after another.
--
--   split bytes ns     == the bytes cut into as many parts as there are lengths in ns: each begins where the
--                         one before it ends and has its length, as far as the bytes reach. A part that goes
--                         beyond the end is shorter, or empty; bytes after the last part belong to no part
use Rattle.std.specs.Prelude.{ℕ, List, [], ◌∷◌, take, drop}

unfoldable pub split : List ℕ → List ℕ → List (List ℕ)
split bytes [] = []
split bytes (n ∷ ns) = take n bytes ∷ split (drop n bytes) ns
