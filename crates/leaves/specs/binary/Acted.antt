-- What the contract of `leaf_binary_act` cites.
--
--   has_room n size     == `size` bytes hold a period of n terms, 1 to 256 of them, and as many after them
--   Acted b F w n f q w' r == w has become w': where b holds, the n values of the action of f with the stride
--                        q on the first n bytes as a period stand after these, all other bytes are as they
--                        were, and r says whether the values are all 0; else w is as it was, and r is false
use Rattle.std.specs.Prelude.{ℕ, ◌+◌, ◌≡◌, Bool, false, ◌&&◌, List, T, leb}
use Rattle.meaning.specs.Field.{Field}
use Rattle.meaning.specs.Polynomial.{Polynomial}
use Rattle.lent.specs.blocks.Blocks.{BlockActed}

unfoldable pub has_room : ℕ → ℕ → Bool
has_room n size = leb 1 n && (leb n 256 && leb (n + n) size)

pub record Acted
    (b : Bool) (F : Field) (w : List ℕ) (n : ℕ) (f : Polynomial) (q : ℕ) (w' : List ℕ) (r : Bool)
    : Type 0 where
  pub acted : T b → BlockActed F w 0 n 0 f q n n w' r
  pub kept : b ≡ false → (w' ≡ w) × (r ≡ false)
