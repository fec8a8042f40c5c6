-- What the contracts of the actions cite: the two halves of the lent work bytes, and what an action leaves in
-- them.
--
--   half w h n        == the first n bytes of half h, 0 or 1, of the work bytes w
--   Halves w h n      == w has two halves of 4,096 bytes, h is one of them, and n terms fit in it
--   Strided f q       == the polynomial f is not empty, and it and the stride q are small: no number wraps
--   Placed w h k v w' == w has become w': half h begins with the numbers v, half k is as it was, and so are
--                        all bytes beyond the two halves, and the length
--   Acted w h v w' r  == the values v were placed in the half other than h, which is as it was, and r says
--                        whether they are all 0
use Rattle.std.specs.Prelude.{ℕ, ◌*◌, ◌-◌, ◌≤◌, ◌<◌, ◌≡◌, Bool, List, length, drop}
use Rattle.meaning.specs.Polynomial.{Polynomial}
use Rattle.bridge.proofs.Sequences.KnownActions.{all_zero}
use Rattle.arith.specs.Slices.{part}

abbrev pub half : List ℕ → ℕ → ℕ → List ℕ
half w h n = part w (4096 * h) n

pub record Halves (w : List ℕ) (h n : ℕ) : Type 0 where
  pub enough : 8192 ≤ length w
  pub which : h ≤ 1
  pub few : n ≤ 4096

pub record Strided (f : Polynomial) (q : ℕ) : Type 0 where
  pub nonempty : 0 < length f
  pub short : length f ≤ 4097
  pub near : q ≤ 4096

pub record Placed (w : List ℕ) (h k : ℕ) (v w' : List ℕ) : Type 0 where
  pub made : half w' h (length v) ≡ v
  pub kept : half w' k 4096 ≡ half w k 4096
  pub beyond : drop 8192 w' ≡ drop 8192 w
  pub size : length w' ≡ length w

pub record Acted (w : List ℕ) (h : ℕ) (v w' : List ℕ) (r : Bool) : Type 0 where
  pub placed : Placed w (1 - h) h v w'
  pub zero : r ≡ all_zero v
