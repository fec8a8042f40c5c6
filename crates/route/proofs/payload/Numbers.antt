-- Laws of numbers of several bytes, and of the box number.
-- Assumes nothing.
use Prim.Native.Nat.{ℕ, ◌+◌, ◌*◌, ◌<◌, ◌≤◌}
use mathlib.Core.Path.{◌≡◌, refl, ap}
use mathlib.Core.List.{List}
use native.Mathlib.Numerals.{add-one}
use native.Mathlib.Omega.{arith}
use borrow.Author.Tests.{eq-eqb, ne_eqb, le-leb, lt-leb}
use lib.ListN.{length, get_or, take, drop, length-take, drop_of_length-le}
use lib.Seq.{drop-cons}
use Rattle.meaning.specs.Route.{number, appended, box_of}

pub number-start : (bytes : List ℕ) → appended 0 (drop 0 bytes) ≡ number bytes
unfolding number
number-start bytes = refl

-- one more byte
pub number_more : (bytes : List ℕ) (n i : ℕ) → i < length bytes
    → appended n (drop i bytes) ≡ appended (256 * n + get_or bytes i 0) (drop (i + 1) bytes)
unfolding appended
number_more bytes n i h = rw (drop-cons bytes i 0 h, ← add-one)

pub number-end : (bytes : List ℕ) (n i : ℕ) → length bytes ≤ i → appended n (drop i bytes) ≡ n
unfolding appended
number-end bytes n i h = rw (drop_of_length-le bytes h)

-- at most n bytes are taken
pub length_part : (n : ℕ) (s part : List ℕ) → part ≡ take n s → length part ≤ n
length_part n s part e = omega (arith, ap length e, length-take n s)

-- the box number, by its three conditions
module _ (file : List ℕ) where
  pub box-short : length file < 5 → 0 ≡ box_of file
  unfolding box_of
  box-short h = rw (lt-leb _ _ h, box_of)

  pub box-long : 16384 < length file → 0 ≡ box_of file
  unfolding box_of
  box-long h = rw (le-leb 5 (length file) (omega arith), lt-leb _ _ h, box_of)

  module _ (low : 5 ≤ length file) (high : length file ≤ 16384) where
    pub box-other : (get_or file 0 0 ≡ 1 → ⊥) → 0 ≡ box_of file
    unfolding box_of
    box-other h = rw (le-leb _ _ low, le-leb _ _ high, ne_eqb _ _ h, box_of)

    pub box_here : get_or file 0 0 ≡ 1 → number (take 4 (drop 1 file)) ≡ box_of file
    unfolding box_of
    box_here h = rw (le-leb _ _ low, le-leb _ _ high, eq-eqb _ _ h, box_of)
