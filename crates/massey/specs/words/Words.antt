-- What the contracts of the leaves on words cite. Bit r of a word w is `digit 2 w r`.
--
--   bit_of w i          == bit i of the words w, 0 beyond them
--   bits_from w o n     == the n bits from bit o on
--   Window l u k v     == v has the bits of the word l from k on, and then those of u
--   Room w            == w has 66 words, and the last is 0
--   Moved g a g'       == g' has the bits of g that are a word above, from word a on
--   Added f g a k f'   == f' has the sums of the bits of f and of those of g that are k bits above, from word
--                         a on
--   Exchanged f g a k f' g' == the same, and g' has the bits of f
--   NextOne f n m r    == r is the first number from n on and before m whose bit of f is 1, or m
--   TermsPacked ts f   == the bit of n is that of t(n), by its remainder modulo 2, and the two words above
--                         those of 4,096 terms are 0
--
-- The bit of a number n is bit 4,095 − n.
use Rattle.std.specs.Prelude.{ℕ, ◌+◌, ◌*◌, ◌-◌, ◌/◌, ◌%◌, ◌≤◌, ◌<◌, ◌≡◌, List, length, get_or}
use Rattle.meaning.specs.Sequence.{cut}
use Rattle.bridge.proofs.Lists.Monics.{digit}

abbrev pub bit_of : List ℕ → ℕ → ℕ
bit_of w i = digit 2 (get_or w (i / 64) 0) (i % 64)

unfoldable pub bits_from : List ℕ → ℕ → ℕ → List ℕ
bits_from w o n = cut (bit_of w) o n

pub record Window (l u k v : ℕ) : Type 0 where
  pub low : (r : ℕ) → k + r < 64 → digit 2 v r ≡ digit 2 l (k + r)
  pub high : (r : ℕ) → r < 64 → 64 ≤ k + r → digit 2 v r ≡ digit 2 u (k + r - 64)

pub record Room (w : List ℕ) : Type 0 where
  pub size : length w ≡ 66
  pub last : get_or w 65 0 ≡ 0

pub record Moved (g : List ℕ) (a : ℕ) (g' : List ℕ) : Type 0 where
  pub words : Room g'
  pub bit : (i : ℕ) → 64 * a ≤ i → bit_of g' i ≡ bit_of g (i + 64)

pub record Added (f g : List ℕ) (a k : ℕ) (f' : List ℕ) : Type 0 where
  pub words : Room f'
  pub bit : (i : ℕ) → 64 * a ≤ i → bit_of f' i ≡ (bit_of f i + bit_of g (i + k)) % 2

pub record Exchanged (f g : List ℕ) (a k : ℕ) (f' g' : List ℕ) : Type 0 where
  pub added : Added f g a k f'
  pub words : Room g'
  pub bit : (i : ℕ) → 64 * a ≤ i → bit_of g' i ≡ bit_of f i

pub record NextOne (f : List ℕ) (n m r : ℕ) : Type 0 where
  pub low : n ≤ r
  pub high : r ≤ m
  pub zeros : (t : ℕ) → n ≤ t → t < r → bit_of f (4095 - t) ≡ 0
  pub one : r < m → bit_of f (4095 - r) ≡ 1

pub record TermsPacked (ts f : List ℕ) : Type 0 where
  pub size : length f ≡ 66
  pub bit : (n : ℕ) → n < 4096 → bit_of f (4095 - n) ≡ get_or ts n 0 % 2
  pub above : (j : ℕ) → 64 ≤ j → get_or f j 0 ≡ 0
