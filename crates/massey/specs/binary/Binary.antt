-- What the contracts of the free way over GF(2) cite: the state of the model in words and numbers.
--
--   changed_at r       == how many terms were seen when the former f became g, 0 where g is 0
--   reached_with r n, aligned_with r n == n terms are seen, g is aligned to n, and all else is as it was
--   changed_with r     == one term more is seen, and the degree changed for it
--   Aligned r g a r' g' == g is moved down by whole words, and fewer than 64 bits are left
--   WordsStand ts x r f g a == the state x of the model stands in the words of f and g, from word a on, and
--                        in the numbers r: those of f have its image, and those of g its marked image, moved
--                        down (Massey/Images of `bridge`)
--   WordsHold ts r f g a == what stands there is the state after the terms of ts that r has seen
--   WordsReady r a    == f can be corrected: the numbers are in range, and g is aligned
--   Misfits ts r      == f does not fit the term after those seen
--   WordsStepped ts r r' f g a == one term more is seen, and the state after it stands there
--   WordsAdvanced ts r m r' f g a == more terms are seen, at most m, and the state after them stands there
--   Reducible r       == f can lose a multiple of x^s·g, s = 2·L − 1 − n, where `seen` is n, counted on from
--                        the terms
--   Cancelled r f g a r' f' g' == nothing is done, where f has no coefficient at the place of the leading one
--                        of x^s·g; or g is aligned, and added
--   WordsReduced ts r f == the first polynomial that fits all terms stands in the place of f, of its degree
--
-- The model is that of `bridge`, with the inverse of `arith`.
use Rattle.std.specs.Prelude.{ℕ, ◌+◌, ◌-◌, ◌*◌, ◌≤◌, ◌<◌, ◌≡◌, ◌≢◌, List, length, get_or}
use Rattle.meaning.specs.Field.{prime}
use Rattle.bridge.proofs.Massey.Steps.{MasseyState, massey_after, polynomial_of, discrepancy}
use Rattle.bridge.proofs.Massey.First.{massey_first}
use Rattle.bridge.proofs.Massey.Images.{image, marked}
use Rattle.arith.specs.Inverse.{inverse}
use Rattle.massey.specs.declared.binary.Progress.{Progress}
use Rattle.massey.specs.words.Words.{bit_of, Room, Added}

abbrev pub changed_at : Progress → ℕ
changed_at r = r.degree + r.earlier - 1

abbrev pub reached_with : Progress → ℕ → Progress
reached_with r n = record { seen = n; degree = r.degree; earlier = r.earlier; aligned = r.aligned }

abbrev pub changed_with : Progress → Progress
changed_with r =
    record {
      seen = r.seen + 1;
      degree = r.seen + 1 - r.degree;
      earlier = r.degree + 1;
      aligned = r.seen + 1;
    }

abbrev pub aligned_with : Progress → ℕ → Progress
aligned_with r n = record { seen = r.seen; degree = r.degree; earlier = r.earlier; aligned = n }

pub record Aligned (r : Progress) (g : List ℕ) (a : ℕ) (r' : Progress) (g' : List ℕ) : Type 0 where
  pub numbers : r' ≡ aligned_with r r'.aligned
  pub more : r.aligned ≤ r'.aligned
  pub most : r'.aligned ≤ r.seen + 1
  pub near : r.seen + 1 < r'.aligned + 64
  pub words : Room g'
  pub bit : (i : ℕ) → 64 * a ≤ i → bit_of g' i ≡ bit_of g (i + (r'.aligned - r.aligned))

pub record WordsStand (ts : List ℕ) (x : MasseyState) (r : Progress) (f g : List ℕ) (a : ℕ) : Type 0 where
  pub degree : r.degree ≡ length x.lower
  pub earlier : r.earlier ≡ length x.previous
  pub one : x.inverse ≡ 1
  pub least : changed_at r ≤ r.aligned
  pub most : r.aligned ≤ r.seen + 1
  pub first : Room f
  pub second : Room g
  pub current : (i : ℕ) → 64 * a ≤ i → bit_of f i ≡ image ts (polynomial_of x) r.seen i
  pub previous : (i : ℕ) → 64 * a ≤ i
      → bit_of g i ≡ marked ts x.previous (changed_at r) (i + (r.aligned - changed_at r))

abbrev pub WordsHold : List ℕ → Progress → List ℕ → List ℕ → ℕ → Type 0
WordsHold ts r f g a = WordsStand ts (massey_after (prime 2) (inverse (prime 2)) ts r.seen) r f g a

pub record WordsReady (r : Progress) (a : ℕ) : Type 0 where
  pub left : 64 * a + r.seen < 4096
  pub near : r.seen + 1 < r.aligned + 64

abbrev pub Misfits : List ℕ → Progress → Type 0
Misfits ts r =
    discrepancy (prime 2) ts r.seen (massey_after (prime 2) (inverse (prime 2)) ts r.seen).lower ≢ 0

pub record WordsStepped (ts : List ℕ) (r r' : Progress) (f g : List ℕ) (a : ℕ) : Type 0 where
  pub seen : r'.seen ≡ r.seen + 1
  pub holds : WordsHold ts r' f g a

pub record WordsAdvanced (ts : List ℕ) (r : Progress) (m : ℕ) (r' : Progress) (f g : List ℕ) (a : ℕ)
    : Type 0 where
  pub more : r.seen < r'.seen
  pub most : r'.seen ≤ m
  pub holds : WordsHold ts r' f g a

pub record Reducible (r : Progress) : Type 0 where
  pub degree : (r.degree ≤ 4096) × (r.seen < 2 * r.degree)
  pub earlier : (1 ≤ r.earlier) × (r.degree + r.earlier ≤ r.seen + 1)

pub data Cancelled (r : Progress) (f g : List ℕ) (a : ℕ) (r' : Progress) (f' g' : List ℕ) : Type 0 where
  none :
      bit_of f (4157 + r.degree + r.earlier - r.seen) ≡ 0
      → r' ≡ r
      → f' ≡ f
      → g' ≡ g
      → Cancelled r f g a r' f' g'
  taken :
      bit_of f (4157 + r.degree + r.earlier - r.seen) ≡ 1
      → Aligned r g a r' g'
      → Added f g' a (r'.seen + 1 - r'.aligned) f'
      → Cancelled r f g a r' f' g'

pub record WordsReduced (ts : List ℕ) (r : Progress) (f : List ℕ) : Type 0 where
  pub size : length (massey_first (prime 2) (inverse (prime 2)) ts) ≡ r.degree + 1
  pub first : (i : ℕ) → i ≤ r.degree
      → bit_of f (4159 - r.degree + i) ≡ get_or (massey_first (prime 2) (inverse (prime 2)) ts) i 0
