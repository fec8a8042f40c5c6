-- The loop that moves g down by whole words.
--
--   Aligning r g a r' g' == what it keeps: g' is g, moved down by the bits between the two numbers
--   aligning_seen    == the number of terms seen is as it was
--   aligning_none, aligning_more, aligning_end == before the first word, one word more, after the last
--   aligned_image    == the bits of g stay those of an image that is moved down
--
-- Assumes nothing.
use Prim.Native.Nat.{ℕ, ◌+◌, ◌-◌, ◌*◌, ◌≤◌, ◌<◌}
use mathlib.Core.Path.{◌≡◌, refl, ap, ◌∙◌}
use mathlib.Core.List.{List}
use native.Mathlib.Omega.{arith}
use Rattle.massey.specs.declared.binary.Progress.{Progress}
use Rattle.massey.specs.words.Words.{bit_of, Room, Moved}
use Rattle.massey.specs.binary.Binary.{aligned_with, Aligned}

pub record Aligning (r : Progress) (g : List ℕ) (a : ℕ) (r' : Progress) (g' : List ℕ) : Type 0 where
  pub numbers : r' ≡ aligned_with r r'.aligned
  pub more : r.aligned ≤ r'.aligned
  pub most : r'.aligned ≤ r.seen + 1
  pub words : Room g'
  pub bit : (i : ℕ) → 64 * a ≤ i → bit_of g' i ≡ bit_of g (i + (r'.aligned - r.aligned))

pub aligning_none :
    (r : Progress) (g : List ℕ) (a : ℕ) → Room g → r.aligned ≤ r.seen + 1 → Aligning r g a r g
aligning_none r g a w l =
    record {
      numbers = refl;
      more = omega arith;
      most = l;
      words = w;
      bit = λ i _. let e : i ≡ i + (r.aligned - r.aligned) = omega arith in ap (bit_of g) e;
    }

module _ {r : Progress} {g : List ℕ} {a : ℕ} {r' : Progress} {g' : List ℕ} (h : Aligning r g a r' g') where
  pub aligning_seen : r'.seen ≡ r.seen
  aligning_seen = ap (λ r. r.seen) h.numbers

  pub aligning_more :
      {g'' : List ℕ}
      → r'.aligned + 64 ≤ r'.seen + 1
      → Moved g' a g''
      → Aligning r g a (aligned_with r' (r'.aligned + 64)) g''
  aligning_more l m =
      record {
        numbers = ap (λ q. aligned_with q (r'.aligned + 64)) h.numbers;
        more = omega (arith, h.more);
        most = omega (arith, aligning_seen);
        words = m.words;
        bit = λ i b.
            let e : i + 64 + (r'.aligned - r.aligned) ≡ i + (r'.aligned + 64 - r.aligned) =
            omega (arith, h.more) in
            m.bit i b ∙ h.bit (i + 64) (omega arith) ∙ ap (bit_of g) e;
      }

  pub aligning_end : r'.seen + 1 < r'.aligned + 64 → Aligned r g a r' g'
  aligning_end l =
      record {
        numbers = h.numbers;
        more = h.more;
        most = h.most;
        near = omega (arith, aligning_seen);
        words = h.words;
        bit = h.bit;
      }

-- the bits of g stay those of an image h, moved down from c on
pub aligned_image :
    {r r' : Progress} {g g' : List ℕ} {a : ℕ} (h : ℕ → ℕ) (c : ℕ)
    → Aligned r g a r' g'
    → c ≤ r.aligned
    → ((i : ℕ) → 64 * a ≤ i → bit_of g i ≡ h (i + (r.aligned - c)))
    → (i : ℕ)
    → 64 * a ≤ i
    → bit_of g' i ≡ h (i + (r'.aligned - c))
aligned_image {r} {r'} h c k l p i b =
    let e : i + (r'.aligned - r.aligned) + (r.aligned - c) ≡ i + (r'.aligned - c) =
    omega (arith, k.more) in
    k.bit i b ∙ p (i + (r'.aligned - r.aligned)) (omega arith) ∙ ap h e
