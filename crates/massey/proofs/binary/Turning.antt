-- The reduction over GF(2): from the highest place down f loses a multiple of x^s·g.
--
--   WordsTurning ts r f g a == what the loop keeps, for s = 2·L − n where `seen` is n, counted on from the
--                        terms: reduced by s turns more, what stands in the place of f is the first
--                        polynomial that fits
--   words_turning_none, words_turning_end == before the first turn, and after the last
--   words_turning_degree == the degree is at most 4,096
--   words_turning_reducible, words_turning_cancelled == a turn can be taken, and is
--   cancelled_numbers == the numbers seen and the degree are as they were
--   hold_degree, reduced-shortest == the degree is at most 4,096, and what is to be written
--
-- Assumes nothing.
use Prim.Native.Nat.{ℕ, zero, suc, ◌+◌, ◌-◌, ◌*◌, ◌%◌, ◌≤◌, ◌<◌}
use mathlib.Core.Path.{◌≡◌, sym, ap, ap₂, subst, ◌∙◌}
use mathlib.Core.List.{List, [], ◌∷◌, ◌++◌}
use native.Mathlib.Nat as ℕ
use native.Mathlib.Omega.{arith}
use lib.ListN.{length, get_or, length-append, get_or-append}
use lib.Seq.{ext_get_or}
use Rattle.meaning.specs.Field.{prime, negative}
use Rattle.meaning.specs.Result.{written, cleared}
use Rattle.bridge.proofs.Binary.WordLists.{raised-none}
use Rattle.bridge.proofs.Massey.Bits.{kept-bit, negative-bit}
use Rattle.bridge.proofs.Massey.Images.{image, marked, marked_off, image-upper}
use Rattle.bridge.proofs.Massey.Steps.{MasseyState, massey_after, kept, length-kept, massey_sizes}
use Rattle.bridge.proofs.Massey.Steps.{massey_earlier}
use Rattle.bridge.proofs.Massey.First.{reduce_at, reduced, first_lower, massey_first, reduced-zero}
use Rattle.bridge.proofs.Massey.First.{reduced-suc}
use Rattle.arith.specs.Inverse.{inverse}
use Rattle.massey.specs.declared.binary.Progress.{Progress}
use Rattle.massey.specs.words.Words.{bit_of, bits_from, Room, Added}
use Rattle.massey.specs.Shortest.{ShortestRecurrence}
use Rattle.massey.specs.binary.Binary.{changed_at, reached_with, aligned_with, Aligned, WordsStand}
use Rattle.massey.specs.binary.Binary.{WordsHold}
use Rattle.massey.specs.binary.Binary.{Cancelled, none, taken, Reducible, WordsReduced}
use Rattle.massey.proofs.Reducing.{after}
use Rattle.massey.proofs.words.Packing.{bits-all}
use Rattle.massey.proofs.binary.Aligning.{aligned_image}
use Rattle.massey.proofs.binary.Standing.{coefficient-bit, lower-bits}

pub record WordsTurning (ts : List ℕ) (r : Progress) (f g : List ℕ) (a : ℕ) : Type 0 where
  pub lower : List ℕ
  pub rest : reduced (prime 2) (after (prime 2) ts).previous (2 * r.degree - r.seen) lower
      ≡ first_lower (prime 2) (length ts) (after (prime 2) ts)
  pub size : r.degree ≡ length lower
  pub degree : r.degree ≡ length (after (prime 2) ts).lower
  pub earlier : r.earlier ≡ length (after (prime 2) ts).previous
  pub from : length ts ≤ r.seen
  pub room : 64 * a + length ts ≤ 4096
  pub least : changed_at r ≤ r.aligned
  pub most : r.aligned ≤ r.seen + 1
  pub first : Room f
  pub second : Room g
  pub current : (i : ℕ) → 4096 - length ts ≤ i → bit_of f i ≡ image ts (lower ++ (1 ∷ [])) (length ts) i
  pub previous : (i : ℕ) → 64 * a ≤ i
      → bit_of g i ≡ marked ts (after (prime 2) ts).previous (changed_at r) (i + (r.aligned - changed_at r))

-- a leading 1 is a bit too
led-bits : (f : List ℕ) → ((i : ℕ) → get_or f i 0 < 2) → (i : ℕ) → get_or (f ++ (1 ∷ [])) i 0 < 2
led-bits [] b zero = omega arith
led-bits [] b (suc i) = omega arith
led-bits (a ∷ f) b zero = b 0
led-bits (a ∷ f) b (suc i) = led-bits f (λ i. b (suc i)) i

-- the bits that x^s·g is moved down by
moved-bits : (l e n : ℕ) → 1 ≤ e → l + e ≤ n + 1 → n < 2 * l
    → 2 * l - 1 - n + e + (n + 1 - (l + e - 1)) ≡ l + 1
moved-bits l e n a b c = omega arith

-- and how far up it reaches
raised-bound : (l e n : ℕ) → l + e ≤ n + 1 → 2 * l - 1 - n + e ≤ l + e - 1 + 64
raised-bound l e n b = omega arith

module _ (ts : List ℕ) where
  abbrev t : MasseyState
  t = after (prime 2) ts

  pub words_turning_none :
      {r : Progress} {f g : List ℕ} {a : ℕ}
      → 64 * a + length ts ≤ 4096
      → r.seen ≡ length ts
      → WordsHold ts r f g a
      → WordsTurning ts r f g a
  words_turning_none {r} {f} {g} {a} b e h =
      let held : WordsStand ts t r f g a =
      subst (λ n. WordsStand ts (massey_after (prime 2) (inverse (prime 2)) ts n) r f g a) e h in
      let k : 2 * r.degree - r.seen ≡ 2 * length t.lower - length ts = omega (arith, held.degree) in
      record {
        lower = t.lower;
        rest = ap (λ i. reduced (prime 2) t.previous i t.lower) k;
        size = held.degree;
        degree = held.degree;
        earlier = held.earlier;
        from = ℕ.le_of_eq (sym e);
        room = b;
        least = held.least;
        most = held.most;
        first = held.first;
        second = held.second;
        current = λ i l.
            held.current i (omega arith) ∙ ap (λ n. image ts (t.lower ++ (1 ∷ [])) n i) e;
        previous = held.previous;
      }

  degree-small : {r : Progress} {f g : List ℕ} {a : ℕ} → WordsTurning ts r f g a → r.degree ≤ length ts
  degree-small h = omega (arith, massey_sizes (prime 2) (inverse (prime 2)) ts (length ts), h.degree)

  -- the coefficients of f
  coefficients-room :
      {r : Progress} {f g : List ℕ} {a : ℕ} (h : WordsTurning ts r f g a)
      → 4096 - length ts + length h.lower ≤ 4159
  coefficients-room h = omega (arith, degree-small h, h.size, h.room)

  coefficient :
      {r : Progress} {f g : List ℕ} {a : ℕ} (h : WordsTurning ts r f g a) (i : ℕ)
      → bit_of f (4159 - r.degree + i) ≡ get_or (h.lower ++ (1 ∷ [])) i 0
  coefficient {r} {f} h i =
      ap (λ d. bit_of f (4159 - d + i)) h.size
      ∙ coefficient-bit ts f h.lower (length ts) (4096 - length ts) (coefficients-room h) h.current i

  pub words_turning_degree :
      {r : Progress} {f g : List ℕ} {a : ℕ} → WordsTurning ts r f g a → r.degree ≤ 4096
  words_turning_degree h = omega (arith, degree-small h, h.room)

  pub words_turning_end :
      {r : Progress} {f g : List ℕ} {a : ℕ} (k : Progress)
      → r.degree ≡ k.degree
      → WordsTurning ts r f g a
      → 2 * r.degree ≤ r.seen
      → WordsReduced ts k f
  words_turning_end {r} {f} k q h l =
      let n : 0 ≡ 2 * r.degree - r.seen = omega arith in
      let e : h.lower ≡ first_lower (prime 2) (length ts) t =
      sym (reduced-zero (prime 2) t.previous h.lower)
      ∙ ap (λ i. reduced (prime 2) t.previous i h.lower) n
      ∙ h.rest in
      record {
        size =
            subst (λ f. length (f ++ (1 ∷ [])) ≡ k.degree + 1) e
            (omega (arith, length-append h.lower (1 ∷ []), h.size));
        first = λ i _.
            ap (λ d. bit_of f (4159 - d + i)) (sym q)
            ∙ coefficient h i
            ∙ ap (λ f. get_or (f ++ (1 ∷ [])) i 0) e;
      }

  module _ {r : Progress} {f g : List ℕ} {a : ℕ} (h : WordsTurning ts r f g a)
      (b : r.seen < 2 * r.degree) where
    words_turning_sizes : (1 ≤ r.earlier) × (r.degree + r.earlier ≤ r.seen + 1) × (r.degree ≤ 4096)
    words_turning_sizes =
        let z = massey_sizes (prime 2) (inverse (prime 2)) ts (length ts) in
        let d = h.earlier in
        let i =
        massey_earlier (prime 2) (inverse (prime 2)) ts (λ g. 0 < length g)
        (λ n.
        omega (arith, length-append (massey_after (prime 2) (inverse (prime 2)) ts n).lower (1 ∷ [])))
        (length ts)
        (omega (arith, h.degree)) in
        (omega arith, omega (arith, h.degree, h.from), omega (arith, h.degree, h.room))

    pub words_turning_reducible : Reducible r
    words_turning_reducible =
        let z = words_turning_sizes in
        record {
          degree = (omega arith, b);
          earlier = (z.0, z.1);
        }

    abbrev u : List ℕ
    u = h.lower

    abbrev v : List ℕ
    v = t.previous

    abbrev s : ℕ
    s = 2 * r.degree - 1 - r.seen

    bits : (i : ℕ) → get_or u i 0 < 2
    bits = lower-bits ts f u (length ts) (4096 - length ts) (coefficients-room h) h.current

    raised-fits : s + length v ≤ length u
    raised-fits = omega (arith, words_turning_sizes, h.size, h.earlier)

    -- the coefficient of f that is to become 0
    cancelled_bit : bit_of f (4157 + r.degree + r.earlier - r.seen) ≡ get_or u (length v - 1 + s) 0
    cancelled_bit =
        let z = words_turning_sizes in
        let d = h.size in
        let e = h.earlier in
        let i : 4157 + r.degree + r.earlier - r.seen ≡ 4159 - r.degree + (length v - 1 + s) =
        omega arith in
        ap (bit_of f) i
        ∙ coefficient h (length v - 1 + s)
        ∙ get_or-append u (1 ∷ []) 0 (length v - 1 + s) (omega arith)

    -- f + c·x^s·g
    words_turning_more :
        {r' : Progress} {f' g' : List ℕ} (c : ℕ)
        → negative (prime 2) (get_or u (length v - 1 + s) 0) ≡ c
        → r' ≡ aligned_with r r'.aligned
        → r.aligned ≤ r'.aligned
        → r'.aligned ≤ r.seen + 1
        → Room f'
        → Room g'
        → ((i : ℕ)
        → 4096 - length ts ≤ i
        → bit_of f' i ≡ image ts (kept (prime 2) c s u v ++ (1 ∷ [])) (length ts) i)
        → ((i : ℕ) → 64 * a ≤ i → bit_of g' i ≡ marked ts v (changed_at r) (i + (r'.aligned - changed_at r)))
        → WordsTurning ts (reached_with r' (r'.seen + 1)) f' g' a
    unfolding reduce_at
    words_turning_more {r'} {f'} {g'} c e q m o x y p w =
        let k : s ≤ length u = omega (arith, raised-fits) in
        let d : r'.degree ≡ r.degree = ap (λ r. r.degree) q in
        let n : r'.seen ≡ r.seen = ap (λ r. r.seen) q in
        let z : r'.earlier ≡ r.earlier = ap (λ r. r.earlier) q in
        let j : 2 * r'.degree - (r'.seen + 1) ≡ s = omega arith in
        let i : suc s ≡ 2 * r.degree - r.seen = omega arith in
        let st : changed_at r ≡ r'.degree + r'.earlier - 1 = omega arith in
        record {
          lower = reduce_at (prime 2) v s u;
          rest =
              ap (λ i. reduced (prime 2) v i (reduce_at (prime 2) v s u)) j
              ∙ sym (reduced-suc (prime 2) v s u)
              ∙ ap (λ i. reduced (prime 2) v i u) i
              ∙ h.rest;
          size =
              d
              ∙ h.size
              ∙ sym (length-kept (prime 2) (negative (prime 2) (get_or u (length v - 1 + s) 0)) s u v k);
          degree = d ∙ h.degree;
          earlier = z ∙ h.earlier;
          from = omega (arith, h.from);
          room = h.room;
          least = omega (arith, h.least);
          most = omega arith;
          first = x;
          second = y;
          current = λ i l.
              p i l ∙ ap (λ c. image ts (kept (prime 2) c s u v ++ (1 ∷ [])) (length ts) i) (sym e);
          previous = λ i l. w i l ∙ ap (λ n. marked ts v n (i + (r'.aligned - n))) st;
        }

    -- f + 0·x^s·g is f
    kept-nothing : kept (prime 2) 0 s u v ++ (1 ∷ []) ≡ u ++ (1 ∷ [])
    kept-nothing =
        ext_get_or 0 (kept (prime 2) 0 s u v ++ (1 ∷ [])) (u ++ (1 ∷ []))
        (length-append (kept (prime 2) 0 s u v) (1 ∷ [])
        ∙ ap (λ n. n + 1) (length-kept (prime 2) 0 s u v (omega (arith, raised-fits)))
        ∙ sym (length-append u (1 ∷ [])))
        (λ i _.
        kept-bit 0 s u v bits raised-fits i
        ∙ ap (λ n. n % 2) (omega arith)
        ∙ ℕ.mod-eq_of_lt (led-bits u bits i))

    module _ {r' : Progress} {f' g' : List ℕ} (k : Aligned r g a r' g')
        (m : Added f g' a (r.seen + 1 - r'.aligned) f') where
      aligned_previous :
          (i : ℕ)
          → 64 * a ≤ i
          → bit_of g' i ≡ marked ts v (changed_at r) (i + (r'.aligned - changed_at r))
      aligned_previous = aligned_image (marked ts v (changed_at r)) (changed_at r) k h.least h.previous

      added-current :
          (i : ℕ)
          → 4096 - length ts ≤ i
          → bit_of f' i ≡ image ts (kept (prime 2) 1 s u v ++ (1 ∷ [])) (length ts) i
      added-current i l =
          let z = words_turning_sizes in
          let o = length-append u (1 ∷ []) in
          let w = length-append (kept (prime 2) 1 s u v) (1 ∷ []) in
          let size = length-kept (prime 2) 1 s u v (omega (arith, raised-fits)) in
          let j = i + (r.seen + 1 - r'.aligned) in
          let e : j + (r'.aligned - changed_at r) ≡ i + (r.seen + 1 - changed_at r) =
          omega (arith, h.least, k.more, k.most) in
          let y = h.room in
          let q = h.size in
          let d = h.earlier in
          let n = h.from in
          let x = degree-small h in
          m.bit i (omega arith)
          ∙ ap₂ (λ x y. (x + y) % 2) (h.current i l)
          (aligned_previous j (omega arith)
          ∙ ap (marked ts v (changed_at r)) e
          ∙ marked_off ts v (changed_at r) (i + (r.seen + 1 - changed_at r)) (λ q. omega arith))
          ∙ sym
          (image-upper ts (u ++ (1 ∷ [])) v (kept (prime 2) 1 s u v ++ (1 ∷ [])) (length ts) (changed_at r)
          (r.seen + 1 - changed_at r) s 0 (omega arith)
          (ap (λ n. s + n + (r.seen + 1 - changed_at r)) (sym d)
          ∙ moved-bits r.degree r.earlier r.seen z.0 z.1 b
          ∙ ap (λ n. n + 1) (q ∙ sym size)
          ∙ sym w)
          (omega arith) (omega arith)
          (subst (λ n. s + n ≤ changed_at r + 64) d (raised-bound r.degree r.earlier r.seen z.1))
          (omega arith)
          (λ j.
          kept-bit 1 s u v bits raised-fits j
          ∙ ap₂ (λ x y. (x + y) % 2) (sym (raised-none (u ++ (1 ∷ [])) j)) (omega arith))
          i l)

    pub words_turning_cancelled :
        {r' : Progress} {f' g' : List ℕ}
        → Cancelled r f g a r' f' g'
        → WordsTurning ts (reached_with r' (r'.seen + 1)) f' g' a
    words_turning_cancelled {r'} {f'} {g'} (none z q x y) =
        let e : r'.aligned ≡ r.aligned = ap (λ r. r.aligned) q in
        words_turning_more 0 (ap (negative (prime 2)) (sym cancelled_bit ∙ z) ∙ negative-bit 0 (omega arith))
        (q ∙ ap (aligned_with r) (sym e)) (omega arith) (omega (arith, h.most))
        (subst Room (sym x) h.first) (subst Room (sym y) h.second)
        (λ i l. ap (λ w. bit_of w i) x
        ∙ h.current i l
        ∙ ap (λ f. image ts f (length ts) i) (sym kept-nothing))
        (λ i l.
        ap (λ w. bit_of w i) y
        ∙ h.previous i l
        ∙ ap (λ n. marked ts v (changed_at r) (i + (n - changed_at r))) (sym e))
    words_turning_cancelled {r'} {f'} {g'} (taken z k m) =
        let y = subst (λ n. Added f g' a (n + 1 - r'.aligned) f') (ap (λ r. r.seen) k.numbers) m in
        words_turning_more 1
        (ap (negative (prime 2)) (sym cancelled_bit ∙ z) ∙ negative-bit 1 (omega arith)) k.numbers
        k.more k.most y.words k.words (added-current k y) (aligned_previous k y)

pub cancelled_numbers :
    {r r' : Progress} {f g f' g' : List ℕ} {a : ℕ}
    → Cancelled r f g a r' f' g'
    → (r'.seen ≡ r.seen) × (r'.degree ≡ r.degree)
cancelled_numbers (none z q x y) = (ap (λ r. r.seen) q, ap (λ r. r.degree) q)
cancelled_numbers (taken z k m) = (ap (λ r. r.seen) k.numbers, ap (λ r. r.degree) k.numbers)

-- After the last turn
pub hold_degree : {ts : List ℕ} {r : Progress} {f g : List ℕ} {a : ℕ}
    → length ts ≤ 4096
    → r.seen ≡ length ts
    → WordsHold ts r f g a
    → r.degree ≤ 4096
hold_degree {ts} {r} b e h =
    omega (arith, massey_sizes (prime 2) (inverse (prime 2)) ts r.seen, h.degree)

pub reduced-shortest :
    (ts : List ℕ) {f g w answer work answer' work' : List ℕ} {r : Progress} {a : ℕ}
    → length ts ≤ 4096
    → r.seen ≡ length ts
    → WordsHold ts r f g a
    → WordsReduced ts r w
    → answer' ≡ written (bits_from w (4159 - r.degree) (r.degree + 1)) answer
    → work' ≡ cleared work
    → ShortestRecurrence (prime 2) ts answer work r.degree answer' work'
reduced-shortest ts {w = w} {answer = answer} {r = r} b e h q u c =
    let first = massey_first (prime 2) (inverse (prime 2)) ts in
    record {
      degree = h.degree ∙ ap (λ n. length (massey_after (prime 2) (inverse (prime 2)) ts n).lower) e;
      answer_bytes =
          u
          ∙ ap (λ f. written f answer)
          (ap (bits_from w (4159 - r.degree)) (sym q.size)
          ∙ bits-all w first (4159 - r.degree) (λ i l. q.first i (omega (arith, q.size))));
      work_bytes = c;
    }
