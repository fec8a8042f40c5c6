-- The state of the model over GF(2) in words and numbers, at the start and after each step.
--
--   hold_start       == what stands at the start is the state after no terms
--   hold_reached, hold_misfit == after the terms that f fits, and at the first that it does not
--   hold_aligned, misfit_aligned == g is moved down by whole words
--   hold_kept, hold_changed == a step: the degree stays; it changes
--   coefficient-bit, lower-bits == the coefficients in an image, which are 0 or 1
--
-- Assumes nothing.
use Prim.Native.Nat.{ℕ, zero, suc, ◌+◌, ◌-◌, ◌*◌, ◌/◌, ◌%◌, ◌≤◌, ◌<◌}
use mathlib.Core.Path.{◌≡◌, refl, sym, ap, ap₂, subst, ◌∙◌}
use mathlib.Core.Logic.{◌≢◌}
use mathlib.Core.List.{List, [], ◌∷◌, ◌++◌}
use native.Mathlib.Numerals.{add-one}
use native.Mathlib.Nat.{mod-lt, mod-mod, div-add-mod'}
use native.Mathlib.Decide.{dec_lt, ℕ_discrete}
use native.Mathlib.Omega.{arith}
use lib.ListN.{length, get_or, set, length-set, length-append, get_or-append, get_or-eq_default}
use lib.Seq.{get_or-set_same, get_or-set_other}
use lib.Arith.{lt_of_le-ne}
use Rattle.meaning.specs.Field.{prime, negative}
use Rattle.meaning.specs.Sequence.{act_at, known}
use Rattle.bridge.proofs.Basics.Interpretation.{prime-add, prime-mul}
use Rattle.bridge.proofs.Sequences.Actions.{act_at-nil, act_at-cons, known-get_or}
use Rattle.bridge.proofs.Lists.Monics.{digit}
use Rattle.bridge.proofs.Binary.Bits.{binary-is_field}
use Rattle.bridge.proofs.Binary.WordLists.{raised, raised-none, raised-same, digit-below, digit-zero}
use Rattle.bridge.proofs.Binary.WordLists.{digit-beyond}
use Rattle.bridge.proofs.Binary.WordLists.{digit-top, digit_shl_low}
use Rattle.bridge.proofs.Massey.Bits.{kept-bit, changed-bit, negative-bit, discrepancy-bits, discrepancy-one}
use Rattle.bridge.proofs.Massey.Images.{image, marked, image-high, image-between, image-low, image-empty}
use Rattle.bridge.proofs.Massey.Images.{marked-at, marked_off, image-fits, image_misfits, image_corrected}
use Rattle.bridge.proofs.Massey.Steps.{MasseyState, polynomial_of, discrepancy, correction, correction_at}
use Rattle.bridge.proofs.Massey.Steps.{kept, changed, length-kept, length-changed, kept_state, changed_state}
use Rattle.bridge.proofs.Massey.Steps.{massey_start, massey_after, massey_step, after-zero, after-suc}
use Rattle.bridge.proofs.Massey.Steps.{step-zero, step_kept, step-changed, MasseySizes, massey_sizes}
use Rattle.arith.specs.Inverse.{inverse}
use Rattle.arith.proofs.Inverse.{inverse-one}
use Rattle.massey.specs.declared.binary.Progress.{Progress}
use Rattle.massey.specs.words.Words.{bit_of, Room, TermsPacked, NextOne, Added, Exchanged}
use Rattle.massey.specs.binary.Binary.{changed_at, reached_with, changed_with, Aligned, WordsStand}
use Rattle.massey.specs.binary.Binary.{WordsHold, Misfits, WordsStepped}
use Rattle.massey.proofs.step.Halves.{kept_by, changed_by}
use Rattle.massey.proofs.words.Moving.{bit_word, words-beyond}
use Rattle.massey.proofs.binary.Aligning.{aligned_image}

-- The start: f is 1, and g is 0
module _ (ts f g : List ℕ) (p : TermsPacked ts f) (l : length g ≡ 66)
    (z : (j : ℕ) → get_or g j 0 ≡ 0) where
  abbrev first : List ℕ
  first = set f 64 9223372036854775808

  abbrev second : List ℕ
  second = set g 64 1

  first-words : Room first
  first-words =
      record {
        size = length-set f 64 9223372036854775808 ∙ p.size;
        last = get_or-set_other f 64 65 9223372036854775808 0 (λ q. omega arith) ∙ p.above 65 (omega arith);
      }

  second-words : Room second
  second-words =
      record {
        size = length-set g 64 1 ∙ l;
        last = get_or-set_other g 64 65 1 0 (λ q. omega arith) ∙ z 65;
      }

  -- the bits of word 64
  first-top : (r : ℕ) → r < 64 → bit_of first (4096 + r) ≡ digit 2 9223372036854775808 r
  first-top r b =
      bit_word first 64 r b
      ∙ ap (λ w. digit 2 w r) (get_or-set_same f 64 9223372036854775808 0 (omega (arith, p.size)))

  second-top : (r : ℕ) → r < 64 → bit_of second (4096 + r) ≡ digit 2 1 r
  second-top r b =
      bit_word second 64 r b ∙ ap (λ w. digit 2 w r) (get_or-set_same g 64 1 0 (omega (arith, l)))

  action_one : (k : ℕ) → act_at (prime 2) (1 ∷ []) (known ts) k ≡ get_or ts k 0 % 2
  action_one k =
      let e : 1 * known ts k ≡ known ts k = omega arith in
      act_at-cons (prime 2) 1 [] (known ts) k
      ∙ prime-add 2 _ _
      ∙ ap₂ (λ a b. (a + b) % 2) (prime-mul 2 1 (known ts k) ∙ ap (λ n. n % 2) e)
      (act_at-nil (prime 2) (known ts) (suc k))
      ∙ ap (λ n. n % 2) (omega arith)
      ∙ mod-mod (known ts k) 2
      ∙ ap (λ n. n % 2) (known-get_or ts k)

  start-current : (i : ℕ) → bit_of first i ≡ image ts (1 ∷ []) 0 i
  start-current i = elim (dec_lt i 4096) [
    | yes b ↦
        let o = div-add-mod' i 64 in
        let k = mod-lt i {m = 64} (omega arith) in
        let e : i ≡ 4095 - (4095 - i) = omega arith in
        ap (λ w. digit 2 w (i % 64)) (get_or-set_other f 64 (i / 64) 9223372036854775808 0 (λ q. omega arith))
        ∙ ap (bit_of f) e
        ∙ p.bit (4095 - i) (omega arith)
        ∙ sym (image-low ts (1 ∷ []) 0 i (omega arith) (omega arith) ∙ action_one (4096 - 1 - i))
    | no b ↦ elim (dec_lt i 4160) [
      | no c ↦
          words-beyond first-words i (omega arith)
          ∙ sym
          (image-high ts (1 ∷ []) 0 i (omega arith)
          ∙ get_or-eq_default (1 ∷ []) 0 {n = i - (4160 - 1)} (omega arith))
      | yes c ↦
          let e : i ≡ 4096 + (i - 4096) = omega arith in
          ap (bit_of first) e
          ∙ first-top (i - 4096) (omega arith)
          ∙ top (i - 4096) (omega arith) (ℕ_discrete (i - 4096) 63)
          ∙ ap (image ts (1 ∷ []) 0) (sym e)
    ]
  ]
    where
      top : (r : ℕ) → r < 64 → Dec (r ≡ 63) → digit 2 9223372036854775808 r ≡ image ts (1 ∷ []) 0 (4096 + r)
      top r b (yes e) =
          ap (digit 2 9223372036854775808) e
          ∙ digit-top 63 (omega arith) (omega arith)
          ∙ sym (ap (λ r. image ts (1 ∷ []) 0 (4096 + r)) e ∙ image-high ts (1 ∷ []) 0 4159 (omega arith))
      top r b (no e) =
          let l = lt_of_le-ne {k = 63} (omega arith) e in
          digit_shl_low 1 63 r b l
          ∙ sym (image-between ts (1 ∷ []) 0 (4096 + r) (omega arith) (omega arith))

  start_previous : (i : ℕ) → bit_of second i ≡ marked ts [] 0 i
  start_previous i = elim (ℕ_discrete i 4096) [
    | yes e ↦
        ap (bit_of second) e
        ∙ second-top 0 (omega arith)
        ∙ digit-top 0 (omega arith) (omega arith)
        ∙ sym (marked-at ts [] 0 i e)
    | no e ↦ zeros e (dec_lt i 4096) (dec_lt i 4160) ∙ sym (marked_off ts [] 0 i e ∙ image-empty ts 0 i)
  ]
    where
      zeros : i ≢ 4096 → Dec (i < 4096) → Dec (i < 4160) → bit_of second i ≡ 0
      zeros e (yes b) _ =
          let o = div-add-mod' i 64 in
          ap (λ w. digit 2 w (i % 64)) (get_or-set_other g 64 (i / 64) 1 0 (λ q. omega arith) ∙ z (i / 64))
          ∙ digit-zero (i % 64)
      zeros e (no b) (no c) = words-beyond second-words i (omega arith)
      zeros e (no b) (yes c) =
          let q : i ≡ 4096 + (i - 4096) = omega arith in
          ap (bit_of second) q
          ∙ second-top (i - 4096) (omega arith)
          ∙ digit-beyond {d = 1} (omega arith)
          (lt_of_le-ne {k = i - 4096} (omega arith) (λ n. e (omega arith)))

  pub hold_start :
      (a : ℕ)
      → WordsHold ts (record { seen = 0; degree = 0; earlier = 0; aligned = 0 }) first second a
  unfolding massey_start
  hold_start a =
      subst (λ x. WordsStand ts x (record { seen = 0; degree = 0; earlier = 0; aligned = 0 }) first second a)
      (sym (after-zero (prime 2) (inverse (prime 2)) ts))
      (record {
        degree = refl;
        earlier = refl;
        one = refl;
        least = omega arith;
        most = omega arith;
        first = first-words;
        second = second-words;
        current = λ i _. start-current i;
        previous = λ i _.
            let e : i ≡ i + 0 = omega arith in start_previous i ∙ ap (marked ts [] 0) e;
      })

-- The coefficients of an image
module _ (ts w lower : List ℕ) (n o : ℕ) (b : o + length lower ≤ 4159)
    (h : (i : ℕ) → o ≤ i → bit_of w i ≡ image ts (lower ++ (1 ∷ [])) n i) where
  pub coefficient-bit : (i : ℕ) → bit_of w (4159 - length lower + i) ≡ get_or (lower ++ (1 ∷ [])) i 0
  coefficient-bit i =
      let l = length-append lower (1 ∷ []) in
      let k = 4159 - length lower + i in
      h k (omega arith)
      ∙ image-high ts (lower ++ (1 ∷ [])) n k (omega arith)
      ∙ ap (λ j. get_or (lower ++ (1 ∷ [])) j 0) (omega arith)

  pub lower-bits : (i : ℕ) → get_or lower i 0 < 2
  lower-bits i = elim (dec_lt i (length lower)) [
    | yes c ↦
        let k = 4159 - length lower + i in
        subst (λ n. n < 2) (coefficient-bit i ∙ get_or-append lower (1 ∷ []) 0 i c)
        (digit-below (get_or w (k / 64) 0) (k % 64))
    | no c ↦ subst (λ n. n < 2) (sym (get_or-eq_default lower 0 (omega arith))) (omega arith)
  ]

-- Terms that f fits
after_skip :
    (ts : List ℕ) (n z : ℕ)
    → ((i : ℕ)
    → i < z
    → discrepancy (prime 2) ts (n + i) (massey_after (prime 2) (inverse (prime 2)) ts n).lower ≡ 0)
    → massey_after (prime 2) (inverse (prime 2)) ts (n + z) ≡ massey_after (prime 2) (inverse (prime 2)) ts n
after_skip ts n zero h = ap (massey_after (prime 2) (inverse (prime 2)) ts) (omega arith)
after_skip ts n (suc z) h =
    let e : n + suc z ≡ suc (n + z) = omega arith in
    ap (massey_after (prime 2) (inverse (prime 2)) ts) e
    ∙ after-suc (prime 2) (inverse (prime 2)) ts (n + z)
    ∙ ap (massey_step (prime 2) (inverse (prime 2)) ts (n + z)) (after_skip ts n z (λ i l. h i (omega arith)))
    ∙ step-zero (prime 2) (inverse (prime 2)) ts (n + z)
    (massey_after (prime 2) (inverse (prime 2)) ts n) (h z (omega arith))

image_skip :
    (ts f : List ℕ) (n z : ℕ)
    → length f ≤ n + 1
    → n + z ≤ 4096
    → ((i : ℕ) → i < z → act_at (prime 2) f (known ts) (n + i + 1 - length f) ≡ 0)
    → (i : ℕ)
    → image ts f n i ≡ image ts f (n + z) i
image_skip ts f n zero l m h i = let e : n ≡ n + 0 = omega arith in ap (λ n. image ts f n i) e
image_skip ts f n (suc z) l m h i =
    let e : n + z + 1 ≡ n + suc z = omega arith in
    image_skip ts f n z l (omega arith) (λ i b. h i (omega arith)) i
    ∙ image-fits ts f (n + z) (omega arith) (omega arith) (h z (omega arith)) i
    ∙ ap (λ n. image ts f n i) e

module _ {ts : List ℕ} {r : Progress} {f g : List ℕ} {a : ℕ} (h : WordsHold ts r f g a) where
  abbrev x : MasseyState
  x = massey_after (prime 2) (inverse (prime 2)) ts r.seen

  sizes : MasseySizes r.seen x
  sizes = massey_sizes (prime 2) (inverse (prime 2)) ts r.seen

  length-polynomial : length (polynomial_of x) ≡ length x.lower + 1
  length-polynomial = length-append x.lower (1 ∷ [])

  -- a discrepancy as an action, and as a bit
  action_discrepancy :
      (n : ℕ)
      → r.seen ≤ n
      → act_at (prime 2) (polynomial_of x) (known ts) (n + 1 - length (polynomial_of x))
      ≡ discrepancy (prime 2) ts n x.lower
  action_discrepancy n l =
      ap (act_at (prime 2) (polynomial_of x) (known ts)) (omega (arith, length-polynomial))
      ∙ discrepancy-bits ts n x.lower (omega (arith, sizes))

  bit_action :
      (n : ℕ)
      → r.seen ≤ n
      → 64 * a + n < 4096
      → bit_of f (4095 - n) ≡ act_at (prime 2) (polynomial_of x) (known ts) (n + 1 - length (polynomial_of x))
  bit_action n l b =
      h.current (4095 - n) (omega arith)
      ∙ image-low ts (polynomial_of x) r.seen (4095 - n) (omega (arith, length-polynomial, sizes))
      (omega arith)
      ∙ ap (act_at (prime 2) (polynomial_of x) (known ts)) (omega arith)

  module _ {n m : ℕ} (b : 64 * a + m ≤ 4096) (k : NextOne f r.seen m n) where
    zero-acts :
        (i : ℕ)
        → i < n - r.seen
        → act_at (prime 2) (polynomial_of x) (known ts) (r.seen + i + 1 - length (polynomial_of x)) ≡ 0
    zero-acts i l =
        let c = k.high in
        let n = r.seen + i in
        sym (bit_action n (omega arith) (omega arith)) ∙ k.zeros n (omega arith) (omega arith)

    after-reached : massey_after (prime 2) (inverse (prime 2)) ts n ≡ x
    after-reached =
        let e : n ≡ r.seen + (n - r.seen) = omega (arith, k.low) in
        ap (massey_after (prime 2) (inverse (prime 2)) ts) e
        ∙ after_skip ts r.seen (n - r.seen)
        (λ i l. sym (action_discrepancy (r.seen + i) (omega arith)) ∙ zero-acts i l)

    pub hold_reached : {r' : Progress} → r' ≡ reached_with r n → WordsHold ts r' f g a
    hold_reached {r'} u =
        subst (λ r. WordsHold ts r f g a) (sym u)
        (subst (λ x. WordsStand ts x (reached_with r n) f g a) (sym after-reached)
        (record {
          degree = h.degree;
          earlier = h.earlier;
          one = h.one;
          least = h.least;
          most = omega (arith, h.most, k.low);
          first = h.first;
          second = h.second;
          current = λ i l.
              let e : r.seen + (n - r.seen) ≡ n = omega (arith, k.low) in
              h.current i l
              ∙ image_skip ts (polynomial_of x) r.seen (n - r.seen)
              (omega (arith, length-polynomial, sizes))
              (omega (arith, k.high)) zero-acts i
              ∙ ap (λ n. image ts (polynomial_of x) n i) e;
          previous = h.previous;
        }))

    pub hold_misfit : {r' : Progress} → n < m → r' ≡ reached_with r n → Misfits ts r'
    hold_misfit {r'} l u =
        let one : 1 ≡ discrepancy (prime 2) ts n x.lower =
        sym (k.one l) ∙ bit_action n k.low (omega arith) ∙ action_discrepancy n k.low in
        subst (Misfits ts) (sym u)
        (λ z.
        let none : discrepancy (prime 2) ts n x.lower ≡ 0 =
        ap (λ x. discrepancy (prime 2) ts n x.lower) (sym after-reached) ∙ z in
        absurd (omega arith))

-- g is moved down
module _ (ts : List ℕ) {r r' : Progress} {g g' : List ℕ} {a : ℕ} (k : Aligned r g a r' g') where
  pub hold_aligned : {f : List ℕ} → WordsHold ts r f g a → WordsHold ts r' f g' a
  hold_aligned {f} h =
      subst (λ r. WordsHold ts r f g' a) (sym k.numbers)
      (record {
        degree = h.degree;
        earlier = h.earlier;
        one = h.one;
        least = omega (arith, h.least, k.more);
        most = k.most;
        first = h.first;
        second = k.words;
        current = h.current;
        previous = aligned_image (marked ts _ (changed_at r)) (changed_at r) k h.least h.previous;
      })

  pub misfit_aligned : Misfits ts r → Misfits ts r'
  misfit_aligned h = subst (Misfits ts) (sym k.numbers) h

-- The factor of the correction
correction-one : correction (prime 2) 1 1 ≡ 1
unfolding correction
correction-one = ap (negative (prime 2)) (prime-mul 2 1 1) ∙ negative-bit 1 (omega arith)

-- A step
module _ (ts : List ℕ) {r : Progress} {f g : List ℕ} {a : ℕ} (h : WordsHold ts r f g a)
    (nonzero : Misfits ts r) (b : 64 * a + r.seen < 4096) where
  abbrev now' : MasseyState
  now' = massey_after (prime 2) (inverse (prime 2)) ts r.seen

  abbrev lower : List ℕ
  lower = now'.lower

  abbrev earlier : List ℕ
  earlier = now'.previous

  counts : MasseySizes r.seen now'
  counts = massey_sizes (prime 2) (inverse (prime 2)) ts r.seen

  next : massey_after (prime 2) (inverse (prime 2)) ts (r.seen + 1)
      ≡ massey_step (prime 2) (inverse (prime 2)) ts r.seen now'
  next =
      ap (massey_after (prime 2) (inverse (prime 2)) ts) (add-one r.seen)
      ∙ after-suc (prime 2) (inverse (prime 2)) ts r.seen

  stands-stepped :
      {y : MasseyState} {f' g' : List ℕ} {r' r'' : Progress}
      → massey_after (prime 2) (inverse (prime 2)) ts (r.seen + 1) ≡ y
      → r' ≡ r''
      → r''.seen ≡ r.seen + 1
      → WordsStand ts y r'' f' g' a
      → WordsStepped ts r r' f' g' a
  stands-stepped {y} {f'} {g'} {r'} {r''} e u v s =
      subst (λ r'. WordsStepped ts r r' f' g' a) (sym u)
      (record {
        seen = v;
        holds =
            subst (λ z. WordsStand ts z r'' f' g' a)
            (sym (ap (massey_after (prime 2) (inverse (prime 2)) ts) v ∙ e)) s;
      })

  correction_at-one : correction_at (prime 2) ts r.seen now' ≡ 1
  correction_at-one =
      ap₂ (correction (prime 2)) (discrepancy-one ts r.seen lower nonzero) h.one ∙ correction-one

  bits : (i : ℕ) → get_or lower i 0 < 2
  bits = lower-bits ts f lower r.seen (64 * a) (omega (arith, counts)) h.current

  -- the former image of f, as a marked one
  marked-current :
      (i : ℕ)
      → image ts (lower ++ (1 ∷ [])) r.seen i ≡ marked ts (lower ++ (1 ∷ [])) (r.seen + 1) i
  marked-current =
      let l = length-append lower (1 ∷ []) in
      image_misfits ts (lower ++ (1 ∷ [])) r.seen (omega (arith, counts)) (omega arith)
      (action_discrepancy h r.seen (omega arith) ∙ discrepancy-one ts r.seen lower nonzero)

  -- the words of f after a correction, for the polynomial y that has the bits of x^k·f + x^j·g
  corrected_image :
      {f' : List ℕ} (y : List ℕ) (j k : ℕ)
      → Added f g a (r.seen + 1 - r.aligned) f'
      → length y ≡ k + length (lower ++ (1 ∷ []))
      → j + length earlier + (r.seen + 1 - changed_at r) ≡ length y
      → length y ≤ r.seen + 2
      → j + length earlier ≤ changed_at r + 64
      → ((i : ℕ) → get_or y i 0 ≡ (get_or (raised k (lower ++ (1 ∷ []))) i 0 + get_or (raised j earlier) i
      0) % 2)
      → (i : ℕ)
      → 64 * a ≤ i
      → bit_of f' i ≡ image ts y (r.seen + 1) i
  corrected_image y j k u d m s w e i l =
      let n = r.seen + 1 in
      let c = changed_at r in
      let z : c ≤ n = omega (arith, h.least, h.most) in
      let q : i + (n - r.aligned) + (r.aligned - c) ≡ i + (n - c) = omega (arith, h.least, h.most) in
      u.bit i l
      ∙ ap₂ (λ x y. (x + y) % 2) (h.current i l ∙ marked-current i)
      (h.previous (i + (n - r.aligned)) (omega arith) ∙ ap (marked ts earlier c) q)
      ∙ sym
      (image_corrected ts (lower ++ (1 ∷ [])) earlier y n c (n - c) j k d m (omega arith) (omega arith) w
      (omega arith) e (omega arith) i)

  abbrev m : ℕ
  m = r.seen + 1 - r.degree

  kept_state_lem : m ≤ r.degree → massey_after (prime 2) (inverse (prime 2)) ts (r.seen + 1)
      ≡ kept_by (prime 2) 1 (r.degree - m) now'
  unfolding kept_state
  kept_state_lem l =
      let s : 2 * length lower - suc r.seen ≡ r.degree - m = omega (arith, counts, h.degree) in
      next
      ∙ step_kept (prime 2) (inverse (prime 2)) ts r.seen now' nonzero (omega (arith, counts, h.degree))
      ∙ ap₂ (λ c s. kept_by (prime 2) c s now') correction_at-one s

  -- f + x^(L−m)·g
  pub hold_kept :
      {f' : List ℕ} {r' : Progress}
      → m ≤ r.degree
      → Added f g a (r.seen + 1 - r.aligned) f'
      → r' ≡ reached_with r (r.seen + 1)
      → WordsStepped ts r r' f' g a
  hold_kept {f'} l u e =
      let s = r.degree - m in
      let d = h.degree in
      let p = h.earlier in
      let i : s + length earlier ≤ length lower = omega (arith, counts) in
      let size = length-kept (prime 2) 1 s lower earlier (omega arith) in
      let n = length-append lower (1 ∷ []) in
      let o = length-append (kept (prime 2) 1 s lower earlier) (1 ∷ []) in
      stands-stepped (kept_state_lem l) e refl
      (record {
        degree = d ∙ sym size;
        earlier = p;
        one = h.one;
        least = h.least;
        most = omega (arith, h.most);
        first = u.words;
        second = h.second;
        current =
            corrected_image (kept (prime 2) 1 s lower earlier ++ (1 ∷ [])) s 0 u (omega arith)
            (omega (arith, counts)) (omega (arith, counts)) (omega arith)
            (λ j.
            kept-bit 1 s lower earlier bits i j
            ∙ ap₂ (λ x y. (x + y) % 2) (sym (raised-none (lower ++ (1 ∷ [])) j)) (omega arith));
        previous = h.previous;
      })

  changed_state_lem : r.degree < m → massey_after (prime 2) (inverse (prime 2)) ts (r.seen + 1)
      ≡ changed_by (prime 2) 1 (m - r.degree) 1 now'
  unfolding changed_state
  changed_state_lem l =
      let s : suc r.seen - 2 * length lower ≡ m - r.degree = omega (arith, counts, h.degree) in
      next
      ∙ step-changed (prime 2) (inverse (prime 2)) ts r.seen now' nonzero
      (omega (arith, counts, h.degree))
      ∙ ap₂ (λ c i. changed_by (prime 2) c (suc r.seen - 2 * length lower) i now') correction_at-one
      (ap (inverse (prime 2)) (discrepancy-one ts r.seen lower nonzero) ∙ inverse-one binary-is_field)
      ∙ ap (λ s. changed_by (prime 2) 1 s 1 now') s

  -- x^(m−L)·f + g, and the former f becomes g
  pub hold_changed :
      {f' g' : List ℕ} {r' : Progress}
      → r.degree < m
      → Exchanged f g a (r.seen + 1 - r.aligned) f' g'
      → r' ≡ changed_with r
      → WordsStepped ts r r' f' g' a
  hold_changed {f'} {g'} l u e =
      let s = m - r.degree in
      let d = h.degree in
      let p = h.earlier in
      let i : length earlier ≤ s + length lower = omega (arith, counts) in
      let size = length-changed (prime 2) 1 s lower earlier in
      let n = length-append lower (1 ∷ []) in
      let o = length-append (changed (prime 2) 1 s lower earlier) (1 ∷ []) in
      let y = changed (prime 2) 1 s lower earlier ++ (1 ∷ []) in
      let k = length y - length earlier - (r.seen + 1 - changed_at r) in
      stands-stepped (changed_state_lem l) e refl
      (record {
        degree = omega arith;
        earlier = omega arith;
        one = refl;
        least = omega arith;
        most = omega arith;
        first = u.added.words;
        second = u.words;
        current =
            corrected_image (changed (prime 2) 1 s lower earlier ++ (1 ∷ [])) k s u.added (omega arith)
            (omega (arith, counts)) (omega (arith, counts)) (omega (arith, counts))
            (λ j.
            changed-bit 1 s lower earlier bits i j
            ∙ ap (λ x. (get_or (raised s (lower ++ (1 ∷ []))) j 0 + x) % 2)
            (times-one (get_or earlier j 0)
            ∙ sym (raised-same k earlier j (λ t. omega (arith, counts)))));
        previous = λ i t.
            let z : changed_at (changed_with r) ≡ r.seen + 1 = omega (arith, counts) in
            let q : i ≡ i + (r.seen + 1 - changed_at (changed_with r)) = omega arith in
            u.bit i t
            ∙ h.current i t
            ∙ marked-current i
            ∙ ap₂ (marked ts (lower ++ (1 ∷ []))) (sym z) q;
      })
    where
      times-one : (n : ℕ) → 1 * n ≡ n
      times-one n = omega arith
