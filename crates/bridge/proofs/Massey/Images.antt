-- A polynomial over GF(2) and its discrepancies as the bits of one number, as the free way has them in words.
--
--   image ts f n i    == bit i of the image of f after n terms. The coefficients stand at the top: the
--                        leading one in bit 4,159, the others below it. The discrepancy of f at t(k), for k
--                        from n on, is bit 4,095 − k. The bits between are 0
--   marked ts g n i   == the same, but bit 4,096 − n is 1: that of the last of the n terms, which g did not
--                        fit
--   image-high, image-between, image-low == the three parts
--   marked-at, marked_off == the marked bit, and the others
--   image-empty       == that of no coefficients is 0
--   image-fits, image_misfits == the image before a term, by the one after it
--   image-upper       == the image of x^b·f + x^a·g is the sum of that of f and that of g, moved down: from
--                        the bit of the last term on
--   image_corrected   == and everywhere, of marked images whose marks meet
--
-- Assumes nothing.
use Prim.Native.Nat.{ℕ, zero, suc, ◌+◌, ◌*◌, ◌-◌, ◌%◌, ◌≤◌, ◌<◌}
use mathlib.Core.Path.{◌≡◌, sym, ap, ap₂, subst, ◌∙◌}
use mathlib.Core.Logic.{◌≢◌}
use mathlib.Core.Bool.{true, false}
use mathlib.Core.List.{List, [], ◌∷◌}
use lib.ListN.{length, get_or, drop, length-drop}
use lib.Seq.{get_or-drop}
use lib.Dec.{T, eqb, ltb, eqb→eq, ltb→lt, lt→ltb, eqb_refl}
use native.Mathlib.Nat.{add-mod, mod-mod, add-mul}
use native.Mathlib.Decide.{dec_lt, ℕ_discrete}
use native.Mathlib.Omega.{arith}
use Rattle.meaning.specs.Field.{prime}
use Rattle.meaning.specs.Sequence.{Sequence, act_at, known}
use Rattle.bridge.proofs.Basics.Searches.{T_true, T_false}
use Rattle.bridge.proofs.Basics.Interpretation.{prime-add, prime-mul, mod-mul-mod}
use Rattle.bridge.proofs.Sequences.Actions.{act_at-nil, act_at-cons}
use Rattle.bridge.proofs.Binary.WordLists.{raised, raised-before, raised_at, length-raised, act-raised}

unfoldable pub image : List ℕ → List ℕ → ℕ → ℕ → ℕ
image ts f n i = elim (ltb i (4160 - length f)) [
  | false ↦ get_or f (i - (4160 - length f)) 0
  | true ↦ elim (ltb i (4096 - n)) [
    | false ↦ 0
    | true ↦ act_at (prime 2) f (known ts) (4096 - length f - i)
  ]
]

unfoldable pub marked : List ℕ → List ℕ → ℕ → ℕ → ℕ
marked ts g n i = elim (eqb i (4096 - n)) [ true ↦ 1 | false ↦ image ts g n i ]

module _ (ts f : List ℕ) (n : ℕ) where
  pub image-high : (i : ℕ) → 4160 - length f ≤ i → image ts f n i ≡ get_or f (i - (4160 - length f)) 0
  unfolding image
  image-high i l = rw (above, image)
    where
      above : ltb i (4160 - length f) ≡ false
      above = T_false (λ e. omega (arith, ltb→lt i (4160 - length f) e))

  pub image-between : (i : ℕ) → i < 4160 - length f → 4096 - n ≤ i → image ts f n i ≡ 0
  unfolding image
  image-between i l h = rw (below, above, image)
    where
      below : ltb i (4160 - length f) ≡ true
      below = T_true (lt→ltb i (4160 - length f) l)

      above : ltb i (4096 - n) ≡ false
      above = T_false (λ e. omega (arith, ltb→lt i (4096 - n) e))

  pub image-low :
      (i : ℕ)
      → i < 4160 - length f
      → i < 4096 - n
      → image ts f n i ≡ act_at (prime 2) f (known ts) (4096 - length f - i)
  unfolding image
  image-low i l h = rw (below, less, image)
    where
      below : ltb i (4160 - length f) ≡ true
      below = T_true (lt→ltb i (4160 - length f) l)

      less : ltb i (4096 - n) ≡ true
      less = T_true (lt→ltb i (4096 - n) h)

  pub marked-at : (i : ℕ) → i ≡ 4096 - n → marked ts f n i ≡ 1
  unfolding marked
  marked-at i e = rw (same, marked)
    where
      same : eqb i (4096 - n) ≡ true
      same = T_true (subst (λ k. T (eqb i k)) e (eqb_refl i))

  pub marked_off : (i : ℕ) → i ≢ 4096 - n → marked ts f n i ≡ image ts f n i
  unfolding marked
  marked_off i h = rw (other, marked)
    where
      other : eqb i (4096 - n) ≡ false
      other = T_false (λ e. h (eqb→eq i (4096 - n) e))

pub image-empty : (ts : List ℕ) (n i : ℕ) → image ts [] n i ≡ 0
image-empty ts n i = elim (dec_lt i 4160) [
  | no b ↦ image-high ts [] n i (omega arith)
  | yes b ↦ elim (dec_lt i (4096 - n)) [
    | no c ↦ image-between ts [] n i b (omega arith)
    | yes c ↦ image-low ts [] n i b c ∙ act_at-nil (prime 2) (known ts) (4096 - 0 - i)
  ]
]

-- One term more
module _ (ts f : List ℕ) (n : ℕ) (l : length f ≤ n + 1) (m : n < 4096) where
  -- the two images differ at most in the bit of the term
  image-step : (i : ℕ) → i ≢ 4095 - n → image ts f n i ≡ image ts f (n + 1) i
  image-step i h = elim (dec_lt i (4160 - length f)) [
    | no b ↦ image-high ts f n i (omega arith) ∙ sym (image-high ts f (n + 1) i (omega arith))
    | yes b ↦ elim (dec_lt i (4095 - n)) [
      | yes c ↦ image-low ts f n i b (omega arith) ∙ sym (image-low ts f (n + 1) i b (omega arith))
      | no c ↦ elim (dec_lt i (4096 - n)) [
        | yes d ↦ absurd (h (omega arith))
        | no d ↦ image-between ts f n i b (omega arith) ∙ sym (image-between ts f (n + 1) i b (omega arith))
      ]
    ]
  ]

  image-term : image ts f n (4095 - n) ≡ act_at (prime 2) f (known ts) (n + 1 - length f)
  image-term =
      image-low ts f n (4095 - n) (omega arith) (omega arith)
      ∙ ap (act_at (prime 2) f (known ts)) (omega arith)

  pub image-fits : act_at (prime 2) f (known ts) (n + 1 - length f) ≡ 0
      → (i : ℕ)
      → image ts f n i ≡ image ts f (n + 1) i
  image-fits e i = elim (ℕ_discrete i (4095 - n)) [
    | no h ↦ image-step i h
    | yes h ↦
        ap (image ts f n) h
        ∙ image-term
        ∙ e
        ∙ sym (ap (image ts f (n + 1)) h ∙ image-between ts f (n + 1) (4095 - n) (omega arith) (omega arith))
  ]

  pub image_misfits : act_at (prime 2) f (known ts) (n + 1 - length f) ≡ 1
      → (i : ℕ)
      → image ts f n i ≡ marked ts f (n + 1) i
  image_misfits e i = elim (ℕ_discrete i (4095 - n)) [
    | no h ↦ image-step i h ∙ sym (marked_off ts f (n + 1) i (λ q. h (omega arith)))
    | yes h ↦ ap (image ts f n) h ∙ image-term ∙ e ∙ sym (marked-at ts f (n + 1) i (omega arith))
  ]

-- The action of a sum
act-head :
    (f : List ℕ) (s : Sequence) (k : ℕ)
    → act_at (prime 2) f s k ≡ (get_or f 0 0 * s k + act_at (prime 2) (drop 1 f) s (suc k)) % 2
act-head [] s k =
    let z : 0 ≡ 0 * s k + 0 = omega arith in
    act_at-nil (prime 2) s k
    ∙ ap (λ n. n % 2) z
    ∙ sym (ap (λ n. (0 * s k + n) % 2) (act_at-nil (prime 2) s (suc k)))
act-head (a ∷ f) s k =
    act_at-cons (prime 2) a f s k
    ∙ prime-add 2 _ _
    ∙ ap (λ n. (n + act_at (prime 2) f s (suc k)) % 2) (prime-mul 2 a (s k))
    ∙ add-mod (a * s k % 2) (act_at (prime 2) f s (suc k)) 2
    ∙ ap (λ n. (n + act_at (prime 2) f s (suc k) % 2) % 2) (mod-mod (a * s k) 2)
    ∙ sym (add-mod (a * s k) (act_at (prime 2) f s (suc k)) 2)

act-sum :
    (n : ℕ) (f g h : List ℕ) (s : Sequence) (k : ℕ)
    → length f ≤ n
    → length g ≤ n
    → length h ≤ n
    → ((i : ℕ) → get_or h i 0 ≡ (get_or f i 0 + get_or g i 0) % 2)
    → act_at (prime 2) h s k ≡ (act_at (prime 2) f s k + act_at (prime 2) g s k) % 2
act-sum zero [] [] [] s k a b c e =
    let z = act_at-nil (prime 2) s k in z ∙ sym (ap₂ (λ x y. (x + y) % 2) z z)
act-sum zero (_ ∷ f) g h s k a b c e = absurd (omega arith)
act-sum zero [] (_ ∷ g) h s k a b c e = absurd (omega arith)
act-sum zero [] [] (_ ∷ h) s k a b c e = absurd (omega arith)
act-sum (suc n) f g h s k a b c e =
    act-head h s k
    ∙ ap₂ (λ x y. (x * s k + y) % 2) (e 0)
    (act-sum n (drop 1 f) (drop 1 g) (drop 1 h) s (suc k) (omega (arith, length-drop 1 f))
    (omega (arith, length-drop 1 g)) (omega (arith, length-drop 1 h))
    (λ i.
    get_or-drop 1 h i 0 ∙ e (1 + i)
    ∙ sym (ap₂ (λ x y. (x + y) % 2) (get_or-drop 1 f i 0) (get_or-drop 1 g i 0))))
    ∙ parts (get_or f 0 0) (get_or g 0 0) (s k) (act_at (prime 2) (drop 1 f) s (suc k))
    (act_at (prime 2) (drop 1 g) s (suc k))
    ∙ sym (ap₂ (λ x y. (x + y) % 2) (act-head f s k) (act-head g s k))
  where
    parts : (x y t u v : ℕ)
        → ((x + y) % 2 * t + (u + v) % 2) % 2 ≡ ((x * t + u) % 2 + (y * t + v) % 2) % 2
    parts x y t u v =
        let e : (x + y) * t + (u + v) ≡ x * t + u + (y * t + v) = omega (arith, add-mul x y t) in
        add-mod ((x + y) % 2 * t) ((u + v) % 2) 2
        ∙ ap₂ (λ a b. (a + b) % 2) (mod-mul-mod (x + y) t 2) (mod-mod (u + v) 2)
        ∙ sym (add-mod ((x + y) * t) (u + v) 2)
        ∙ ap (λ n. n % 2) e
        ∙ add-mod (x * t + u) (y * t + v) 2

-- The sum of the images
module _ (ts f g h : List ℕ) (n c s a b : ℕ) (degree : length h ≡ b + length f)
    (moved : a + length g + s ≡ length h) (few : length h ≤ n + 1) (most : n ≤ 4096)
    (within : a + length g ≤ c + 64) (shift : n ≤ c + s)
    (bits : (j : ℕ) → get_or h j 0 ≡ (get_or (raised b f) j 0 + get_or (raised a g) j 0) % 2) where
  sum-high :
      (i : ℕ)
      → 4160 - length h ≤ i
      → image ts h n i ≡ (image ts f n i + image ts g c (i + s)) % 2
  sum-high i l =
      image-high ts h n i l
      ∙ bits (i - (4160 - length h))
      ∙ sym (ap₂ (λ x y. (x + y) % 2) first second)
    where
      first : image ts f n i ≡ get_or (raised b f) (i - (4160 - length h)) 0
      first = elim (dec_lt i (4160 - length f)) [
        | yes d ↦
            image-between ts f n i d (omega arith)
            ∙ sym (raised-before b f (i - (4160 - length h)) (omega arith))
        | no d ↦
            image-high ts f n i (omega arith)
            ∙ sym
            (raised_at b f (i - (4160 - length h)) (omega arith) ∙ ap (λ j. get_or f j 0) (omega arith))
      ]

      second : image ts g c (i + s) ≡ get_or (raised a g) (i - (4160 - length h)) 0
      second = elim (dec_lt (i + s) (4160 - length g)) [
        | yes d ↦
            image-between ts g c (i + s) d (omega arith)
            ∙ sym (raised-before a g (i - (4160 - length h)) (omega arith))
        | no d ↦
            image-high ts g c (i + s) (omega arith)
            ∙ sym
            (raised_at a g (i - (4160 - length h)) (omega arith) ∙ ap (λ j. get_or g j 0) (omega arith))
      ]

  sum-between :
      (i : ℕ)
      → i < 4160 - length h
      → 4096 - n ≤ i
      → image ts h n i ≡ (image ts f n i + image ts g c (i + s)) % 2
  sum-between i l k =
      image-between ts h n i l k
      ∙ sym
      (ap₂ (λ x y. (x + y) % 2) (image-between ts f n i (omega arith) k)
      (image-between ts g c (i + s) (omega arith) (omega arith)))

  -- from the bit of the last term on, whatever the shift
  pub image-upper : (i : ℕ) → 4096 - n ≤ i → image ts h n i ≡ (image ts f n i + image ts g c (i + s)) % 2
  image-upper i l = elim (dec_lt i (4160 - length h)) [
    | no d ↦ sum-high i (omega arith)
    | yes d ↦ sum-between i d l
  ]

  image-sum : n ≡ c + s → (i : ℕ) → image ts h n i ≡ (image ts f n i + image ts g c (i + s)) % 2
  image-sum e i = elim (dec_lt i (4096 - n)) [
    | no d ↦ image-upper i (omega arith)
    | yes d ↦
        let k = 4096 - length h - i in
        image-low ts h n i (omega arith) d
        ∙ act-sum (length h + length g) (raised b f) (raised a g) h (known ts) k
        (omega (arith, length-raised b f)) (omega (arith, length-raised a g)) (omega arith) bits
        ∙ ap₂ (λ x y. (x + y) % 2)
        (act-raised b f (known ts) k
        ∙ ap (act_at (prime 2) f (known ts)) (omega arith)
        ∙ sym (image-low ts f n i (omega arith) d))
        (act-raised a g (known ts) k
        ∙ ap (act_at (prime 2) g (known ts)) (omega arith)
        ∙ sym (image-low ts g c (i + s) (omega arith) (omega arith)))
  ]

  pub image_corrected : n ≡ c + s
      → (i : ℕ)
      → image ts h n i ≡ (marked ts f n i + marked ts g c (i + s)) % 2
  image_corrected e i = elim (ℕ_discrete i (4096 - n)) [
    | yes d ↦
        image-between ts h n i (omega arith) (omega arith)
        ∙ sym (ap₂ (λ x y. (x + y) % 2) (marked-at ts f n i d) (marked-at ts g c (i + s) (omega arith)))
    | no d ↦
        image-sum e i
        ∙ sym
        (ap₂ (λ x y. (x + y) % 2) (marked_off ts f n i d) (marked_off ts g c (i + s) (λ q. d (omega arith))))
  ]
