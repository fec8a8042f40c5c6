-- The action of a list on known terms and on a period, as lists of numbers.
--
--   all_zero ts     == every number of the list is 0; true on the empty list
--   length-act_on_known == it has m − deg g places
--   act_on_known-cut == on a stretch of a sequence it is a stretch of the action on the sequence
--   act_on_known-take, act_on_known-short == on the first n terms; where there are too few terms it is empty
--   act_on_known-elements, act_on_known-one, act_on_known-times == the values are elements of the field; 1
-- leaves
--                     elements as they are; a product acts as its factors one after the other
--   act_on_known-power-add == so do powers
--   annihilates_known-all == g annihilates the terms exactly where all of its action on them is 0
--   known-power    == higher powers of what annihilates annihilate too
--   known_vanish   == terms that a monic list annihilates, the first of them 0 as many as its degree, are 0
--   known-part     == Lemma 5 of document 001: if h·g annihilates the terms, and g the first deg h + deg g of
--                     them, then g annihilates them all; `endless-part` is that for an endless sequence
--   act_on_period-…, annihilates_period-all == the same for a period, with as many places as terms
--   stride_on_known F g q ts, stride_on_period F g q ts == the action with the stride q on known terms, at
-- their
--                     m − q·deg g places, and on a period
--   act_on_known_stride, act_on_period_stride, annihilates_period_stride == the power p^w acts with the
-- stride
--                     p^w and numbers raised to p^w
--
-- Subtraction is truncated, so that lists that are too short are no exception.
-- Assumes nothing.
use Prim.Native.Nat.{ℕ, zero, suc, ◌+◌, ◌*◌, ◌-◌, ◌^◌, ◌%◌, ◌≤◌, ◌<◌, min}
use mathlib.Core.Path.{◌≡◌, refl, sym, ap, ap₂, subst, ◌∙◌}
use mathlib.Core.Bool.{Bool, true, false}
use mathlib.Core.List.{List, [], ◌∷◌, map}
use native.Mathlib.Nat as ℕ
use native.Mathlib.Decide.{dec_le}
use native.Mathlib.Omega.{arith}
use lib.ListN.{length, get_or, take, replicate, length-take, length-map, length-replicate, get_or-replicate}
use lib.Seq.{get_or-take}
use lib.Dec.{T, eqb, eqb→eq, eqb_refl}
use Rattle.meaning.specs.Search.{range, holds_for_all}
use Rattle.meaning.specs.Field.{Field, are_elements}
use Rattle.meaning.specs.Polynomial.{Polynomial, degree, is_monic_over, times, power}
use Rattle.meaning.specs.Sequence.{Sequence, act_at, known, periodic, annihilates_known, annihilates_period}
use Rattle.meaning.specs.Sequence.{act_on_known, act_on_period, AnnihilatesEndless, cut}
use Rattle.algebra.proofs.Sequences.Action.{act, Agree, Kills}
use Rattle.algebra.proofs.Sequences.Annihilator.{kills-part}
use Rattle.algebra.proofs.Sequences.Continuation.{monic-zeros}
use Rattle.bridge.proofs.Basics.Searches.{all_nil, all_cons, all_uncons}
use Rattle.bridge.proofs.Basics.Interpretation.{number-mul-zero, number-add-zero, size-positive}
use Rattle.bridge.proofs.Basics.Interpretation.{IsField}
use Rattle.bridge.proofs.Basics.Interpretation.{element-zero-only}
use Rattle.bridge.proofs.Lists.Polynomials.{poly-times, poly, monic-poly, monic-nonempty, get_or-below}
use Rattle.bridge.proofs.Lists.Polynomials.{degree-times, degree-length, length-degree}
use Rattle.bridge.proofs.Lists.Products.{power-monic, power-nonempty, degree-power, power-add}
use Rattle.bridge.proofs.Lists.Products.{power-zero-list}
use Rattle.bridge.proofs.Lists.Spread.{raise}
use Rattle.bridge.proofs.Sequences.Actions.{endless-kills, kills-endless, known-stretch, act_stride-nil}
use Rattle.bridge.proofs.Sequences.Actions.{act_stride-cons, act_stride-below, sequence, act_at-zero}
use Rattle.bridge.proofs.Sequences.Actions.{known-places}
use Rattle.bridge.proofs.Sequences.Actions.{act_at-below, act_at_local, act_at-times, act_at-one}
use Rattle.bridge.proofs.Sequences.Actions.{act_at-zeros}
use Rattle.bridge.proofs.Sequences.Actions.{act_at-cut, act_stride, act_at-power_stride}
use Rattle.bridge.proofs.Sequences.Actions.{act_at-periodic, length_cut, get_or-cut, known-get_or}
use Rattle.bridge.proofs.Sequences.Actions.{cut-equal}
use Rattle.bridge.proofs.Sequences.Actions.{cut-known, periodic-cut, periodic-repeats}
use Rattle.bridge.proofs.Sequences.Actions.{cut-elements, known-in_field}

-- Lists of zeros
unfoldable pub all_zero : List ℕ → Bool
all_zero ts = holds_for_all (λ t. eqb t 0) ts

pub all_zero-nil : T (all_zero [])
unfolding all_zero
all_zero-nil = all_nil (λ t. eqb t 0)

pub all_zero-get_or : (ts : List ℕ) → T (all_zero ts) → (i : ℕ) → get_or ts i 0 ≡ 0
unfolding all_zero
all_zero-get_or [] h i = refl
all_zero-get_or (a ∷ ts) h zero = eqb→eq a 0 (all_uncons (λ t. eqb t 0) a ts h).0
all_zero-get_or (a ∷ ts) h (suc i) = all_zero-get_or ts (all_uncons (λ t. eqb t 0) a ts h).1 i

pub get_or-all_zero : (ts : List ℕ) → ((i : ℕ) → i < length ts → get_or ts i 0 ≡ 0) → T (all_zero ts)
unfolding all_zero
get_or-all_zero [] h = all_zero-nil
get_or-all_zero (a ∷ ts) h =
    all_cons (λ t. eqb t 0) a ts
    (subst (λ n. T (eqb n 0)) (sym (h 0 (omega arith))) (eqb_refl 0))
    (get_or-all_zero ts (λ i l. h (suc i) (omega arith)))

pub replicate-all_zero : (n : ℕ) → T (all_zero (replicate n 0))
replicate-all_zero n =
    get_or-all_zero (replicate n 0)
    (λ i l. get_or-replicate n i 0 0 (subst (λ m. i < m) (length-replicate n 0) l))

pub all_zero-take : (n : ℕ) (ts : List ℕ) → T (all_zero ts) → T (all_zero (take n ts))
all_zero-take n ts h =
    get_or-all_zero (take n ts)
    (λ i l. get_or-take n ts i 0 (omega (arith, length-take n ts)) ∙ all_zero-get_or ts h i)

pub all_zero-cut : (s : Sequence) (k m : ℕ) → ((i : ℕ) → i < m → s (k + i) ≡ 0) → T (all_zero (cut s k m))
all_zero-cut s k m h =
    get_or-all_zero (cut s k m) (λ i l. let b : i < m = rw length_cut at l in get_or-cut s k m i b ∙ h i b)

-- a list of values by places is a stretch
pub map_range : (s : Sequence) (k m : ℕ) → map s (range k m) ≡ cut s k m
unfolding range cut
map_range s k zero = refl
map_range s k (suc m) = ap (◌∷◌ (s k)) (map_range s (suc k) m)

pub take-cut : (s : Sequence) (k m n : ℕ) → take n (cut s k m) ≡ cut s k (min n m)
unfolding cut
take-cut s k m zero = let e : 0 ≡ min 0 m = omega arith in ap (cut s k) e
take-cut s k zero (suc n) = let e : 0 ≡ min (suc n) 0 = omega arith in ap (cut s k) e
take-cut s k (suc m) (suc n) =
    let e : suc (min n m) ≡ min (suc n) (suc m) = omega arith in
    ap (◌∷◌ (s k)) (take-cut s (suc k) m n) ∙ ap (cut s k) e

pub take-stretch : (n : ℕ) (ts : List ℕ) → take n ts ≡ cut (known ts) 0 (min n (length ts))
take-stretch n ts = ap (take n) (sym (cut-known ts)) ∙ take-cut (known ts) 0 (length ts) n

all_map : (s : Sequence) (l : List ℕ) → holds_for_all (λ k. eqb (s k) 0) l ≡ all_zero (map s l)
unfolding all_zero holds_for_all
all_map s [] = refl
all_map s (k ∷ l) = go (eqb (s k) 0) refl (all_map s l)
  where
    go :
        (b : Bool)
        → eqb (s k) 0 ≡ b
        → holds_for_all (λ k. eqb (s k) 0) l ≡ all_zero (map s l)
        → holds_for_all (λ k. eqb (s k) 0) (k ∷ l) ≡ all_zero (s k ∷ map s l)
    go true e h = rw (e, holds_for_all) h
    go false e h = rw (e, holds_for_all)

-- Known terms
module _ (F : Field) where
  pub act_on_known-stretch :
      (g : Polynomial) (ts : List ℕ)
      → act_on_known F g ts ≡ cut (act_at F g (known ts)) 0 (length ts - degree g)
  unfolding act_on_known
  act_on_known-stretch g ts = map_range (act_at F g (known ts)) 0 (length ts - degree g)

  pub length-act_on_known : (g : Polynomial) (ts : List ℕ) → length (act_on_known F g ts) ≡ length ts -
      degree g
  length-act_on_known g ts = ap length (act_on_known-stretch g ts) ∙ length_cut _ 0 (length ts - degree g)

  pub act_on_known-cut :
      (g : Polynomial) (s : Sequence) (k m : ℕ)
      → act_on_known F g (cut s k m) ≡ cut (act_at F g s) k (m - degree g)
  act_on_known-cut g s k m =
      act_on_known-stretch g (cut s k m)
      ∙ ap (λ n. cut (act_at F g (known (cut s k m))) 0 (n - degree g)) (length_cut s k m)
      ∙ cut-equal (act_at F g (known (cut s k m))) (act_at F g s) 0 k (m - degree g)
      (λ i l.
      ap (act_at F g (known (cut s k m))) (ℕ.zero-add i) ∙ act_at-cut F g s k m i (omega arith))

  pub act_on_known-take :
      (g : Polynomial) (n : ℕ) (ts : List ℕ)
      → act_on_known F g (take n ts) ≡ take (n - degree g) (act_on_known F g ts)
  act_on_known-take g n ts =
      let e : min n (length ts) - degree g ≡ min (n - degree g) (length ts - degree g) = omega arith in
      ap (act_on_known F g) (take-stretch n ts)
      ∙ act_on_known-cut g (known ts) 0 (min n (length ts))
      ∙ ap (cut (act_at F g (known ts)) 0) e
      ∙ sym (take-cut (act_at F g (known ts)) 0 (length ts - degree g) (n - degree g))
      ∙ ap (take (n - degree g)) (sym (act_on_known-stretch g ts))

  pub act_on_known-short : (g : Polynomial) (ts : List ℕ) → length ts ≤ degree g → act_on_known F g ts ≡ []
  unfolding cut
  act_on_known-short g ts l =
      let e : length ts - degree g ≡ 0 = omega arith in
      act_on_known-stretch g ts ∙ ap (cut (act_at F g (known ts)) 0) e

  pub annihilates_known-all :
      (g : Polynomial) (ts : List ℕ) → annihilates_known F g ts ≡ all_zero (act_on_known F g ts)
  unfolding annihilates_known act_on_known
  annihilates_known-all g ts = all_map (act_at F g (known ts)) (range 0 (length ts - degree g))

  pub known-zeros :
      (g : Polynomial) (ts : List ℕ) → T (annihilates_known F g ts) → T (all_zero (act_on_known F g ts))
  known-zeros g ts h = subst T (annihilates_known-all g ts) h

  pub zeros-known :
      (g : Polynomial) (ts : List ℕ) → T (all_zero (act_on_known F g ts)) → T (annihilates_known F g ts)
  zeros-known g ts h = subst T (sym (annihilates_known-all g ts)) h

  -- where there are too few terms there are no places
  pub short-known : (g : Polynomial) (ts : List ℕ) → length ts ≤ degree g → T (annihilates_known F g ts)
  short-known g ts l =
      zeros-known g ts (subst (λ l. T (all_zero l)) (sym (act_on_known-short g ts l)) all_zero-nil)

  -- what annihilates terms annihilates the first of them
  pub known-take :
      (g : Polynomial) (n : ℕ) (ts : List ℕ)
      → T (annihilates_known F g ts)
      → T (annihilates_known F g (take n ts))
  known-take g n ts h =
      zeros-known g (take n ts)
      (subst (λ l. T (all_zero l)) (sym (act_on_known-take g n ts))
      (all_zero-take (n - degree g) (act_on_known F g ts) (known-zeros g ts h)))

module _ {F : Field} (I : IsField F) where
  pub act_on_known-elements : (g : Polynomial) (ts : List ℕ) → T (are_elements F (act_on_known F g ts))
  act_on_known-elements g ts =
      subst (λ l. T (are_elements F l)) (sym (act_on_known-stretch F g ts))
      (cut-elements F (act_at F g (known ts)) 0 (length ts - degree g) (act_at-below I g (known ts)))

  pub act_on_known-zeros : (g : Polynomial) (ts : List ℕ) → T (all_zero ts) → T
      (all_zero (act_on_known F g ts))
  act_on_known-zeros g ts h =
      subst (λ l. T (all_zero l)) (sym (act_on_known-stretch F g ts))
      (all_zero-cut (act_at F g (known ts)) 0 (length ts - degree g)
      (λ i _.
      act_at-zeros I g (known ts) (0 + i)
      (λ j _. known-get_or ts (0 + i + j) ∙ all_zero-get_or ts h (0 + i + j))))

  pub act_on_known-one : (ts : List ℕ) → T (are_elements F ts) → act_on_known F (1 ∷ []) ts ≡ ts
  unfolding degree
  act_on_known-one ts h =
      act_on_known-stretch F (1 ∷ []) ts
      ∙ ap (cut (act_at F (1 ∷ []) (known ts)) 0) (omega arith)
      ∙ cut-equal (act_at F (1 ∷ []) (known ts)) (known ts) 0 0 (length ts)
      (λ i _. act_at-one I (known ts) (0 + i) (known-in_field I ts h (0 + i)))
      ∙ cut-known ts

  -- Products and powers
  pub act_on_known-times :
      (f g : Polynomial) (ts : List ℕ)
      → 0 < length f
      → 0 < length g
      → act_on_known F (times F f g) ts ≡ act_on_known F f (act_on_known F g ts)
  act_on_known-times f g ts a b =
      act_on_known-stretch F (times F f g) ts
      ∙ ap (cut (act_at F (times F f g) (known ts)) 0) places
      ∙ cut-equal (act_at F (times F f g) (known ts)) (act_at F f (act_at F g (known ts))) 0 0 _
      (λ i _. act_at-times I f g (known ts) (0 + i))
      ∙ sym (act_on_known-cut F f (act_at F g (known ts)) 0 (length ts - degree g))
      ∙ ap (act_on_known F f) (sym (act_on_known-stretch F g ts))
    where
      places : length ts - degree (times F f g) ≡ length ts - degree g - degree f
      places = omega (arith, degree-times I f g a b)

  -- an annihilated part of a product
  pub known-times :
      (f g : Polynomial) (ts : List ℕ)
      → 0 < length f
      → 0 < length g
      → T (annihilates_known F g ts)
      → T (annihilates_known F (times F f g) ts)
  known-times f g ts a b h =
      zeros-known F (times F f g) ts
      (subst (λ l. T (all_zero l)) (sym (act_on_known-times f g ts a b))
      (act_on_known-zeros f (act_on_known F g ts) (known-zeros F g ts h)))

  -- a product annihilates terms exactly where one factor annihilates what the other makes of them
  pub annihilates_known-times :
      (f g : Polynomial) (ts : List ℕ)
      → 0 < length f
      → 0 < length g
      → annihilates_known F (times F f g) ts ≡ annihilates_known F f (act_on_known F g ts)
  annihilates_known-times f g ts a b =
      annihilates_known-all F (times F f g) ts
      ∙ ap all_zero (act_on_known-times f g ts a b)
      ∙ sym (annihilates_known-all F f (act_on_known F g ts))

  module _ (f : Polynomial) (nonempty : 0 < length f) where
    pub act_on_known-power-zero : (ts : List ℕ) → T (are_elements F ts) → act_on_known F (power F f 0) ts ≡ ts
    act_on_known-power-zero ts h =
        ap (λ g. act_on_known F g ts) (power-zero-list F f) ∙ act_on_known-one ts h

    pub act_on_known-power-add :
        (m n : ℕ) (ts : List ℕ)
        → act_on_known F (power F f (m + n)) ts ≡ act_on_known F (power F f m)
        (act_on_known F (power F f n) ts)
    act_on_known-power-add m n ts =
        ap (λ g. act_on_known F g ts) (power-add I f m n nonempty)
        ∙ act_on_known-times (power F f m) (power F f n) ts
        (power-nonempty I f m nonempty) (power-nonempty I f n nonempty)

    -- higher powers of what annihilates annihilate too
    pub known-power :
        (m n : ℕ) (ts : List ℕ)
        → m ≤ n
        → T (annihilates_known F (power F f m) ts)
        → T (annihilates_known F (power F f n) ts)
    known-power m n ts l h =
        subst (λ e. T (annihilates_known F (power F f e) ts)) (ℕ.sub-add_cancel l)
        (subst (λ g. T (annihilates_known F g ts)) (sym (power-add I f (n - m) m nonempty))
        (known-times (power F f (n - m)) (power F f m) ts
        (power-nonempty I f (n - m) nonempty) (power-nonempty I f m nonempty) h))

    -- a power for which there are too few terms
    pub short-power :
        (n : ℕ) (ts : List ℕ) → length ts ≤ n * degree f → T (annihilates_known F (power F f n) ts)
    short-power n ts l = short-known F (power F f n) ts (omega (arith, degree-power I f n nonempty))

-- Lemma 5
module _ {F : Field} (I : IsField F) where
  pub known_vanish :
      (h : Polynomial) (ts : List ℕ)
      → T (is_monic_over F h)
      → T (are_elements F ts)
      → T (annihilates_known F h ts)
      → T (all_zero (take (degree h) ts))
      → T (all_zero ts)
  known_vanish h ts m e z first = get_or-all_zero ts (λ i l. zero-at i l)
    where
      term-zero : (i : ℕ) → get_or ts i 0 ≡ 0 → sequence I (known ts) i ≡ I.ring.0#
      term-zero i y = ap I.element (known-get_or ts i ∙ y) ∙ I.element-zero

      begins : Agree (degree h) (sequence I (known ts)) (λ _. I.ring.0#)
      begins i l =
          term-zero i (sym (get_or-take (degree h) ts i 0 l) ∙ all_zero-get_or (take (degree h) ts) first i)

      vanishes : Agree (length ts - degree h) (act (poly I h) (sequence I (known ts))) (λ _. I.ring.0#)
      vanishes i l = act_at-zero I h (known ts) i (known-places F h ts z i (omega arith))

      zero-at : (i : ℕ) → i < length ts → get_or ts i 0 ≡ 0
      zero-at i l =
          element-zero-only I (get_or-below I ts e i)
          (ap I.element (sym (known-get_or ts i))
          ∙ monic-zeros (monic-poly I h m) (sequence I (known ts)) begins (length ts - degree h) vanishes i
          (omega arith))

  pub known-part :
      (h g : Polynomial) (ts : List ℕ)
      → T (is_monic_over F h)
      → 0 < length g
      → T (annihilates_known F (times F h g) ts)
      → T (annihilates_known F g (take (degree h + degree g) ts))
      → T (annihilates_known F g ts)
  known-part h g ts m l z first =
      zeros-known F g ts
      (known_vanish h (act_on_known F g ts) m (act_on_known-elements I g ts)
      (subst T (annihilates_known-times I h g ts (monic-nonempty F h m) l) z)
      (subst (λ l. T (all_zero l)) begins (known-zeros F g (take (degree h + degree g) ts) first)))
    where
      begins : act_on_known F g (take (degree h + degree g) ts) ≡ take (degree h) (act_on_known F g ts)
      begins =
          let e : degree h + degree g - degree g ≡ degree h = omega arith in
          act_on_known-take F g (degree h + degree g) ts ∙ ap (λ n. take n (act_on_known F g ts)) e

  pub endless-part :
      (h g : Polynomial) (s : Sequence)
      → T (is_monic_over F h)
      → T (is_monic_over F g)
      → AnnihilatesEndless F (times F h g) s
      → T (annihilates_known F g (cut s 0 (degree h + degree g)))
      → AnnihilatesEndless F g s
  endless-part h g s m n z first =
      kills-endless I g s
      (kills-part (monic-poly I g n) (monic-poly I h m)
      (subst (Kills (sequence I s)) (poly-times I h g) (endless-kills I (times F h g) s z))
      (λ i _. refl)
      (λ j l. act_at-zero I g s j (ap (act_at F g s) (sym (ℕ.zero-add j)) ∙ first-place j (omega arith))))
    where
      first-place : (j : ℕ) → j + degree g < degree h + degree g → act_at F g s (0 + j) ≡ 0
      first-place = known-stretch F g s 0 (degree h + degree g) first

  -- of the powers of one list
  pub known-power-part :
      (f : Polynomial) (i n : ℕ) (ts : List ℕ)
      → T (is_monic_over F f)
      → T (annihilates_known F (power F f n) ts)
      → T (annihilates_known F (power F f i) (take (n * degree f) ts))
      → T (annihilates_known F (power F f i) ts)
  known-power-part f i n ts m z first = elim (dec_le i n) [
    | yes l ↦
        let e : n - i + i ≡ n = ℕ.sub-add_cancel l in
        known-part (power F f (n - i)) (power F f i) ts (power-monic I f (n - i) m)
        (power-nonempty I f i nonempty)
        (subst (λ g. T (annihilates_known F g ts))
        (ap (power F f) (sym e) ∙ power-add I f (n - i) i nonempty) z)
        (subst (λ k. T (annihilates_known F (power F f i) (take k ts))) (sym (degrees l)) first)
    | no l ↦ known-power I f nonempty n i ts (omega arith) z
  ]
    where
      nonempty : 0 < length f
      nonempty = monic-nonempty F f m

      degrees : i ≤ n → degree (power F f (n - i)) + degree (power F f i) ≡ n * degree f
      degrees l =
          ap₂ ◌+◌ (degree-power I f (n - i) nonempty) (degree-power I f i nonempty)
          ∙ sym (ℕ.add-mul (n - i) i (degree f))
          ∙ ap (λ k. k * degree f) (ℕ.sub-add_cancel l)

-- Periods
module _ (F : Field) where
  pub act_on_period-stretch :
      (g : Polynomial) (ts : List ℕ) → act_on_period F g ts ≡ cut (act_at F g (periodic ts)) 0 (length ts)
  unfolding act_on_period
  act_on_period-stretch g ts = map_range (act_at F g (periodic ts)) 0 (length ts)

  pub length-act_on_period : (g : Polynomial) (ts : List ℕ) → length (act_on_period F g ts) ≡ length ts
  length-act_on_period g ts = ap length (act_on_period-stretch g ts) ∙ length_cut _ 0 (length ts)

  pub periodic-act_on_period :
      (g : Polynomial) (ts : List ℕ) (k : ℕ)
      → 0 < length ts
      → periodic (act_on_period F g ts) k ≡ act_at F g (periodic ts) k
  periodic-act_on_period g ts k l =
      ap (λ l. periodic l k) (act_on_period-stretch g ts)
      ∙ periodic-cut (act_at F g (periodic ts)) 0 (length ts) l
      (act_at-periodic F g (periodic ts) (length ts) (periodic-repeats ts)) k
      ∙ ap (act_at F g (periodic ts)) (ℕ.zero-add k)

  pub annihilates_period-all :
      (g : Polynomial) (ts : List ℕ) → annihilates_period F g ts ≡ all_zero (act_on_period F g ts)
  unfolding annihilates_period act_on_period
  annihilates_period-all g ts = all_map (act_at F g (periodic ts)) (range 0 (length ts))

module _ {F : Field} (I : IsField F) where
  pub act_on_period-times :
      (f g : Polynomial) (ts : List ℕ) → act_on_period F (times F f g) ts ≡ act_on_period F f
      (act_on_period F g ts)
  act_on_period-times f g ts =
      act_on_period-stretch F (times F f g) ts
      ∙ cut-equal (act_at F (times F f g) (periodic ts)) (act_at F f (periodic (act_on_period F g ts))) 0 0
      (length ts) same
      ∙ ap (cut (act_at F f (periodic (act_on_period F g ts))) 0) (sym (length-act_on_period F g ts))
      ∙ sym (act_on_period-stretch F f (act_on_period F g ts))
    where
      same :
          (i : ℕ)
          → i < length ts
          → act_at F (times F f g) (periodic ts) (0 + i) ≡ act_at F f (periodic (act_on_period F g ts))
          (0 + i)
      same i l =
          act_at-times I f g (periodic ts) (0 + i)
          ∙ act_at_local F f (act_at F g (periodic ts)) (periodic (act_on_period F g ts)) (0 + i) (0 + i)
          (λ j _. sym (periodic-act_on_period F g ts (0 + i + j) (omega arith)))

  pub act_on_period-zeros : (g : Polynomial) (ts : List ℕ) → T (all_zero ts) → T
      (all_zero (act_on_period F g ts))
  unfolding periodic
  act_on_period-zeros g ts h =
      subst (λ l. T (all_zero l)) (sym (act_on_period-stretch F g ts))
      (all_zero-cut (act_at F g (periodic ts)) 0 (length ts)
      (λ i _.
      act_at-zeros I g (periodic ts) (0 + i)
      (λ j _. all_zero-get_or ts h ((0 + i + j) % length ts))))

  module _ (f : Polynomial) where
    pub act_on_period-power-add :
        (m n : ℕ) (ts : List ℕ)
        → 0 < length f
        → act_on_period F (power F f (m + n)) ts ≡ act_on_period F (power F f m)
        (act_on_period F (power F f n) ts)
    act_on_period-power-add m n ts l =
        ap (λ g. act_on_period F g ts) (power-add I f m n l)
        ∙ act_on_period-times (power F f m) (power F f n) ts

    pub period-power :
        (m n : ℕ) (ts : List ℕ)
        → 0 < length f
        → m ≤ n
        → T (annihilates_period F (power F f m) ts)
        → T (annihilates_period F (power F f n) ts)
    period-power m n ts l k h =
        subst (λ e. T (annihilates_period F (power F f e) ts)) (ℕ.sub-add_cancel k)
        (subst T (sym (annihilates_period-all F (power F f (n - m + m)) ts))
        (subst (λ l. T (all_zero l)) (sym (act_on_period-power-add (n - m) m ts l))
        (act_on_period-zeros (power F f (n - m)) (act_on_period F (power F f m) ts)
        (subst T (annihilates_period-all F (power F f m) ts) h))))

-- The actions with a stride
unfoldable pub stride_on_known : Field → Polynomial → ℕ → List ℕ → List ℕ
stride_on_known F g q ts = cut (act_stride F g q (known ts)) 0 (length ts - q * degree g)

unfoldable pub stride_on_period : Field → Polynomial → ℕ → List ℕ → List ℕ
stride_on_period F g q ts = cut (act_stride F g q (periodic ts)) 0 (length ts)

module _ (F : Field) (g : Polynomial) (q : ℕ) (ts : List ℕ) where
  pub length-stride_on_known : length (stride_on_known F g q ts) ≡ length ts - q * degree g
  unfolding stride_on_known
  length-stride_on_known = length_cut (act_stride F g q (known ts)) 0 (length ts - q * degree g)

  pub stride_on_known-short : length ts ≤ q * degree g → stride_on_known F g q ts ≡ []
  unfolding stride_on_known cut
  stride_on_known-short l =
      let e : length ts - q * degree g ≡ 0 = omega arith in
      ap (cut (act_stride F g q (known ts)) 0) e

  -- a try for which there are too few terms leaves nothing
  pub stride_on_known-none : length ts ≤ q * degree g → T (all_zero (stride_on_known F g q ts))
  stride_on_known-none l = subst (λ l. T (all_zero l)) (sym (stride_on_known-short l)) all_zero-nil

module _ {F : Field} (I : IsField F) where
  act_stride-zeros :
      (g : Polynomial) (q : ℕ) (s : Sequence) (k : ℕ) → ((i : ℕ) → s i ≡ 0) → act_stride F g q s k ≡ 0
  act_stride-zeros [] q s k h = act_stride-nil F q s k
  act_stride-zeros (c ∷ g) q s k h =
      act_stride-cons F c g q s k
      ∙ ap₂ F.add (ap (F.mul c) (h k) ∙ number-mul-zero I c) (act_stride-zeros g q s (k + q) h)
      ∙ number-add-zero I (size-positive I)

  pub stride_on_known-elements :
      (g : Polynomial) (q : ℕ) (ts : List ℕ) → T (are_elements F (stride_on_known F g q ts))
  unfolding stride_on_known
  stride_on_known-elements g q ts =
      cut-elements F (act_stride F g q (known ts)) 0 (length ts - q * degree g)
      (act_stride-below I g q (known ts))

  pub stride_on_known-zeros :
      (g : Polynomial) (q : ℕ) (ts : List ℕ) → T (all_zero ts) → T (all_zero (stride_on_known F g q ts))
  unfolding stride_on_known
  stride_on_known-zeros g q ts h =
      all_zero-cut (act_stride F g q (known ts)) 0 (length ts - q * degree g)
      (λ i _. act_stride-zeros g q (known ts) (0 + i) (λ j. known-get_or ts j ∙ all_zero-get_or ts h j))

module _ {F : Field} (I : IsField F) (w : ℕ) (f : Polynomial) (nonempty : 0 < length f) (ts : List ℕ) where
  abbrev q : ℕ
  q = F.characteristic ^ w

  pub act_on_known_stride : act_on_known F (power F f q) ts ≡ stride_on_known F (map (raise F q) f) q ts
  unfolding stride_on_known
  act_on_known_stride =
      act_on_known-stretch F (power F f q) ts
      ∙ cut-equal (act_at F (power F f q) (known ts)) (act_stride F (map (raise F q) f) q (known ts)) 0 0
      (length ts - degree (power F f q))
      (λ i _. act_at-power_stride I w f nonempty (known ts) (0 + i))
      ∙ ap (λ d. cut (act_stride F (map (raise F q) f) q (known ts)) 0 (length ts - d)) places
    where
      same-degree : degree f ≡ degree (map (raise F q) f)
      same-degree =
          sym (length-degree (map (raise F q) f) (length-map f (raise F q) ∙ degree-length f nonempty))

      places : degree (power F f q) ≡ q * degree (map (raise F q) f)
      places = degree-power I f q nonempty ∙ ap (◌*◌ q) same-degree

  pub act_on_period_stride : act_on_period F (power F f q) ts ≡ stride_on_period F (map (raise F q) f) q ts
  unfolding stride_on_period
  act_on_period_stride =
      act_on_period-stretch F (power F f q) ts
      ∙ cut-equal (act_at F (power F f q) (periodic ts)) (act_stride F (map (raise F q) f) q (periodic ts))
      0 0
      (length ts)
      (λ i _. act_at-power_stride I w f nonempty (periodic ts) (0 + i))

  pub annihilates_period_stride :
      annihilates_period F (power F f q) ts ≡ all_zero (stride_on_period F (map (raise F q) f) q ts)
  annihilates_period_stride = annihilates_period-all F (power F f q) ts ∙ ap all_zero act_on_period_stride
