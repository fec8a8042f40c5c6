-- The action of lists of numbers on sequences of numbers, and what it annihilates.
--
--   sequence I s   == the sequence of elements that the numbers of s stand for
--   element-act_at, element-act == the value of an action stands for that of `algebra`
--   act_at-below    == it is an element of the field; no condition
--   act_at-zero, zero-act_at == it is 0 exactly where the action of the polynomial is
--   act_at-times    == a product acts as its factors one after the other; no condition
--   act_at-scale, act_at-sequence-add, act_at-sequence-scale == of multiples, and of sums and multiples of
--                     sequences
--   act_at_local    == the action at place k depends on the terms from k on alone, as many as the list has
--   act_stride F g q s k == c0·s(k) + c1·s(k+q) + c2·s(k+2q) + …, the action with the stride q; it is that of
--                     the list spread q places apart by `act_at-spread`
--   act_at-power_stride == the power p^w of a list, its numbers raised to p^w, acts with the stride p^w
--   endless-kills, kills-endless == annihilation of an endless sequence is that of `algebra`
--   known-places, places-known == annihilation of known terms is that each place is 0; for a stretch of a
--                     sequence `known-stretch`, `stretch-known`
--   known-fits, fits-known == and that the polynomial fits them
--   period-endless, endless-period == annihilation of a period is that of its endless repetition
--   get_or-cut, length_cut == the terms of a stretch
--
-- Assumes nothing.
use Prim.Native.Nat.{ℕ, zero, suc, ◌+◌, ◌*◌, ◌-◌, ◌^◌, ◌%◌, ◌≤◌, ◌<◌}
use mathlib.Core.Path.{◌≡◌, refl, sym, ap, ap₂, subst, fun_ext, ◌∙◌}
use mathlib.Core.List.{List, [], ◌∷◌, ◌++◌, map}
use native.Mathlib.Nat.{not-suc-le-zero, le_of_suc-le-suc, mod-lt, mod-eq_of_lt, add-mod_right}
use native.Mathlib.Nat as ℕ
use native.Mathlib.Omega.{arith}
use lib.ListN.{length, get_or, take, drop}
use lib.Seq.{ext_get_or}
use lib.Dec.{T, eqb, eqb→eq, eqb_refl}
use Rattle.meaning.specs.Field.{Field, are_elements}
use Rattle.meaning.specs.Polynomial.{Polynomial, degree, is_monic_over, scale, times, power}
use Rattle.meaning.specs.Sequence.{Sequence, InField, act_at, known, periodic, AnnihilatesEndless}
use Rattle.meaning.specs.Sequence.{annihilates_known, annihilates_period, cut, Period}
use Rattle.algebra.proofs.Sequences.Action.{list-act, act, act-from_list, act-scale, act-mul}
use Rattle.algebra.proofs.Sequences.Action.{act-sequence-add, act-sequence-scale, act-one, Kills}
use Rattle.algebra.proofs.Sequences.Massey.{Fits}
use Rattle.algebra.proofs.Sequences.Cut.{Periodic, periodic-all, periodic-remainder}
use Rattle.bridge.proofs.Basics.Searches.{all_first, first-all}
use Rattle.bridge.proofs.Basics.Interpretation.{IsField, element_injective, element-zero-only}
use Rattle.bridge.proofs.Basics.Interpretation.{element-add}
use Rattle.bridge.proofs.Basics.Interpretation.{element-mul, add-below, mul-below, size-positive}
use Rattle.bridge.proofs.Basics.Interpretation.{number-zero-mul, number-zero-add}
use Rattle.bridge.proofs.Lists.Polynomials.{poly, poly-scale, poly-times, poly-one}
use Rattle.bridge.proofs.Lists.Polynomials.{monic-poly, get_or-below, get_or-elements}
use Rattle.bridge.proofs.Lists.Spread.{gap, spread, spread-nil, spread-cons, raise, power-spread}
use Rattle.bridge.proofs.Lists.Spread.{characteristic_power-pos}

pub act_at-nil : (F : Field) (s : Sequence) (k : ℕ) → act_at F [] s k ≡ 0
unfolding act_at
act_at-nil F s k = refl

pub act_at-cons :
    (F : Field) (c : ℕ) (g : Polynomial) (s : Sequence) (k : ℕ)
    → act_at F (c ∷ g) s k ≡ F.add (F.mul c (s k)) (act_at F g s (suc k))
unfolding act_at
act_at-cons F c g s k = refl

-- The terms that an action depends on
pub act_at_local :
    (F : Field) (g : Polynomial) (s t : Sequence) (j k : ℕ)
    → ((i : ℕ) → i < length g → s (j + i) ≡ t (k + i))
    → act_at F g s j ≡ act_at F g t k
unfolding act_at
act_at_local F [] s t j k h = refl
act_at_local F (c ∷ g) s t j k h =
    ap₂ F.add (ap (F.mul c) first) (act_at_local F g s t (suc j) (suc k) rest)
  where
    first : s j ≡ t k
    first = ap s (sym (ℕ.add-zero j)) ∙ h 0 (omega arith) ∙ ap t (ℕ.add-zero k)

    rest : (i : ℕ) → i < length g → s (suc j + i) ≡ t (suc k + i)
    rest i l =
        let e : suc j + i ≡ j + suc i = omega arith in
        let f : k + suc i ≡ suc k + i = omega arith in
        ap s e ∙ h (suc i) (omega arith) ∙ ap t f

pub act_at-shift :
    (F : Field) (g : Polynomial) (s : Sequence) (n k : ℕ) → act_at F g (λ i. s (n + i)) k ≡ act_at F g s
    (n + k)
act_at-shift F g s n k = act_at_local F g (λ i. s (n + i)) s k (n + k) (λ i _. ap s (sym (ℕ.add_assoc n k i)))

-- As an action of a polynomial
module _ {F : Field} (I : IsField F) where
  open I use {K, ring, field, value, element}
  open ring use {0#, 1#, ◌⊕◌, ◌⊗◌}

  infixl 60 ◌⊕◌
  infixl 70 ◌⊗◌
  abbrev pub sequence : Sequence → ℕ → K
  sequence s k = element (s k)

  pub element-act_at :
      (g : Polynomial) (s : Sequence) (k : ℕ)
      → element (act_at F g s k) ≡ list-act ring (map element g) (sequence s) k
  unfolding act_at list-act
  element-act_at [] s k = I.element-zero
  element-act_at (c ∷ g) s k =
      element-add I (F.mul c (s k)) (act_at F g s (suc k))
      ∙ ap₂ ◌⊕◌ (element-mul I c (s k)) (element-act_at g s (suc k))

  pub element-act :
      (g : Polynomial) (s : Sequence) (k : ℕ) → element (act_at F g s k) ≡ act (poly I g) (sequence s) k
  unfolding poly
  element-act g s k =
      element-act_at g s k ∙ sym (act-from_list ring field.discrete (map element g) (sequence s) k)

  -- the sequence that a list makes of s
  pub sequence-act : (g : Polynomial) (s : Sequence) → sequence (act_at F g s) ≡ act (poly I g) (sequence s)
  sequence-act g s = fun_ext (element-act g s)

  pub act_at-below : (g : Polynomial) (s : Sequence) (k : ℕ) → act_at F g s k < F.size
  unfolding act_at
  act_at-below [] s k = size-positive I
  act_at-below (c ∷ g) s k = add-below I (F.mul c (s k)) (act_at F g s (suc k))

  pub act_at-zero :
      (g : Polynomial) (s : Sequence) (k : ℕ) → act_at F g s k ≡ 0 → act (poly I g) (sequence s) k ≡ 0#
  act_at-zero g s k e = sym (element-act g s k) ∙ ap element e ∙ I.element-zero

  pub zero-act_at :
      (g : Polynomial) (s : Sequence) (k : ℕ) → act (poly I g) (sequence s) k ≡ 0# → act_at F g s k ≡ 0
  zero-act_at g s k e = element-zero-only I (act_at-below g s k) (element-act g s k ∙ e)

  -- equal where the actions of the polynomials are
  act_at_law :
      (f g : Polynomial) (s t : Sequence) (j k : ℕ)
      → act (poly I f) (sequence s) j ≡ act (poly I g) (sequence t) k
      → act_at F f s j ≡ act_at F g t k
  act_at_law f g s t j k e =
      element_injective I (act_at-below f s j) (act_at-below g t k)
      (element-act f s j ∙ e ∙ sym (element-act g t k))

  -- Products and powers
  pub act_at-times :
      (f g : Polynomial) (s : Sequence) (k : ℕ)
      → act_at F (times F f g) s k ≡ act_at F f (λ i. act_at F g s i) k
  act_at-times f g s k =
      act_at_law (times F f g) f s (act_at F g s) k k
      (ap (λ h. act h (sequence s) k) (poly-times I f g)
      ∙ act-mul (poly I f) (poly I g) (sequence s) k
      ∙ ap (λ t. act (poly I f) t k) (sym (sequence-act g s)))

  pub act_at-one : (s : Sequence) (k : ℕ) → s k < F.size → act_at F (1 ∷ []) s k ≡ s k
  act_at-one s k l =
      element_injective I (act_at-below (1 ∷ []) s k) l
      (element-act (1 ∷ []) s k
      ∙ ap (λ h. act h (sequence s) k) (poly-one I)
      ∙ act-one ring field.discrete (sequence s) k)

  pub act_at-scale :
      (c : ℕ) (f : Polynomial) (s : Sequence) (k : ℕ)
      → act_at F (scale F c f) s k ≡ F.mul c (act_at F f s k)
  act_at-scale c f s k =
      element_injective I (act_at-below (scale F c f) s k) (mul-below I _ _)
      (element-act (scale F c f) s k
      ∙ ap (λ h. act h (sequence s) k) (poly-scale I c f)
      ∙ act-scale (element c) (poly I f) (sequence s) k
      ∙ sym (element-mul I _ _ ∙ ap (◌⊗◌ (element c)) (element-act f s k)))

  pub act_at-sequence-add :
      (f : Polynomial) (s t : Sequence) (k : ℕ)
      → act_at F f (λ i. F.add (s i) (t i)) k ≡ F.add (act_at F f s k) (act_at F f t k)
  act_at-sequence-add f s t k =
      element_injective I (act_at-below f _ k) (add-below I _ _)
      (element-act f _ k
      ∙ ap (λ u. act (poly I f) u k) (fun_ext (λ i. element-add I (s i) (t i)))
      ∙ act-sequence-add (poly I f) (sequence s) (sequence t) k
      ∙ sym (element-add I _ _ ∙ ap₂ ◌⊕◌ (element-act f s k) (element-act f t k)))

  pub act_at-sequence-scale :
      (f : Polynomial) (c : ℕ) (s : Sequence) (k : ℕ)
      → act_at F f (λ i. F.mul c (s i)) k ≡ F.mul c (act_at F f s k)
  act_at-sequence-scale f c s k =
      element_injective I (act_at-below f _ k) (mul-below I _ _)
      (element-act f _ k
      ∙ ap (λ u. act (poly I f) u k) (fun_ext (λ i. element-mul I c (s i)))
      ∙ act-sequence-scale (poly I f) (element c) (sequence s) k
      ∙ sym (element-mul I _ _ ∙ ap (◌⊗◌ (element c)) (element-act f s k)))

  -- zeros stay zeros
  pub act_at-zeros :
      (f : Polynomial) (s : Sequence) (k : ℕ)
      → ((i : ℕ) → i < length f → s (k + i) ≡ 0)
      → act_at F f s k ≡ 0
  act_at-zeros f s k h =
      act_at_local F f s (λ _. 0) k k h
      ∙ ap (λ t. act_at F f t k) (fun_ext (λ i. sym (number-zero-mul I 0)))
      ∙ act_at-sequence-scale f 0 (λ _. 0) k
      ∙ number-zero-mul I (act_at F f (λ _. 0) k)

-- The action with a stride
unfoldable pub act_stride : Field → Polynomial → ℕ → Sequence → ℕ → ℕ
act_stride F [] q s k = 0
act_stride F (c ∷ g) q s k = F.add (F.mul c (s k)) (act_stride F g q s (k + q))

pub act_stride-nil : (F : Field) (q : ℕ) (s : Sequence) (k : ℕ) → act_stride F [] q s k ≡ 0
unfolding act_stride
act_stride-nil F q s k = refl

pub act_stride-cons :
    (F : Field) (c : ℕ) (g : Polynomial) (q : ℕ) (s : Sequence) (k : ℕ)
    → act_stride F (c ∷ g) q s k ≡ F.add (F.mul c (s k)) (act_stride F g q s (k + q))
unfolding act_stride
act_stride-cons F c g q s k = refl

pub act_stride_local :
    (F : Field) (g : Polynomial) (q : ℕ) (s t : Sequence) (j k : ℕ)
    → ((i : ℕ) → i < length g → s (j + q * i) ≡ t (k + q * i))
    → act_stride F g q s j ≡ act_stride F g q t k
unfolding act_stride
act_stride_local F [] q s t j k h = refl
act_stride_local F (c ∷ g) q s t j k h =
    ap₂ F.add (ap (F.mul c) first) (act_stride_local F g q s t (j + q) (k + q) rest)
  where
    zeroth : (n : ℕ) → n + q * 0 ≡ n
    zeroth n = omega (arith, ℕ.mul-zero q)

    later : (n i : ℕ) → n + q * suc i ≡ n + q + q * i
    later n i = omega (arith, ℕ.mul-suc q i)

    first : s j ≡ t k
    first = ap s (sym (zeroth j)) ∙ h 0 (omega arith) ∙ ap t (zeroth k)

    rest : (i : ℕ) → i < length g → s (j + q + q * i) ≡ t (k + q + q * i)
    rest i l = ap s (sym (later j i)) ∙ h (suc i) (omega arith) ∙ ap t (later k i)

module _ {F : Field} (I : IsField F) where
  -- zeros before a list pass over as many terms
  act_at-gap :
      (j : ℕ) (g : Polynomial) (s : Sequence) (k : ℕ) → act_at F (gap j g) s k ≡ act_at F g s (k + j)
  unfolding gap
  act_at-gap zero g s k = ap (act_at F g s) (sym (ℕ.add-zero k))
  act_at-gap (suc j) [] s k = act_at-nil F s k ∙ sym (act_at-nil F s (k + suc j))
  act_at-gap (suc j) (a ∷ g) s k =
      act_at-cons F 0 (gap j (a ∷ g)) s k
      ∙ ap (λ z. F.add z (act_at F (gap j (a ∷ g)) s (suc k))) (number-zero-mul I (s k))
      ∙ number-zero-add I (act_at-below I (gap j (a ∷ g)) s (suc k))
      ∙ act_at-gap j (a ∷ g) s (suc k)
      ∙ ap (act_at F (a ∷ g) s) (omega arith)

  pub act_at-spread :
      (q : ℕ)
      → 0 < q
      → (g : Polynomial) (s : Sequence) (k : ℕ)
      → act_at F (spread q g) s k ≡ act_stride F g q s k
  act_at-spread q pos [] s k =
      ap (λ g. act_at F g s k) (spread-nil q) ∙ act_at-nil F s k ∙ sym (act_stride-nil F q s k)
  act_at-spread q pos (c ∷ g) s k =
      ap (λ g. act_at F g s k) (spread-cons q c g)
      ∙ act_at-cons F c (gap (q - 1) (spread q g)) s k
      ∙ ap (F.add (F.mul c (s k)))
      (act_at-gap (q - 1) (spread q g) s (suc k)
      ∙ ap (act_at F (spread q g) s) place
      ∙ act_at-spread q pos g s (k + q))
      ∙ sym (act_stride-cons F c g q s k)
    where
      place : suc k + (q - 1) ≡ k + q
      place = omega arith

  pub act_stride-below : (g : Polynomial) (q : ℕ) (s : Sequence) (k : ℕ) → act_stride F g q s k < F.size
  unfolding act_stride
  act_stride-below [] q s k = size-positive I
  act_stride-below (c ∷ g) q s k = add-below I (F.mul c (s k)) (act_stride F g q s (k + q))

  -- the power p^w of a list acts with the stride p^w
  pub act_at-power_stride :
      (w : ℕ) (f : Polynomial)
      → 0 < length f
      → (s : Sequence) (k : ℕ)
      → act_at F (power F f (F.characteristic ^ w)) s k
      ≡ act_stride F (map (raise F (F.characteristic ^ w)) f) (F.characteristic ^ w) s k
  act_at-power_stride w f l s k =
      ap (λ g. act_at F g s k) (power-spread I w f l)
      ∙ act_at-spread (F.characteristic ^ w) (characteristic_power-pos I w) _ s k

-- Endless sequences
module _ {F : Field} (I : IsField F) where
  pub endless-kills :
      (g : Polynomial) (s : Sequence) → AnnihilatesEndless F g s → Kills (sequence I s) (poly I g)
  endless-kills g s h = record { vanishes = λ k. act_at-zero I g s k (h k) }

  pub kills-endless :
      (g : Polynomial) (s : Sequence) → Kills (sequence I s) (poly I g) → AnnihilatesEndless F g s
  kills-endless g s z k = zero-act_at I g s k (z.vanishes k)

-- Stretches and known terms
pub length_cut : (s : Sequence) (k m : ℕ) → length (cut s k m) ≡ m
unfolding cut
length_cut s k zero = refl
length_cut s k (suc m) = ap suc (length_cut s (suc k) m)

pub get_or-cut : (s : Sequence) (k m i : ℕ) → i < m → get_or (cut s k m) i 0 ≡ s (k + i)
unfolding cut
get_or-cut s k zero i l = absurd (not-suc-le-zero l)
get_or-cut s k (suc m) zero l = ap s (sym (ℕ.add-zero k))
get_or-cut s k (suc m) (suc i) l =
    let e : suc k + i ≡ k + suc i = omega arith in
    get_or-cut s (suc k) m i (le_of_suc-le-suc l) ∙ ap s e

pub known-get_or : (ts : List ℕ) (i : ℕ) → known ts i ≡ get_or ts i 0
unfolding known
known-get_or ts i = refl

pub known-cut : (s : Sequence) (k m i : ℕ) → i < m → known (cut s k m) i ≡ s (k + i)
known-cut s k m i l = known-get_or (cut s k m) i ∙ get_or-cut s k m i l

-- two stretches with the same terms are equal
pub cut-equal :
    (s t : Sequence) (j k m : ℕ) → ((i : ℕ) → i < m → s (j + i) ≡ t (k + i)) → cut s j m ≡ cut t k m
cut-equal s t j k m h =
    ext_get_or 0 (cut s j m) (cut t k m) (length_cut s j m ∙ sym (length_cut t k m))
    (λ i l. let b : i < m = rw length_cut at l in get_or-cut s j m i b ∙ h i b ∙ sym (get_or-cut t k m i b))

pub cut-known : (ts : List ℕ) → cut (known ts) 0 (length ts) ≡ ts
cut-known ts =
    ext_get_or 0 (cut (known ts) 0 (length ts)) ts (length_cut (known ts) 0 (length ts))
    (λ i l.
    get_or-cut (known ts) 0 (length ts) i (rw length_cut at l)
    ∙ ap (known ts) (ℕ.zero-add i)
    ∙ known-get_or ts i)

pub cut-take : (s : Sequence) (k m n : ℕ) → m ≤ n → take m (cut s k n) ≡ cut s k m
unfolding cut
cut-take s k zero n l = refl
cut-take s k (suc m) zero l = absurd (not-suc-le-zero l)
cut-take s k (suc m) (suc n) l = ap (◌∷◌ (s k)) (cut-take s (suc k) m n (le_of_suc-le-suc l))

pub cut-drop : (s : Sequence) (k m n : ℕ) → drop m (cut s k n) ≡ cut s (k + m) (n - m)
unfolding cut
cut-drop s k zero n = ap₂ (cut s) (sym (ℕ.add-zero k)) (sym (ℕ.sub-zero n))
cut-drop s k (suc m) zero = ap (cut s (k + suc m)) (sym (ℕ.zero-sub (suc m)))
cut-drop s k (suc m) (suc n) =
    let e : suc k + m ≡ k + suc m = omega arith in
    cut-drop s (suc k) m n ∙ ap₂ (cut s) e (sym (ℕ.suc-sub-suc n m))

pub cut-append : (s : Sequence) (k m n : ℕ) → cut s k (m + n) ≡ cut s k m ++ cut s (k + m) n
unfolding cut
cut-append s k zero n = ap₂ (cut s) (sym (ℕ.add-zero k)) (ℕ.zero-add n)
cut-append s k (suc m) n =
    let e : suc k + m ≡ k + suc m = omega arith in
    ap (cut s k) (ℕ.suc-add m n)
    ∙ ap (◌∷◌ (s k)) (cut-append s (suc k) m n ∙ ap (λ j. cut s (suc k) m ++ cut s j n) e)

pub cut-elements : (F : Field) (s : Sequence) (k m : ℕ) → InField F s → T (are_elements F (cut s k m))
cut-elements F s k m h =
    get_or-elements F (cut s k m)
    (λ i l. subst (λ n. n < F.size) (sym (get_or-cut s k m i (rw length_cut at l))) (h (k + i)))

module _ (F : Field) where
  pub known-places :
      (g : Polynomial) (ts : List ℕ)
      → T (annihilates_known F g ts)
      → (k : ℕ)
      → k + degree g < length ts
      → act_at F g (known ts) k ≡ 0
  unfolding annihilates_known
  known-places g ts h k l =
      eqb→eq (act_at F g (known ts) k) 0
      (all_first (λ k. eqb (act_at F g (known ts) k) 0) (length ts - degree g) h k (omega arith))

  pub places-known :
      (g : Polynomial) (ts : List ℕ)
      → ((k : ℕ) → k + degree g < length ts → act_at F g (known ts) k ≡ 0)
      → T (annihilates_known F g ts)
  unfolding annihilates_known
  places-known g ts h =
      first-all (λ k. eqb (act_at F g (known ts) k) 0) (length ts - degree g)
      (λ k l. subst (λ n. T (eqb n 0)) (sym (h k (omega arith))) (eqb_refl 0))

  -- the action on a stretch is that on the sequence, where it has its terms
  pub act_at-cut :
      (g : Polynomial) (s : Sequence) (k m j : ℕ)
      → j + degree g < m
      → act_at F g (known (cut s k m)) j ≡ act_at F g s (k + j)
  unfolding degree
  act_at-cut g s k m j l =
      act_at_local F g (known (cut s k m)) s j (k + j)
      (λ i b. known-cut s k m (j + i) (omega arith) ∙ ap s (sym (ℕ.add_assoc k j i)))

  pub known-stretch :
      (g : Polynomial) (s : Sequence) (k m : ℕ)
      → T (annihilates_known F g (cut s k m))
      → (j : ℕ)
      → j + degree g < m
      → act_at F g s (k + j) ≡ 0
  known-stretch g s k m h j l =
      sym (act_at-cut g s k m j l)
      ∙ known-places g (cut s k m) h j (subst (λ n. j + degree g < n) (sym (length_cut s k m)) l)

  pub stretch-known :
      (g : Polynomial) (s : Sequence) (k m : ℕ)
      → ((j : ℕ) → j + degree g < m → act_at F g s (k + j) ≡ 0)
      → T (annihilates_known F g (cut s k m))
  stretch-known g s k m h =
      places-known g (cut s k m)
      (λ j l. let b : j + degree g < m = rw length_cut at l in act_at-cut g s k m j b ∙ h j b)

  -- what annihilates the sequence annihilates each stretch
  pub endless-known :
      (g : Polynomial) (s : Sequence) (k m : ℕ)
      → AnnihilatesEndless F g s
      → T (annihilates_known F g (cut s k m))
  endless-known g s k m h = stretch-known g s k m (λ j _. h (k + j))

  -- Periods
  pub period-places :
      (g : Polynomial) (ts : List ℕ)
      → T (annihilates_period F g ts)
      → (k : ℕ)
      → k < length ts
      → act_at F g (periodic ts) k ≡ 0
  unfolding annihilates_period
  period-places g ts h k l =
      eqb→eq (act_at F g (periodic ts) k) 0
      (all_first (λ k. eqb (act_at F g (periodic ts) k) 0) (length ts) h k l)

  pub places-period :
      (g : Polynomial) (ts : List ℕ)
      → ((k : ℕ) → k < length ts → act_at F g (periodic ts) k ≡ 0)
      → T (annihilates_period F g ts)
  unfolding annihilates_period
  places-period g ts h =
      first-all (λ k. eqb (act_at F g (periodic ts) k) 0) (length ts)
      (λ k l. subst (λ n. T (eqb n 0)) (sym (h k l)) (eqb_refl 0))

  -- the action on a sequence that repeats repeats
  pub act_at-periodic :
      (g : Polynomial) (s : Sequence) (n : ℕ) → Periodic s n → Periodic (act_at F g s) n
  act_at-periodic g s n h k =
      act_at_local F g s s (k + n) k (λ i _. ap s (omega arith) ∙ h (k + i))

pub periodic-repeats : (ts : List ℕ) → Periodic (periodic ts) (length ts)
unfolding periodic
periodic-repeats ts i = ap (λ j. get_or ts j 0) (add-mod_right i (length ts))

pub periodic-period : (ts : List ℕ) → 0 < length ts → Period (periodic ts) (length ts)
periodic-period ts l = record { positive = l; repeats = periodic-repeats ts }

pub periodic-get_or : (ts : List ℕ) (i : ℕ) → i < length ts → periodic ts i ≡ get_or ts i 0
unfolding periodic
periodic-get_or ts i l = ap (λ j. get_or ts j 0) (mod-eq_of_lt l)

-- a sequence that repeats is the repetition of each of its stretches of that length
pub periodic-cut :
    (s : Sequence) (k n : ℕ) → 0 < n → Periodic s n → (i : ℕ) → periodic (cut s k n) i ≡ s (k + i)
unfolding periodic
periodic-cut s k n l h i =
    ap (λ m. get_or (cut s k n) (i % m) 0) (length_cut s k n)
    ∙ get_or-cut s k n (i % n) (mod-lt i l)
    ∙ periodic-remainder {s = λ i. s (k + i)} n (λ i. ap s (sym (ℕ.add_assoc k i n)) ∙ h (k + i)) i

module _ (F : Field) where
  pub period-endless :
      (g : Polynomial) (ts : List ℕ)
      → 0 < length ts
      → T (annihilates_period F g ts)
      → AnnihilatesEndless F g (periodic ts)
  period-endless g ts l h =
      periodic-all (length ts) (act_at-periodic F g (periodic ts) (length ts) (periodic-repeats ts)) 0 l
      (period-places F g ts h)

  pub endless-period :
      (g : Polynomial) (ts : List ℕ) → AnnihilatesEndless F g (periodic ts) → T (annihilates_period F g ts)
  endless-period g ts h = places-period F g ts (λ k _. h k)

-- The terms are elements, and what annihilates them fits them
module _ {F : Field} (I : IsField F) where
  pub known-in_field : (ts : List ℕ) → T (are_elements F ts) → InField F (known ts)
  unfolding known
  known-in_field ts h i = get_or-below I ts h i

  pub periodic-in_field : (ts : List ℕ) → T (are_elements F ts) → InField F (periodic ts)
  unfolding periodic
  periodic-in_field ts h i = get_or-below I ts h (i % length ts)

  pub known-fits :
      (g : Polynomial) (ts : List ℕ)
      → T (is_monic_over F g)
      → T (annihilates_known F g ts)
      → Fits (poly I g) (degree g) (length ts) (sequence I (known ts))
  known-fits g ts m h =
      record {
        monic = monic-poly I g m;
        vanishes = λ k l. act_at-zero I g (known ts) k (known-places F g ts h k l);
      }

  pub fits-known :
      (g : Polynomial) (ts : List ℕ)
      → Fits (poly I g) (degree g) (length ts) (sequence I (known ts))
      → T (annihilates_known F g ts)
  fits-known g ts h = places-known F g ts (λ k l. zero-act_at I g (known ts) k (h.vanishes k l))
