-- The searches of `meaning`, in words.
--
--   T_true, true-T, T_false, false-T == a test that passes is `true`, one that fails is `false`
--   T-same         == two tests that pass together are equal
--   not-false, not-true, not-not_true, T-not-false == a test and its negation
--   all-member, member-all   == a test passes on the whole of a list exactly where it passes on each member
--   some-member, member-some == it passes on some element exactly where it passes on a member, given with it
--   none-cons, none_uncons == no element passes: neither the first nor one of the others
--   none-at        == a test that passes on no element fails at each place
--   all-range, range_all, some-range, range-some == the same for a range, by its bounds; `-first` from 0 on
--   first_passes, first_fails, first-nil == the first that passes, by the head of the list
--   first-at, first-later == the same by places: of the list from place i on
--   selected-same, selected-member, member-selected == the elements of a range that are selected: they depend
--                     on the values of the test there alone, and are the members that pass
--   first-selected, none-selected == the first of these that passes another test passes both, and no number
--                     before it does; where there is none, no number does
--   least-some     == what `least` finds is the least number that passes, and at most the bound
--   least-none     == where it finds none, no number up to the bound passes
--   least-found, least-missing == the converses
--   together-range == `together` of the answers of a range has each of the answers, in order
--   settle_answered, answered_settle, settle_refused == what a settled table says of its conditions
--   in_answered, in_refused == what an answer or a refusal in the field of a name says of the name
--   map_answered, map_refused == what `map_result` says of a result
--   never_answered, refused_same, answered_same == a refusal is no answer, and each is by one number or value
--
-- Membership is `List.Memᴰ`, as data.
-- Assumes nothing.
use Prim.Native.Nat.{ℕ, zero, suc, ◌+◌, ◌≤◌, ◌<◌, zero-le, suc-le-suc}
use native.Mathlib.Omega.{arith}
use native.Mathlib.Nat.{le_of_suc-le-suc, not-suc-le-zero, le_refl, le_trans, eq-or-lt_of_le}
use mathlib.Core.Path.{◌≡◌, refl, sym, ap, ◌∙◌, subst}
use mathlib.Core.HLevel.{⊥_prop}
use mathlib.Core.Logic.{◌⊎◌, inl, inr, ∥∥₁_elim}
use mathlib.Core.Bool.{Bool, true, false, not, ◌&&◌, ◌||◌}
use mathlib.Core.List.{List, [], ◌∷◌, map, Memᴰ}
use mathlib.Core.List.Pairwise
use mathlib.Core.List.{Nodup}
use mathlib.Core.Option.{Option, none, some, some-injective, none-ne-some, some-ne-none}
use lib.ListN.{length, get_or, drop, length-map, get_or-map}
use lib.Seq.{drop-cons}
use lib.Dec.{T}
use Rattle.meaning.specs.declared.FieldName.{FieldName}
use Rattle.meaning.specs.Search.{range, holds_for_all, holds_for_some, least, map_option, bind, is_none}
use Rattle.meaning.specs.Search.{together}
use Rattle.meaning.specs.Search.{first_that, selected}
use Rattle.meaning.specs.Field.{Field}
use Rattle.meaning.specs.Result.{Check, Result, refused, answered, first_of, settle, value_of, map_result}
use Rattle.meaning.specs.FieldNames.{named_field, not_field, field_number, in_field}
use Rattle.meaning.proofs.Tables.{in_field_lem, no_field}
use Rattle.meaning.proofs.Tables.{first_of_skip, first_of_stop, settle-none, least_zero, first_that_here}
use Rattle.meaning.proofs.Tables.{selected_here}
use Rattle.meaning.proofs.Passes.{Passes, first_of_passes, first_of_decides, holds, before}
use Rattle.algebra.proofs.Numbers.Number.{Least}

-- A test and its outcome
pub T_true : {b : Bool} → T b → b ≡ true
T_true {b = true} h = refl
T_true {b = false} h = absurd h

pub true-T : {b : Bool} → b ≡ true → T b
true-T e = subst T (sym e) tt

pub T_false : {b : Bool} → ¬ T b → b ≡ false
T_false {b = true} h = absurd (h tt)
T_false {b = false} h = refl

pub false-T : {b : Bool} → b ≡ false → ¬ T b
false-T e h = subst T e h

pub T-decided : (b : Bool) → Dec (T b)
T-decided true = yes tt
T-decided false = no (λ h. h)

pub T-same : {b c : Bool} → (T b → T c) → (T c → T b) → b ≡ c
T-same {b = true} {c} f g = sym (T_true (f tt))
T-same {b = false} {c} f g = sym (T_false g)

pub not-false : (b : Bool) → not b ≡ false → T b
not-false true e = tt
not-false false e = absurd (false-T e tt)

pub not-true : (b : Bool) → not b ≡ true → b ≡ false
not-true true e = absurd (false-T (sym e) tt)
not-true false e = refl

pub not-not_true : (b : Bool) → not b ≡ false → b ≡ true
not-not_true b e = T_true {b = b} (not-false b e)

pub T-not-false : (b : Bool) → T b → not b ≡ false
T-not-false b h = ap not (T_true {b = b} h)

pub T_and : (b c : Bool) → T (b && c) → T b × T c
T_and true c h = (tt, h)
T_and false c h = absurd h

pub and_T : (b c : Bool) → T b → T c → T (b && c)
and_T true c h k = k
and_T false c h k = absurd h

pub or-false : (b c : Bool) → (b || c) ≡ false → (b ≡ false) × (c ≡ false)
or-false true c e = absurd (false-T e tt)
or-false false c e = (refl, e)

-- Every element passes
module _ {A : Type 0} (t : A → Bool) where
  pub all_nil : T (holds_for_all t [])
  unfolding holds_for_all
  all_nil = tt

  pub all_cons : (a : A) (l : List A) → T (t a) → T (holds_for_all t l) → T (holds_for_all t (a ∷ l))
  unfolding holds_for_all
  all_cons a l h hs = rw (T_true {b = t a} h, holds_for_all) hs

  pub all_uncons : (a : A) (l : List A) → T (holds_for_all t (a ∷ l)) → T (t a) × T (holds_for_all t l)
  unfolding holds_for_all
  all_uncons a l h = go (t a) refl
    where
      go : (b : Bool) → t a ≡ b → T (t a) × T (holds_for_all t l)
      go true e = (true-T e, (rw (e, holds_for_all) at h))
      go false e = absurd (rw (e, holds_for_all) at h)

  pub all-member : (l : List A) → T (holds_for_all t l) → (a : A) → Memᴰ a l → T (t a)
  all-member [] h a never = elim never [ ]
  all-member (b ∷ l) h a (Memᴰ.head e) = subst (λ c. T (t c)) (sym e) (all_uncons b l h).0
  all-member (b ∷ l) h a (Memᴰ.tail m) = all-member l (all_uncons b l h).1 a m

  pub member-all : (l : List A) → ((a : A) → Memᴰ a l → T (t a)) → T (holds_for_all t l)
  member-all [] h = all_nil
  member-all (a ∷ l) h =
      all_cons a l (h a (Memᴰ.head refl)) (member-all l (λ b m. h b (Memᴰ.tail m)))

  -- Some element passes
  pub some-nil : ¬ T (holds_for_some t [])
  unfolding holds_for_some
  some-nil h = h

  pub some-head : (a : A) (l : List A) → T (t a) → T (holds_for_some t (a ∷ l))
  unfolding holds_for_some
  some-head a l h = rw (T_true {b = t a} h, holds_for_some) tt

  pub some-tail : (a : A) (l : List A) → T (holds_for_some t l) → T (holds_for_some t (a ∷ l))
  unfolding holds_for_some
  some-tail a l h = go (t a) refl
    where
      go : (b : Bool) → t a ≡ b → T (holds_for_some t (a ∷ l))
      go true e = rw (e, holds_for_some) tt
      go false e = rw (e, holds_for_some) h

  pub some_uncons : (a : A) (l : List A) → T (holds_for_some t (a ∷ l)) → T (t a) ⊎ T (holds_for_some t l)
  unfolding holds_for_some
  some_uncons a l h = go (t a) refl
    where
      go : (b : Bool) → t a ≡ b → T (t a) ⊎ T (holds_for_some t l)
      go true e = inl (true-T e)
      go false e = inr (rw (e, holds_for_some) at h)

  pub some-member : (l : List A) → T (holds_for_some t l) → (a : A) × Memᴰ a l × T (t a)
  some-member [] h = absurd (some-nil h)
  some-member (b ∷ l) h = go (some-member l) (some_uncons b l h)
    where
      go :
          (T (holds_for_some t l) → (a : A) × Memᴰ a l × T (t a))
          → T (t b) ⊎ T (holds_for_some t l)
          → (a : A) × Memᴰ a (b ∷ l) × T (t a)
      go rest (inl h) = (b, Memᴰ.head refl, h)
      go rest (inr h) = let (a, m, p) = rest h in (a, Memᴰ.tail m, p)

  pub member-some : (l : List A) (a : A) → Memᴰ a l → T (t a) → T (holds_for_some t l)
  member-some [] a never h = elim never [ ]
  member-some (b ∷ l) a (Memᴰ.head e) h = some-head b l (subst (λ c. T (t c)) e h)
  member-some (b ∷ l) a (Memᴰ.tail m) h = some-tail b l (member-some l a m h)

  pub none-cons : (a : A) (l : List A) → t a ≡ false → holds_for_some t l ≡ false
      → holds_for_some t (a ∷ l) ≡ false
  unfolding holds_for_some
  none-cons a l e h = rw (e, holds_for_some) h

  pub none_uncons : (a : A) (l : List A) → holds_for_some t (a ∷ l) ≡ false
      → (t a ≡ false) × (holds_for_some t l ≡ false)
  none_uncons a l h =
      (T_false (λ z. false-T h (some-head a l z)), T_false (λ z. false-T h (some-tail a l z)))

  pub none-member : (l : List A) → ¬ T (holds_for_some t l) → (a : A) → Memᴰ a l → ¬ T (t a)
  none-member l h a m p = h (member-some l a m p)

-- what stands in a place of a list is a member
pub get_or-member : {A : Type 0} (l : List A) (i : ℕ) (d : A) → i < length l → Memᴰ (get_or l i d) l
get_or-member [] i d k = absurd (not-suc-le-zero k)
get_or-member (a ∷ l) zero d k = Memᴰ.head refl
get_or-member (a ∷ l) (suc i) d k = Memᴰ.tail (get_or-member l i d (le_of_suc-le-suc k))

pub none-at :
    {A : Type 0} (t : A → Bool) (d : A) (l : List A) (i : ℕ)
    → holds_for_some t l ≡ false
    → i < length l
    → t (get_or l i d) ≡ false
none-at t d l i e k = T_false (none-member t l (false-T e) (get_or l i d) (get_or-member l i d k))

-- The searches depend on the values of the test at the members alone
module _ {A : Type 0} (t u : A → Bool) (l : List A) (same : (a : A) → Memᴰ a l → t a ≡ u a) where
  pub some_same : holds_for_some t l ≡ holds_for_some u l
  some_same =
      T-same
      (λ h. let (a, m, p) = some-member t l h in member-some u l a m (subst T (same a m) p))
      (λ h. let (a, m, p) = some-member u l h in member-some t l a m (subst T (sym (same a m)) p))

-- Ranges
pub range-nil : (a : ℕ) → range a 0 ≡ []
unfolding range
range-nil a = refl

pub range_cons : (a n : ℕ) → range a (suc n) ≡ a ∷ range (suc a) n
unfolding range
range_cons a n = refl

pub length-range : (a n : ℕ) → length (range a n) ≡ n
unfolding range
length-range a zero = refl
length-range a (suc n) = ap suc (length-range (suc a) n)

pub get_or-range : (a n i d : ℕ) → i < n → get_or (range a n) i d ≡ a + i
unfolding range
get_or-range a zero i d l = absurd (not-suc-le-zero l)
get_or-range a (suc n) zero d l = omega arith
get_or-range a (suc n) (suc i) d l = get_or-range (suc a) n i d (le_of_suc-le-suc l) ∙ omega arith

pub member-range : {i : ℕ} (a n : ℕ) → Memᴰ i (range a n) → (a ≤ i) × (i < a + n)
unfolding range
member-range {i = i} a zero never = elim never [ ]
member-range a (suc n) (Memᴰ.head e) = omega arith
member-range a (suc n) (Memᴰ.tail m) = let h = member-range (suc a) n m in omega arith

pub range-member : {i : ℕ} (a n : ℕ) → a ≤ i → i < a + n → Memᴰ i (range a n)
unfolding range
range-member a zero l h = absurd (omega arith)
range-member {i} a (suc n) l h = go (range-member (suc a) n) (eq-or-lt_of_le l)
  where
    go :
        (suc a ≤ i → i < suc a + n → Memᴰ i (range (suc a) n))
        → (a ≡ i) ⊎ (a < i)
        → Memᴰ i (a ∷ range (suc a) n)
    go rest (inl e) = Memᴰ.head (sym e)
    go rest (inr s) = Memᴰ.tail (rest s (omega arith))

pub range-once : (a n : ℕ) → Nodup (range a n)
unfolding range
range-once a zero = Pairwise.nil
range-once a (suc n) = Pairwise.cons (λ i m e. ∥∥₁_elim m ⊥_prop (λ h. later i e h)) (range-once (suc a) n)
  where
    later : (i : ℕ) → a ≡ i → ¬ Memᴰ i (range (suc a) n)
    later i e h = let l = member-range (suc a) n h in omega arith

module _ (t : ℕ → Bool) where
  pub all-range : (a n : ℕ) → T (holds_for_all t (range a n)) → (i : ℕ) → a ≤ i → i < a + n → T (t i)
  all-range a n h i l m = all-member t (range a n) h i (range-member a n l m)

  pub range_all : (a n : ℕ) → ((i : ℕ) → a ≤ i → i < a + n → T (t i)) → T (holds_for_all t (range a n))
  range_all a n h = member-all t (range a n) (λ i m. let (l, b) = member-range a n m in h i l b)

  pub some-range :
      (a n : ℕ) → T (holds_for_some t (range a n)) → (i : ℕ) × (a ≤ i) × (i < a + n) × T (t i)
  some-range a n h =
      let (i, m, p) = some-member t (range a n) h in
      let (l, b) = member-range a n m in
      (i, l, b, p)

  pub range-some : (a n i : ℕ) → a ≤ i → i < a + n → T (t i) → T (holds_for_some t (range a n))
  range-some a n i l m p = member-some t (range a n) i (range-member a n l m) p

  pub none-range : (a n : ℕ) → ¬ T (holds_for_some t (range a n)) → (i : ℕ) → a ≤ i → i < a + n → ¬ T (t i)
  none-range a n h i l m p = h (range-some a n i l m p)

  pub all_first : (n : ℕ) → T (holds_for_all t (range 0 n)) → (i : ℕ) → i < n → T (t i)
  all_first n h i l = all-range 0 n h i zero-le (omega arith)

  pub first-all : (n : ℕ) → ((i : ℕ) → i < n → T (t i)) → T (holds_for_all t (range 0 n))
  first-all n h = range_all 0 n (λ i _ m. h i (omega arith))

-- The first that passes
module _ {A : Type 0} (t : A → Bool) where
  pub first-nil : first_that t [] ≡ none
  unfolding first_that
  first-nil = refl

  pub first_passes : (a : A) (l : List A) → T (t a) → first_that t (a ∷ l) ≡ some a
  first_passes a l h = first_that_here t a l (T_true h)

  pub first_fails : (a : A) (l : List A) → ¬ T (t a) → first_that t (a ∷ l) ≡ first_that t l
  unfolding first_that
  first_fails a l h = rw (T_false {b = t a} h, first_that)

  module _ (l : List A) (i : ℕ) (d : A) (k : i < length l) where
    pub first-at : T (t (get_or l i d)) → first_that t (drop i l) ≡ some (get_or l i d)
    first-at h = ap (first_that t) (drop-cons l i d k) ∙ first_passes (get_or l i d) (drop (suc i) l) h

    pub first-later : ¬ T (t (get_or l i d)) → first_that t (drop i l) ≡ first_that t (drop (suc i) l)
    first-later h = ap (first_that t) (drop-cons l i d k) ∙ first_fails (get_or l i d) (drop (suc i) l) h

-- The elements that pass
selected-there : {A : Type 0} (t : A → Bool) (a : A) (l : List A) → ¬ T (t a)
    → selected t (a ∷ l) ≡ selected t l
unfolding selected
selected-there t a l h = rw (T_false {b = t a} h, selected)

pub selected-same :
    (t u : ℕ → Bool) (a n : ℕ)
    → ((i : ℕ) → a ≤ i → i < a + n → t i ≡ u i)
    → selected t (range a n) ≡ selected u (range a n)
unfolding selected range
selected-same t u a zero h = refl
selected-same t u a (suc n) h =
    go (selected-same t u (suc a) n (λ i l k. h i (omega arith) (omega arith))) (T-decided (u a))
  where
    same : t a ≡ u a
    same = h a (omega arith) (omega arith)

    go :
        selected t (range (suc a) n) ≡ selected u (range (suc a) n)
        → Dec (T (u a))
        → selected t (a ∷ range (suc a) n) ≡ selected u (a ∷ range (suc a) n)
    go rest (yes y) =
        selected_here t a (range (suc a) n) (same ∙ T_true y)
        ∙ ap (◌∷◌ a) rest
        ∙ sym (selected_here u a (range (suc a) n) (T_true y))
    go rest (no y) =
        selected-there t a (range (suc a) n) (λ z. y (subst T same z))
        ∙ rest
        ∙ sym (selected-there u a (range (suc a) n) y)

pub selected-member :
    {A : Type 0} (t : A → Bool) (l : List A) {a : A} → Memᴰ a (selected t l) → Memᴰ a l × T (t a)
unfolding selected
selected-member {A = A} t [] {a = a} m = elim m [ ]
selected-member t (b ∷ l) {a} m = go (selected-member t l) (T-decided (t b))
  where
    selected-head :
        T (t b)
        → Memᴰ a (b ∷ selected t l)
        → (Memᴰ a (selected t l) → Memᴰ a l × T (t a))
        → Memᴰ a (b ∷ l) × T (t a)
    selected-head h (Memᴰ.head e) rest = (Memᴰ.head e, subst (λ c. T (t c)) (sym e) h)
    selected-head h (Memᴰ.tail k) rest = let (x, y) = rest k in (Memᴰ.tail x, y)

    go : (Memᴰ a (selected t l) → Memᴰ a l × T (t a)) → Dec (T (t b))
        → Memᴰ a (b ∷ l) × T (t a)
    go rest (yes h) = selected-head h (subst (Memᴰ a) (selected_here t b l (T_true h)) m) rest
    go rest (no h) =
        let (x, y) = rest (subst (Memᴰ a) (selected-there t b l h) m) in (Memᴰ.tail x, y)

pub member-selected :
    {A : Type 0} (t : A → Bool) (l : List A) {a : A} → Memᴰ a l → T (t a) → Memᴰ a (selected t l)
member-selected {A = A} t [] {a = a} m h = elim m [ ]
member-selected t (b ∷ l) {a} m h = go m (member-selected t l) (T-decided (t b))
  where
    go : Memᴰ a (b ∷ l) → (Memᴰ a l → T (t a) → Memᴰ a (selected t l)) → Dec (T (t b))
        → Memᴰ a (selected t (b ∷ l))
    go (Memᴰ.head e) rest (yes y) =
        subst (Memᴰ a) (sym (selected_here t b l (T_true y))) (Memᴰ.head e)
    go (Memᴰ.tail k) rest (yes y) =
        subst (Memᴰ a) (sym (selected_here t b l (T_true y))) (Memᴰ.tail (rest k h))
    go (Memᴰ.head e) rest (no y) = absurd (y (subst (λ c. T (t c)) e h))
    go (Memᴰ.tail k) rest (no y) = subst (Memᴰ a) (sym (selected-there t b l y)) (rest k h)

pub none-selected :
    (t u : ℕ → Bool) (a n : ℕ)
    → first_that t (selected u (range a n)) ≡ none
    → (k : ℕ)
    → a ≤ k
    → k < a + n
    → T (u k)
    → ¬ T (t k)
none-selected t u a n e k l m h p =
    let member = member-selected u (range a n) (range-member a n l m) h in
    first-none (selected u (range a n)) e member
  where
    first-none : (c : List ℕ) → first_that t c ≡ none → Memᴰ k c → ⊥
    first-none [] e never = elim never [ ]
    first-none (b ∷ c) e (Memᴰ.head q) =
        some-ne-none b (sym (first_passes t b c (subst (λ i. T (t i)) q p)) ∙ e)
    first-none (b ∷ c) e (Memᴰ.tail i) = go (first-none c) (T-decided (t b))
      where
        go : (first_that t c ≡ none → Memᴰ k c → ⊥) → Dec (T (t b)) → ⊥
        go rest (yes y) = some-ne-none b (sym (first_passes t b c y) ∙ e)
        go rest (no y) = rest (sym (first_fails t b c y) ∙ e) i

pub record FirstSelected (t u : ℕ → Bool) (a n m : ℕ) : Type 0 where
  pub at_least : a ≤ m
  pub less : m < a + n
  pub chosen : T (u m)
  pub passes : T (t m)
  pub first : (k : ℕ) → a ≤ k → k < m → T (u k) → ¬ T (t k)

pub first-selected :
    (t u : ℕ → Bool) (a n : ℕ) {m : ℕ}
    → first_that t (selected u (range a n)) ≡ some m
    → FirstSelected t u a n m
unfolding selected range
first-selected t u a zero e = absurd (none-ne-some _ (sym (first-nil t) ∙ e))
first-selected t u a (suc n) {m} e = go (first-selected t u (suc a) n) (T-decided (u a)) (T-decided (t a))
  where
    rest : List ℕ
    rest = selected u (range (suc a) n)

    later : FirstSelected t u (suc a) n m → (T (u a) → ¬ T (t a)) → FirstSelected t u a (suc n) m
    later x h =
        record {
          at_least = omega (arith, x.at_least);
          less = omega (arith, x.less);
          chosen = x.chosen;
          passes = x.passes;
          first = λ k l j y. elim (eq-or-lt_of_le l) [
            | inl q ↦ subst (λ i. ¬ T (t i)) q (h (subst (λ i. T (u i)) (sym q) y))
            | inr q ↦ x.first k q j y
          ];
        }

    go : (first_that t rest ≡ some m → FirstSelected t u (suc a) n m) → Dec (T (u a)) → Dec (T (t a))
        → FirstSelected t u a (suc n) m
    go step (no h) d =
        later (step (ap (first_that t) (sym (selected-there u a (range (suc a) n) h)) ∙ e))
        (λ y. absurd (h y))
    go step (yes h) (no y) =
        later
        (step
        (sym (first_fails t a rest y)
        ∙ ap (first_that t) (sym (selected_here u a (range (suc a) n) (T_true h)))
        ∙ e))
        (λ _. y)
    go step (yes h) (yes y) =
        let same : a ≡ m =
        some-injective a m
        (sym (first_passes t a rest y)
        ∙ ap (first_that t) (sym (selected_here u a (range (suc a) n) (T_true h)))
        ∙ e) in
        record {
          at_least = omega arith;
          less = omega arith;
          chosen = subst (λ i. T (u i)) same h;
          passes = subst (λ i. T (t i)) same y;
          first = λ k l j _. absurd (omega arith);
        }

-- Options
pub none_is_none : {A : Type 0} {o : Option A} → o ≡ none → T (is_none o)
unfolding is_none
none_is_none e = subst (λ o. T (is_none o)) (sym e) tt

pub bind-some : {A B : Type 0} {o : Option A} {a : A} (g : A → Option B) → o ≡ some a → bind o g ≡ g a
unfolding bind
bind-some g e = ap (λ o. bind o g) e

pub some-bind : {A B : Type 0} (o : Option A) (g : A → Option B) {b : B} → bind o g ≡ some b
    → (a : A) × (o ≡ some a) × (g a ≡ some b)
unfolding bind
some-bind none g e = absurd (none-ne-some _ e)
some-bind (some a) g e = (a, refl, e)

pub map_option-none : {A B : Type 0} (f : A → B) → map_option f none ≡ none
unfolding map_option
map_option-none f = refl

pub map_option-some :
    {A B : Type 0} (f : A → B) {o : Option A} {a : A} → o ≡ some a → map_option f o ≡ some (f a)
unfolding map_option
map_option-some f e = ap (map_option f) e

pub some-map_option :
    {A B : Type 0} (f : A → B) (o : Option A) {b : B}
    → map_option f o ≡ some b
    → (a : A) × (o ≡ some a) × (f a ≡ b)
unfolding map_option
some-map_option f none e = absurd (none-ne-some _ e)
some-map_option f (some a) e = (a, refl, some-injective _ _ e)

pub none-map_option : {A B : Type 0} (f : A → B) (o : Option A) → map_option f o ≡ none → o ≡ none
unfolding map_option
none-map_option f none e = refl
none-map_option f (some a) e = absurd (some-ne-none _ e)

-- The least number that passes
abbrev pub LeastPasses : (ℕ → Bool) → ℕ → Type 0
LeastPasses t r = Least (λ n. T (t n)) r

pub least-unique : {P : ℕ → Type 0} {m n : ℕ} → Least P m → Least P n → m ≡ n
least-unique {P} {m} {n} a b =
    let l : ¬ (m < n) = λ h. b.least m h a.holds in
    let r : ¬ (n < m) = λ h. a.least n h b.holds in
    omega arith

-- the search goes on where 0 does not pass
pub least-suc :
    (b : ℕ) (t : ℕ → Bool) → ¬ T (t 0) → least (suc b) t ≡ map_option suc (least b (λ r. t (suc r)))
unfolding least
least-suc b t h = rw (T_false {b = t 0} h, least)

pub least-stop : (t : ℕ → Bool) → ¬ T (t 0) → least 0 t ≡ none
unfolding least
least-stop t h = rw (T_false {b = t 0} h, least)

least-shift :
    (t : ℕ → Bool) {r : ℕ} → ¬ T (t 0) → LeastPasses (λ n. t (suc n)) r → LeastPasses t (suc r)
least-shift t {r} h l = record { holds = l.holds; least = smaller }
  where
    smaller : (m : ℕ) → m < suc r → ¬ T (t m)
    smaller zero s = h
    smaller (suc m) s = l.least m (le_of_suc-le-suc s)

least-zero-some :
    (b : ℕ) (t : ℕ → Bool) {r : ℕ} → T (t 0) → least b t ≡ some r → (r ≤ b) × LeastPasses t r
least-zero-some b t {r} h e = subst (λ n. (n ≤ b) × LeastPasses t n) is_zero (zero-le, first)
  where
    is_zero : 0 ≡ r
    is_zero = some-injective 0 r (sym (least_zero b t (T_true h)) ∙ e)

    first : LeastPasses t 0
    first = record { holds = h; least = λ m l. absurd (not-suc-le-zero l) }

pub least-some : (b : ℕ) (t : ℕ → Bool) {r : ℕ} → least b t ≡ some r → (r ≤ b) × LeastPasses t r
least-some zero t {r} e = go (T-decided (t 0))
  where
    go : Dec (T (t 0)) → (r ≤ 0) × LeastPasses t r
    go (yes h) = least-zero-some 0 t h e
    go (no h) = absurd (none-ne-some r (sym (least-stop t h) ∙ e))
least-some (suc b) t {r} e = go (λ k. least-some b (λ n. t (suc n)) {r = k}) (T-decided (t 0))
  where
    go :
        ((k : ℕ) → least b (λ n. t (suc n)) ≡ some k → (k ≤ b) × LeastPasses (λ n. t (suc n)) k)
        → Dec (T (t 0))
        → (r ≤ suc b) × LeastPasses t r
    go rest (yes h) = least-zero-some (suc b) t h e
    go rest (no h) =
        let (k, f, q) = some-map_option suc (least b (λ n. t (suc n))) (sym (least-suc b t h) ∙ e) in
        let (l, m) = rest k f in
        subst (λ n. (n ≤ suc b) × LeastPasses t n) q (suc-le-suc l, least-shift t h m)

pub least-none : (b : ℕ) (t : ℕ → Bool) → least b t ≡ none → (r : ℕ) → r ≤ b → ¬ T (t r)
least-none b t e zero l h = some-ne-none 0 (sym (least_zero b t (T_true h)) ∙ e)
least-none zero t e (suc r) l h = not-suc-le-zero l
least-none (suc b) t e (suc r) l h = least-none b (λ n. t (suc n)) rest r (le_of_suc-le-suc l) h
  where
    first : ¬ T (t 0)
    first z = some-ne-none 0 (sym (least_zero (suc b) t (T_true z)) ∙ e)

    rest : least b (λ n. t (suc n)) ≡ none
    rest = none-map_option suc (least b (λ n. t (suc n))) (sym (least-suc b t first) ∙ e)

-- the outcome of a search with both cases in words
pub least-either :
    (b : ℕ) (t : ℕ → Bool)
    → ((r : ℕ) × (least b t ≡ some r) × (r ≤ b) × LeastPasses t r)
    ⊎ ((least b t ≡ none) × ((r : ℕ) → r ≤ b → ¬ T (t r)))
least-either b t = go (least b t) refl
  where
    go :
        (o : Option ℕ)
        → least b t ≡ o
        → ((r : ℕ) × (least b t ≡ some r) × (r ≤ b) × LeastPasses t r)
        ⊎ ((least b t ≡ none) × ((r : ℕ) → r ≤ b → ¬ T (t r)))
    go none e = inr (e, least-none b t e)
    go (some r) e = let (l, m) = least-some b t e in inl (r, e, l, m)

pub least-found : (b : ℕ) (t : ℕ → Bool) {r : ℕ} → r ≤ b → LeastPasses t r → least b t ≡ some r
least-found b t {r} l m = elim (least-either b t) [
  | inl (k, e, _, n) ↦ e ∙ ap {B = Option ℕ} some (least-unique n m)
  | inr (_, h) ↦ absurd (h r l m.holds)
]

pub least-missing : (b : ℕ) (t : ℕ → Bool) → ((r : ℕ) → r ≤ b → ¬ T (t r)) → least b t ≡ none
least-missing b t h = elim (least-either b t) [
  | inl (k, _, l, n) ↦ absurd (h k l n.holds)
  | inr (e, _) ↦ e
]

-- a number that passes, at most the bound: the search finds one at most that
pub least_exists :
    (b : ℕ) (t : ℕ → Bool) (n : ℕ)
    → n ≤ b
    → T (t n)
    → (r : ℕ) × (least b t ≡ some r) × (r ≤ n) × LeastPasses t r
least_exists b t n l p = elim (least-either b t) [
  | inl (r, e, _, m) ↦ (r, e, below r m, m)
  | inr (_, h) ↦ absurd (h n l p)
]
  where
    below : (r : ℕ) → LeastPasses t r → r ≤ n
    below r m = let h : ¬ (n < r) = λ s. m.least n s p in omega arith

-- so does a smaller one that is not below what was found
pub least_narrower : (b c : ℕ) (t : ℕ → Bool) {r : ℕ} → r ≤ c → least b t ≡ some r → least c t ≡ some r
least_narrower b c t l e = least-found c t l (least-some b t e).1

pub least-same :
    (b : ℕ) (t u : ℕ → Bool) → ((r : ℕ) → r ≤ b → t r ≡ u r) → least b t ≡ least b u
least-same b t u same = elim (least-either b t) [
  | inl (r, e, l, m) ↦ e ∙ sym (least-found b u l (moved r l m))
  | inr (e, h) ↦ e ∙ sym (least-missing b u (λ r l p. h r l (subst T (sym (same r l)) p)))
]
  where
    moved : (r : ℕ) → r ≤ b → LeastPasses t r → LeastPasses u r
    moved r l m =
        record {
          holds = subst T (same r l) m.holds;
          least = λ k s p. m.least k s (subst T (sym (same k (le_trans (omega arith) l))) p);
        }

-- within a list the default does not matter
get_or_any : {A : Type 0} (l : List A) (i : ℕ) (d e : A) → i < length l → get_or l i d ≡ get_or l i e
get_or_any [] i d e l = absurd (not-suc-le-zero l)
get_or_any (a ∷ l) zero d e _ = refl
get_or_any (a ∷ l) (suc i) d e h = get_or_any l i d e (le_of_suc-le-suc h)

-- All the values of a list of answers
module _ {A : Type 0} where
  pub together-nil : together {A = A} [] ≡ some []
  unfolding together
  together-nil = refl

  pub together-cons :
      (a : A) (l : List (Option A)) → together (some a ∷ l) ≡ map_option (λ xs. a ∷ xs) (together l)
  unfolding together
  together-cons a l = refl

  together-none : (l : List (Option A)) → together (none ∷ l) ≡ none
  unfolding together
  together-none l = refl

  pub together-map : (l : List (Option A)) {xs : List A} → together l ≡ some xs → l ≡ map some xs
  together-map [] e = ap (map some) (some-injective _ _ (sym together-nil ∙ e))
  together-map (none ∷ l) e = absurd (none-ne-some _ (sym (together-none l) ∙ e))
  together-map (some a ∷ l) {xs} e =
      let (ys, f, q) = some-map_option (λ l. a ∷ l) (together l) (sym (together-cons a l) ∙ e) in
      ap (◌∷◌ (some a)) (together-map l f) ∙ ap (map some) q

  module _ (d : A) (f : ℕ → Option A) where
    -- the answers of a range, by places
    get_or_answers :
        (a n i : ℕ) (xs : List A) → i < n → get_or (map f (range a n)) i (some d) ≡ f (a + i)
    get_or_answers a n i xs l =
        get_or_any (map f (range a n)) i (some d) (f 0) (rw (length-map, length-range) l)
        ∙ get_or-map f (range a n) i 0
        ∙ ap f (get_or-range a n i 0 l)

    pub together-range :
        (a n : ℕ) {xs : List A}
        → together (map f (range a n)) ≡ some xs
        → (length xs ≡ n) × ((i : ℕ) → i < n → f (a + i) ≡ some (get_or xs i d))
    together-range a n {xs} e = (size, place)
      where
        equal : map f (range a n) ≡ map some xs
        equal = together-map (map f (range a n)) e

        size : length xs ≡ n
        size =
            sym (length-map xs some) ∙ ap length (sym equal) ∙ length-map (range a n) f ∙ length-range a n

        place : (i : ℕ) → i < n → f (a + i) ≡ some (get_or xs i d)
        place i l =
            sym (get_or_answers a n i xs l)
            ∙ ap (λ l. get_or l i (some d)) equal
            ∙ get_or-map some xs i d

  -- where each answer of the range is there, all are there together
  pub range-together-some :
      (f : ℕ → Option A) (a n : ℕ)
      → ((i : ℕ) → a ≤ i → i < a + n → (x : A) × (f i ≡ some x))
      → (xs : List A) × (together (map f (range a n)) ≡ some xs)
  range-together-some f a zero h = ([], ap (λ l. together (map f l)) (range-nil a) ∙ together-nil)
  range-together-some f a (suc n) h =
      let (x, e) = h a (le_refl a) (omega arith) in
      let (xs, es) = range-together-some f (suc a) n (λ i l m. h i (omega arith) (omega arith)) in (
        x ∷ xs,
        ap (λ l. together (map f l)) (range_cons a n)
            ∙ ap (λ o. together (o ∷ map f (range (suc a) n))) e
            ∙ together-cons x (map f (range (suc a) n))
            ∙ map_option-some (λ l. x ∷ l) es,
      )

-- Tables
module _ {A : Type 0} (v : Unit {0} → Option A) where
  pub settle_skip :
      (c : Check) (table : List Check) → c.1 tt ≡ false → settle (c ∷ table) v ≡ settle table v
  unfolding settle
  settle_skip c table e = rw (first_of_skip c table e, settle)

  pub settle-stop :
      (c : Check) (table : List Check) → c.1 tt ≡ true → settle (c ∷ table) v ≡ refused c.0
  unfolding settle
  settle-stop c table e = rw (first_of_stop c table e, settle)

  pub settle_answered :
      (table : List Check) {a : A} → settle table v ≡ answered a → Passes table × (v tt ≡ some a)
  unfolding settle value_of
  settle_answered table {a} e = go (first_of table) refl
    where
      value : (o : Option A) → value_of o ≡ answered a → o ≡ some a
      value none f = absurd (let z : ◌≡◌ {A = ℕ} 0 1 = cc in omega arith)
      value (some b) f = cc

      go : (o : Option ℕ) → first_of table ≡ o → Passes table × (v tt ≡ some a)
      go none f = (first_of_passes table f, value (v tt) (sym (settle-none table v f) ∙ e))
      go (some n) f =
          let g : refused n ≡ answered a = sym (rw (f, settle)) ∙ e in
          absurd (let z : ◌≡◌ {A = ℕ} 0 1 = cc in omega arith)

  pub answered_settle :
      (table : List Check) {a : A} → Passes table → v tt ≡ some a → settle table v ≡ answered a
  unfolding value_of
  answered_settle table h e = settle-none table v h.none_holds ∙ ap value_of e

  -- a refusal by n: n holds, and nothing before it; the number 0 stands for a missing value
  pub settle_refused :
      (table : List Check) {n : ℕ}
      → 0 < n
      → settle table v ≡ refused n
      → Passes (before n table) × (holds n table ≡ true)
  unfolding settle value_of
  settle_refused table {n} l e = go (first_of table) refl
    where
      value : (o : Option A) → value_of o ≡ refused n → n ≡ 0
      value none f = cc
      value (some b) f = absurd (let z : ◌≡◌ {A = ℕ} 0 1 = cc in omega arith)

      go : (o : Option ℕ) → first_of table ≡ o → Passes (before n table) × (holds n table ≡ true)
      go none f = absurd (omega (arith, value (v tt) (sym (settle-none table v f) ∙ e)))
      go (some k) f =
          let g : refused k ≡ refused n = sym (rw (f, settle)) ∙ e in
          first_of_decides n table (f ∙ ap {B = Option ℕ} some (cc))

-- Results
pub never_answered : {A : Type 0} {B : Type 0} {n : ℕ} {a : A} → refused n ≡ answered a → B
never_answered {n = n} {a} e = absurd (let z : ◌≡◌ {A = ℕ} 0 1 = cc in omega arith)

pub refused_same : {A : Type 0} {m n : ℕ} → ◌≡◌ {A = Result A} (refused m) (refused n) → m ≡ n
refused_same e = cc

pub answered_same : {A : Type 0} {a b : A} → answered a ≡ answered b → a ≡ b
answered_same e = cc

-- The answer in the field that a name stands for
module _ {A : Type 0} (name : FieldName) (answer : Field → Result A) where
  pub in_answered : {a : A} → in_field name answer ≡ answered a
      → (not_field name ≡ false) × (answer (named_field name) ≡ answered a)
  in_answered {a} e = go (not_field name) refl
    where
      go : (b : Bool) → not_field name ≡ b → (not_field name ≡ false) ×
          (answer (named_field name) ≡ answered a)
      go true h = never_answered (sym (no_field name answer h) ∙ e)
      go false h = (h, sym (in_field_lem name answer h) ∙ e)

  -- a refusal is that of the name, or one in the field
  pub in_refused : {n : ℕ} → in_field name answer ≡ refused n
      → ((not_field name ≡ true) × (n ≡ field_number name))
      ⊎ ((not_field name ≡ false) × (answer (named_field name) ≡ refused n))
  in_refused {n} e = go (not_field name) refl
    where
      go : (b : Bool) → not_field name ≡ b
          → ((not_field name ≡ true) × (n ≡ field_number name))
          ⊎ ((not_field name ≡ false) × (answer (named_field name) ≡ refused n))
      go true h = inl (h, refused_same (sym e ∙ no_field name answer h))
      go false h = inr (h, sym (in_field_lem name answer h) ∙ e)

pub map_answered :
    {A B : Type 0} (f : A → B) (r : Result A) {b : B}
    → map_result f r ≡ answered b
    → (a : A) × (r ≡ answered a) × (f a ≡ b)
unfolding map_result
map_answered f (refused n) e = absurd (let z : ◌≡◌ {A = ℕ} 0 1 = cc in omega arith)
map_answered f (answered a) e = (a, refl, cc)

pub map_refused :
    {A B : Type 0} (f : A → B) (r : Result A) {n : ℕ} → map_result f r ≡ refused n → r ≡ refused n
unfolding map_result
map_refused f (refused n) e = ap {B = Result _} refused (cc)
map_refused f (answered a) e = absurd (let z : ◌≡◌ {A = ℕ} 0 1 = cc in omega arith)
