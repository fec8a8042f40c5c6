-- What a table of conditions tells: an answer, or a refusal by one of its own numbers. What a rating with
-- such a result leaves in the lent bytes.
--
--   settle_tells     == a settled table tells so, where the value is not missing
--   Keeping numbers  == none of the numbers is 0, and each but 17 leaves the work bytes as they were
--   Listed numbers   == the numbers are numbers of refusals
--   meets            == some answer tells it
--   Sized …          == the polynomial of an answer has one coefficient more than the degree that is told,
--                       and there is room for it; the work bytes have their 8,192
--   rating_answers   == the lent bytes after the result of a rating
-- Assumes nothing.
use Prim.Native.Nat.{ℕ, suc, ◌≤◌}
use native.Mathlib.Omega.{arith}
use native.Mathlib.Decide.{ℕ_discrete}
use mathlib.Core.Path.{◌≡◌, refl, sym, ap, subst, ◌∙◌}
use mathlib.Core.Logic.{◌⊎◌, inl, inr}
use mathlib.Core.Bool.{Bool, true, false, not, ◌&&◌}
use mathlib.Core.List.{List, [], ◌∷◌, map}
use mathlib.Core.Option.{Option, none, some, some-injective, none-ne-some}
use lib.ListN.{length, take, drop, replicate, length-append, length-drop, length-replicate}
use lib.Seq.{take_at, drop_at}
use lib.Dec.{T, T_not, eqb, eqb_refl, eqb→eq, leb, leb→le}
use Rattle.meaning.specs.Answers.{told}
use Rattle.meaning.specs.declared.Refusal.{Refusal}
use Rattle.meaning.specs.Search.{holds_for_all, holds_for_some, is_none}
use Rattle.meaning.specs.Result.{Check, Result, Rated, answered, refused, first_of, settle, figures_of}
use Rattle.meaning.specs.Result.{map_result, value_of, answer_after, clearing, clears, work_after, written}
use Rattle.meaning.specs.Result.{cleared}
use Rattle.meaning.specs.Answers.{number_of}
use Rattle.meaning.specs.Calls.{LentAfter}
use Rattle.meaning.proofs.Determined.{refusal_of, refusal_found}
use Rattle.meaning.proofs.Tables.{first_of_skip, first_of_stop, settle-none, keeps_low}
use Rattle.meaning.proofs.Passes.{Passes, first_of_passes}
use Rattle.bridge.proofs.Basics.Searches.{T_and, T_false, some-head, some-tail, some-member, all-member}
use Rattle.bridge.proofs.Basics.Searches.{never_answered, refused_same, answered_same}
use Rattle.theorems.specs.Answering.{Answered, OneOf, Tells, Condition, Decided, RatingAnswers}
use Rattle.theorems.proofs.Deciding.{answered_decided, refused_decided}

-- A TABLE REFUSES BY ITS OWN NUMBERS
abbrev pub numbers_of : List Check → List ℕ
numbers_of table = map (λ c. c.0) table

among : (table : List Check) {n : ℕ} → first_of table ≡ some n → OneOf n (numbers_of table)
unfolding first_of
among [] e = absurd (none-ne-some _ e)
among (c ∷ table) {n} e = go (among table) (c.1 tt) refl
  where
    go :
        (first_of table ≡ some n → OneOf n (numbers_of table))
        → (b : Bool)
        → c.1 tt ≡ b
        → OneOf n (numbers_of (c ∷ table))
    go rest true h =
        some-head (eqb n) c.0 (numbers_of table)
        (subst (λ m. T (eqb n m)) (sym (some-injective _ _ (sym (first_of_stop c table h) ∙ e)))
        (eqb_refl n))
    go rest false h =
        some-tail (eqb n) c.0 (numbers_of table) (rest (sym (first_of_skip c table h) ∙ e))

pub settle_tells :
    {A : Type 0} (v : Unit {0} → Option A) (table : List Check)
    → (Passes table → (a : A) × (v tt ≡ some a))
    → Tells (numbers_of table) (settle table v)
unfolding settle value_of
settle_tells v table value = go (first_of table) refl
  where
    go : (o : Option ℕ) → first_of table ≡ o → Tells (numbers_of table) (settle table v)
    go none f =
        let (a, q) = value (first_of_passes table f) in inl (a, settle-none table v f ∙ ap value_of q)
    go (some n) f = inr (n, rw (f, settle), among table f)

pub map_tells :
    {A B : Type 0} (numbers : List ℕ) (g : A → B) (x : Result A) {y : Result B}
    → y ≡ map_result g x
    → Tells numbers x
    → Tells numbers y
unfolding map_result
map_tells numbers g x e (inl (a, q)) = inl (g a, e ∙ ap (map_result g) q)
map_tells numbers g x e (inr (n, q, h)) = inr (n, e ∙ ap (map_result g) q, h)

-- 0 is no number of a list
pub tells_zero :
    {A : Type 0} (numbers : List ℕ) (x : Result A)
    → ¬ OneOf 0 numbers
    → Tells numbers x
    → x ≡ refused 0
    → ⊥
tells_zero numbers x z (inl (a, q)) e = never_answered (sym e ∙ q)
tells_zero numbers x z (inr (n, q, h)) e = z (subst (λ k. OneOf k numbers) (refused_same (sym q ∙ e)) h)

-- by a test of the list
pub no_zero : (numbers : List ℕ) → T (not (holds_for_some (eqb 0) numbers)) → ¬ OneOf 0 numbers
no_zero numbers h = T_not (holds_for_some (eqb 0) numbers) h

abbrev pub Keeping : List ℕ → Type 0
Keeping numbers = (n : ℕ) → OneOf n numbers → (1 ≤ n) × ((n ≡ 17 → ⊥) → clears n ≡ false)

-- so it is of numbers from 1 to 17, by a test of the list
pub keeping : (numbers : List ℕ) → T (holds_for_all (λ k. leb 1 k && leb k 17) numbers) → Keeping numbers
keeping numbers h n t =
    let (k, i, z) = some-member (eqb n) numbers t in
    let (low, high) = T_and (leb 1 k) (leb k 17) (all-member (λ k. leb 1 k && leb k 17) numbers h k i) in
    let (l, u) =
    subst (λ j. (1 ≤ j) × (j ≤ 17)) (sym (eqb→eq n k z)) (leb→le 1 k low, leb→le k 17 high) in
    (l, λ other. keeps_low n (omega arith))

pub keeping-zero : (numbers : List ℕ) → Keeping numbers → ¬ OneOf 0 numbers
keeping-zero numbers h t = absurd (omega (arith, (h 0 t).0))

-- SOME ANSWER TELLS IT

-- the number is that of a refusal
unfoldable pub is_listed : ℕ → Bool
is_listed n = not (is_none (refusal_of n))

pub listed_refusal : (n : ℕ) → T (is_listed n) → (x : Refusal) × (number_of x ≡ n)
unfolding is_listed is_none
listed_refusal n h = go (refusal_of n) refl h
  where
    go : (o : Option Refusal) → refusal_of n ≡ o → T (not (is_none o)) → (x : Refusal) × (number_of x ≡ n)
    go none e k = absurd k
    go (some x) e k = (x, refusal_found n e)

abbrev pub Listed : List ℕ → Type 0
Listed numbers = (n : ℕ) → OneOf n numbers → (x : Refusal) × (number_of x ≡ n)

-- by a test of the list
pub listed : (numbers : List ℕ) → T (holds_for_all is_listed numbers) → Listed numbers
listed numbers h n t =
    let (k, m, z) = some-member (eqb n) numbers t in
    let (x, e) = listed_refusal k (all-member is_listed numbers h k m) in
    (x, e ∙ sym (eqb→eq n k z))

pub meets :
    {R A : Type 0} (tell : R → Result A) (make : A → R) (refuse : Refusal → R)
    → ((a : A) → tell (make a) ≡ answered a)
    → ((x : Refusal) → tell (refuse x) ≡ refused (number_of x))
    → (numbers : List ℕ)
    → Listed numbers
    → (x : Result A)
    → Tells numbers x
    → (r : R) × (tell r ≡ x)
meets tell make refuse made turned numbers listed x (inl (a, e)) = (make a, made a ∙ sym e)
meets tell make refuse made turned numbers listed x (inr (n, e, h)) =
    let (z, q) = listed n h in
    (refuse z, turned z ∙ ap refused q ∙ sym e)

-- THE LENT BYTES
pub record Sized {A : Type 0} (degree_of : A → ℕ) (result : Result (Rated A)) (answer work : ℕ) : Type 0 where
  pub polynomial : (a : Rated A) → result ≡ answered a → length a.polynomial ≡ suc (degree_of a.figures)
  pub small : (a : Rated A) → result ≡ answered a → degree_of a.figures ≤ 4096
  pub lent : Answered result ⊎ (result ≡ refused 17) → (4097 ≤ answer) × (8192 ≤ work)

pub lent-after : {A : Type 0} (x : Result (Rated A)) (answer work : List ℕ)
    → LentAfter x answer work (answer_after x answer) (work_after x work)
lent-after x answer work = record { answer_bytes = refl; work_bytes = refl }

work-kept : (A : Type 0) (n : ℕ) (work : List ℕ)
    → clears n ≡ false
    → work_after {A = A} (refused n) work ≡ work
unfolding work_after
work-kept A n work e = rw (e, work_after)

pub work_untouched : (A : Type 0) (n : ℕ) (work : List ℕ)
    → (OneOf n clearing → ⊥)
    → work_after {A = A} (refused n) work ≡ work
unfolding clears
work_untouched A n work h = work-kept A n work (T_false h)

pub seventeen-clears : {n : ℕ} → n ≡ 17 → OneOf n clearing
unfolding clearing holds_for_some
seventeen-clears e = subst (λ k. OneOf k clearing) (sym e) tt

work-17 : (A : Type 0) (n : ℕ) (work : List ℕ) → n ≡ 17 → work_after {A = A} (refused n) work ≡ cleared work
unfolding work_after clears clearing holds_for_some
work-17 A n work e = ap (λ k. work_after {A = A} (refused k) work) e

pub cleared-front : (work : List ℕ) → take 8192 (cleared work) ≡ replicate 8192 0
unfolding cleared
cleared-front work =
    take_at (replicate 8192 0) (drop 8192 work) 8192 (length-replicate {A = ℕ} 8192 0)

pub cleared-beyond : (work : List ℕ) → drop 8192 (cleared work) ≡ drop 8192 work
unfolding cleared
cleared-beyond work =
    drop_at (replicate 8192 0) (drop 8192 work) 8192 (length-replicate {A = ℕ} 8192 0)

pub cleared-length : (work : List ℕ) → 8192 ≤ length work → length (cleared work) ≡ length work
unfolding cleared
cleared-length work l =
    length-append (replicate 8192 0) (drop 8192 work)
    ∙ omega (arith, length-replicate {A = ℕ} 8192 0, length-drop 8192 work, l)

-- whether a refusal is by 17
by-seventeen : (n : ℕ) → (n ≡ 17) ⊎ (n ≡ 17 → ⊥)
by-seventeen n = elim (ℕ_discrete n 17) [ yes e ↦ inl e | no e ↦ inr e ]

refused_lent :
    {B : Type 0} (numbers : List ℕ) (conditions : List Condition) (degree_from : B → ℕ) (n : ℕ)
    (told : Result B)
    (answer work answer' work' : List ℕ)
    → told ≡ refused n
    → OneOf n numbers
    → Decided conditions told
    → answer' ≡ answer
    → (n ≡ 17 → (work' ≡ cleared work) × (8192 ≤ length work))
    → ((n ≡ 17 → ⊥) → work' ≡ work)
    → RatingAnswers numbers conditions degree_from told answer work answer' work'
refused_lent numbers conditions degree_from n told answer work answer' work' e h decided kept seventeen
    other =
    record {
      tells = inr (n, e, h);
      decided = decided;
      answer_kept = λ k q. kept;
      answer_after = λ a q. never_answered (sym e ∙ q);
      answer_length = ap length kept;
      work-kept =
          λ k q h.
          let same : k ≡ n = refused_same (sym q ∙ e) in
          other (λ z. h (seventeen-clears (same ∙ z)));
      work_cleared =
          λ x. elim x [
            | inl (a, q) ↦ never_answered (sym e ∙ q)
            | inr q ↦ ap (take 8192) (seventeen (refused_same (sym e ∙ q))).0 ∙ cleared-front work
          ];
      work_beyond = elim (by-seventeen n) [
        | inl s ↦ ap (drop 8192) (seventeen s).0 ∙ cleared-beyond work
        | inr s ↦ ap (drop 8192) (other s)
      ];
      work_length = elim (by-seventeen n) [
        | inl s ↦ ap length (seventeen s).0 ∙ cleared-length work (seventeen s).1
        | inr s ↦ ap length (other s)
      ];
    }

written-length : (g answer : List ℕ) → length g ≤ length answer → length (written g answer) ≡ length answer
unfolding written
written-length g answer l =
    length-append g (drop (length g) answer) ∙ omega (arith, length-drop (length g) answer, l)

written_after : (g answer : List ℕ) (n : ℕ) → length g ≡ n → drop n (written g answer) ≡ drop n answer
unfolding written
written_after g answer n e = drop_at g (drop (length g) answer) n e ∙ ap (λ k. drop k answer) e

-- what is told of a result: a refusal by its number, an answer by its figures
pub rating_answers :
    {A B : Type 0} (numbers : List ℕ) (conditions : List Condition) (degree_from : B → ℕ) (g : A → B)
    (result : Result (Rated A)) (told : Result B) (answer work answer' work' : List ℕ)
    → told ≡ map_result g (figures_of result)
    → Keeping numbers
    → Tells numbers result
    → Decided conditions result
    → Sized (λ a. degree_from (g a)) result (length answer) (length work)
    → LentAfter result answer work answer' work'
    → RatingAnswers numbers conditions degree_from told answer work answer' work'
unfolding map_result figures_of answer_after work_after
rating_answers {A} numbers conditions degree_from g (refused n) told answer work answer' work' e kept t d
    sized
    lent =
    let named : OneOf n numbers = elim t [
      | inl (a, q) ↦ never_answered q
      | inr (m, q, h) ↦ subst (λ k. OneOf k numbers) (sym (refused_same q)) h
    ] in
    refused_lent numbers conditions degree_from n told answer work answer' work' e named
    (refused_decided conditions e ((d.refuses n).0 refl)) lent.answer_bytes
    (λ s.
    (lent.work_bytes ∙ work-17 (Rated A) n work s, (sized.lent (inr (ap refused s))).1))
    (λ s. lent.work_bytes ∙ work-kept (Rated A) n work ((kept n named).1 s))
rating_answers numbers conditions degree_from g (answered b)
    told answer work answer' work' e kept t d sized lent =
    let cleared-work : work' ≡ cleared work = lent.work_bytes in
    let room = sized.lent (inl (b, refl)) in
    let size : length b.polynomial ≡ suc (degree_from (g b.figures)) = sized.polynomial b refl in
    record {
      tells = inl (g b.figures, e);
      decided = answered_decided conditions (g b.figures, e) (d.answers.0 (b, refl));
      answer_kept = λ k q. never_answered (sym q ∙ e);
      answer_after =
          λ a q.
          let same : a ≡ g b.figures = answered_same (sym q ∙ e) in
          let n : length b.polynomial ≡ suc (degree_from a) =
          size ∙ ap (λ c. suc (degree_from c)) (sym same) in
          ap (drop (suc (degree_from a))) lent.answer_bytes
          ∙ written_after b.polynomial answer (suc (degree_from a)) n;
      answer_length =
          ap length lent.answer_bytes
          ∙ written-length b.polynomial answer (omega (arith, size, sized.small b refl, room.0));
      work-kept = λ k q l. never_answered (sym q ∙ e);
      work_cleared = λ x. ap (take 8192) cleared-work ∙ cleared-front work;
      work_beyond = ap (drop 8192) cleared-work ∙ cleared-beyond work;
      work_length = ap length cleared-work ∙ cleared-length work room.1;
    }
