-- The catalogue and its search keep their promises, from the contracts of their calls alone.
-- Assumes nothing.
use Prim.Native.Nat.{ℕ, suc, ◌+◌, ◌-◌, ◌≤◌, ◌<◌}
use native.Mathlib.Omega.{arith}
use mathlib.Core.Path.{◌≡◌, refl, sym, ap, subst, subst₂, ◌∙◌}
use mathlib.Core.Logic.{◌⊎◌, inl, inr}
use mathlib.Core.Bool.{Bool, true, false, not, ◌||◌}
use mathlib.Core.List.{List}
use mathlib.Core.Option.{Option, none, some}
use lib.ListN.{length, get_or, take, drop, get_or-eq_default}
use borrow.Author.Tests.{ltb-true, lt-ltb}
use lib.Dec.{T, eqb, eqb→eq, eqb_refl}
use Rattle.meaning.specs.Answers.{told}
use Rattle.std.specs.Prelude.{Ok, Err}
use Rattle.meaning.specs.Search.{holds_for_all, holds_for_some, is_none}
use Rattle.meaning.specs.Polynomial.{degree, NotAProduct}
use Rattle.meaning.specs.Sequence.{periodic, LeastPower}
use Rattle.meaning.specs.Result.{Result, refused, answered, clearing, clears, work_after, cleared}
use Rattle.meaning.specs.Conditions.{lent_too_short}
use Rattle.meaning.specs.Route.{look_up}
use Rattle.meaning.specs.Period.{NoPower}
use Rattle.meaning.specs.Catalogue.{EntryFigures, entry_polynomial, catalogue, entry_power, first_entry}
use Rattle.meaning.specs.Catalogue.{entry_table, find_entry}
use Rattle.meaning.specs.Answers.{told_entry}
use Rattle.meaning.specs.Exports.{status_of, entry_told}
use Rattle.meaning.proofs.Tables.{is_none_none}
use Rattle.meaning.proofs.Determined.{refusals, refusal_of, entry_call_determined, catalogue_call_determined}
use Rattle.meaning.proofs.CatalogueRows.{zero-entry}
use Rattle.bridge.proofs.Basics.Searches.{true-T, false-T, some-member, member-some, all-member}
use Rattle.bridge.proofs.Basics.Searches.{settle_answered, settle_refused}
use Rattle.bridge.proofs.Lists.Irreducibles.{irreducible-words, words-irreducible}
use Rattle.bridge.proofs.Binary.Words.{value}
use Rattle.bridge.proofs.Binary.Bits.{binary-is_field}
use Rattle.bridge.proofs.Ways.Periods.{period_power-least, period_power-none}
use Rattle.bridge.proofs.Ways.Accepted.{count-accepted, lent-enough}
use Rattle.bridge.proofs.Binary.Catalogue.{Listed, entry_length, entry-monic, entry-positive, entry-number}
use Rattle.bridge.proofs.Binary.Catalogue.{number-entry, number_small, number-large, member-listed}
use Rattle.bridge.proofs.Binary.Catalogue.{listed-member}
use Rattle.bridge.proofs.Binary.Catalogue.{entry_at, first_found, first-missing}
use Rattle.bridge.proofs.Binary.CatalogueTable.{catalogue-count, catalogue_rising, catalogue-order}
use Rattle.theorems.specs.Answering.{Answered, OneOf, Tells, Decided}
use Rattle.theorems.specs.Catalogue.{GF2, search_numbers, search_conditions, Entry, SearchLeaves}
use Rattle.theorems.specs.Catalogue.{SearchAnswers}
use Rattle.theorems.specs.Catalogue.{EntryAnswers, CataloguePromise, EntryAnswered, EntryRight}
use Rattle.theorems.specs.Catalogue.{EntryPromise}
use Rattle.theorems.specs.Catalogue.{SearchExport, SearchExportAnswers}
use Rattle.theorems.proofs.Deciding.{settle-decided, tested, then, meant, done}
use Rattle.theorems.proofs.Telling.{settle_tells, no_zero, is_listed, Listed as Numbered, listed, meets}
use Rattle.theorems.proofs.Telling.{work_untouched, cleared-front, cleared-beyond, cleared-length}
use Rattle.theorems.proofs.Answering.{present}
use Rattle.theorems.proofs.OtherLanguages.{status_told}

-- THE CATALOGUE
pub entry_listed : {n : ℕ} → Entry n → Listed n
entry_listed {n} h =
    let (k, m, z) = some-member (eqb n) catalogue h in
    subst Listed (sym (eqb→eq n k z)) (member-listed m)

listed-entry : {n : ℕ} → Listed n → Entry n
listed-entry {n} x = member-some (eqb n) catalogue n (listed-member x) (eqb_refl n)

module _ {n : ℕ} (x : Listed n) where
  listed-words : NotAProduct GF2 (entry_polynomial n)
  listed-words =
      irreducible-words binary-is_field (entry_polynomial n) (entry-monic n x.at_least x.less)
      (entry-positive n x.at_least x.less) x.irreducibility

words-listed : {n : ℕ} → 2 ≤ n → n < 2048 → NotAProduct GF2 (entry_polynomial n) → Listed n
words-listed {n} l k w =
    record {
      at_least = l;
      less = k;
      irreducibility = words-irreducible binary-is_field (entry_polynomial n)
          w;
    }

pub catalogue_promise : CataloguePromise
unfolding degree
catalogue_promise =
    record {
      entries = λ n. (
        λ h. let x = entry_listed h in (x.at_least, x.less, listed-words x),
        λ h. listed-entry (words-listed h.0 h.1 h.2),
      );
      of_entry =
          λ n h.
          let x = entry_listed h in (
            entry-monic n x.at_least x.less,
            entry-positive n x.at_least x.less,
            omega (arith, entry_length n),
          );
      polynomials = λ f m l k. (
        λ w. (
          value 2 f,
          listed-entry
              (words-listed (number-large f m l k) (number_small f m l k)
              (subst (NotAProduct GF2) (sym (number-entry f m l k)) w)),
          number-entry f m l k,
        ),
        λ h. subst (NotAProduct GF2) h.2 (listed-words (entry_listed h.1)),
      );
      one_number =
          λ n m h k e.
          let x = entry_listed h in
          let y = entry_listed k in
          sym (entry-number n x.at_least x.less)
          ∙ ap (value 2) e
          ∙ entry-number m y.at_least y.less;
      count = catalogue-count;
      rising = catalogue_rising;
      told = λ i r c. (
        λ l. subst Entry (sym c.answer) (listed-entry (entry_at i (omega (arith, catalogue-count)))),
        λ l. c.answer ∙ get_or-eq_default catalogue 0 (omega (arith, catalogue-count)),
      );
      told_rising =
          λ i j r s c d l k.
          let e : suc (i + (j - suc i)) ≡ j = omega arith in
          subst₂ ◌<◌ (sym c.answer) (ap (λ n. get_or catalogue n 0) e ∙ sym d.answer)
          (catalogue-order i (j - suc i) (omega (arith, catalogue-count)));
    }

-- THE POWERS OF AN ENTRY
module _ (ts : List ℕ) (some-terms : 0 < length ts) where
  least-power : (n : ℕ) {r : ℕ} → entry_power ts n ≡ some r
      → LeastPower GF2 (entry_polynomial n) (periodic ts) r
  unfolding entry_power
  least-power n e = period_power-least GF2 (entry_polynomial n) ts some-terms e

  no_power : {n : ℕ} → Listed n → entry_power ts n ≡ none → NoPower GF2 (entry_polynomial n) ts
  unfolding entry_power
  no_power {n} x e =
      period_power-none binary-is_field (entry_polynomial n) (entry-monic n x.at_least x.less)
      (entry-positive n x.at_least x.less) x.irreducibility ts some-terms e

-- 19: no entry is found exactly if none has a power
module _ (ts : List ℕ) (some-terms : 0 < length ts) where
  missing_says : is_none (first_entry ts) ≡ true → (n : ℕ) → Entry n → NoPower GF2 (entry_polynomial n) ts
  missing_says e n y =
      no_power ts some-terms (entry_listed y)
      (first-missing ts (is_none_none (true-T e)) n (entry_listed y))

  says_missing : ((n : ℕ) → Entry n → NoPower GF2 (entry_polynomial n) ts) → is_none (first_entry ts) ≡ true
  unfolding is_none
  says_missing h = go (first_entry ts) refl
    where
      go : (o : Option EntryFigures) → first_entry ts ≡ o → is_none o ≡ true
      go none e = refl
      go (some a) e =
          let x = first_found ts e in
          absurd
          (h a.entry (listed-entry x.entry) a.power
          (least-power ts some-terms a.entry x.power).annihilates)

-- DEMAND 1
search-listed : Numbered search_numbers
unfolding is_listed refusal_of refusals look_up holds_for_all is_none
search-listed = listed _ tt

pub search_tells : (ts : List ℕ) (work : ℕ) → Tells search_numbers (find_entry ts work)
unfolding find_entry entry_table
search_tells ts work = settle_tells _ (entry_table ts work) (λ h. present (first_entry ts) h.entry_found)

search-decided : (ts : List ℕ) (work : ℕ) → Decided (search_conditions ts work) (find_entry ts work)
unfolding find_entry entry_table lent_too_short
search-decided ts work =
    settle-decided _ (entry_table ts work) (search_conditions ts work)
    (tested
    (λ seven.
    let l = (count-accepted (length ts) seven).0 in
    then
    (meant (ltb-true work 8192) (lt-ltb work 8192)
    (λ _. meant (missing_says ts l) (says_missing ts l) (λ _. done)))))
    (λ h. present (first_entry ts) h.entry_found)

search-lent : (ts : List ℕ) (work : ℕ) → Answered (find_entry ts work) ⊎ (find_entry ts work ≡ refused 19)
    → 8192 ≤ work
unfolding find_entry entry_table
search-lent ts work (inl (a, e)) =
    (lent-enough 4097 work (settle_answered _ (entry_table ts work) e).0.lent_enough).1
search-lent ts work (inr e) =
    (lent-enough 4097 work (settle_refused _ (entry_table ts work) (omega arith) e).0.lent_enough).1

search-clears : T (holds_for_all (λ k. not (clears k) || eqb k 19) search_numbers)
unfolding holds_for_all clears clearing holds_for_some
search-clears = tt

-- a number of the search is 19, or one after which the work bytes are kept
kept-or-last : (n : ℕ) → OneOf n search_numbers → (OneOf n clearing → ⊥) ⊎ (n ≡ 19)
unfolding clears
kept-or-last n h =
    let (k, m, z) = some-member (eqb n) search_numbers h in
    subst (λ j. (OneOf j clearing → ⊥) ⊎ (j ≡ 19)) (sym (eqb→eq n k z))
    (by k (clears k) refl (all-member (λ k. not (clears k) || eqb k 19) search_numbers search-clears k m))
  where
    by : (k : ℕ) (b : Bool) → clears k ≡ b → T (not (clears k) || eqb k 19)
        → (OneOf k clearing → ⊥) ⊎ (k ≡ 19)
    by k true e t = inr (eqb→eq k 19 (subst (λ b. T (not b || eqb k 19)) e t))
    by k false e t = inl (false-T e)

cleared-or-kept : (told : Result EntryFigures) → Tells search_numbers told
    → (Answered told ⊎ (told ≡ refused 19)) ⊎ ((n : ℕ) × (told ≡ refused n) × (OneOf n clearing → ⊥))
cleared-or-kept told (inl a) = inl (inl a)
cleared-or-kept told (inr (n, e, h)) = elim (kept-or-last n h) [
  | inl l ↦ inr (n, e, l)
  | inr q ↦ inl (inr (e ∙ ap refused q))
]

-- the work bytes after a result that clears them, and after one that keeps them
module _ (ts : List ℕ) (told : Result EntryFigures) (work work' : List ℕ) (w : work' ≡ work_after told work)
  where
    search-cleared : Answered told ⊎ (told ≡ refused 19) → work' ≡ cleared work
    unfolding work_after clears clearing holds_for_some
    search-cleared (inl (a, e)) = w ∙ ap (λ x. work_after x work) e
    search-cleared (inr e) = w ∙ ap (λ x. work_after x work) e

    search-kept : (n : ℕ) → told ≡ refused n → (OneOf n clearing → ⊥) → work' ≡ work
    search-kept n e l = w ∙ ap (λ x. work_after x work) e ∙ work_untouched EntryFigures n work l

    search_leaves : Tells search_numbers told → Decided (search_conditions ts (length work)) told
        → (Answered told ⊎ (told ≡ refused 19) → 8192 ≤ length work)
        → SearchLeaves ts told work work'
    search_leaves t decided room =
        record {
          tells = t;
          decided = decided;
          work-kept = search-kept;
          work_cleared = λ x. ap (take 8192) (search-cleared x) ∙ cleared-front work;
          work_beyond = elim (cleared-or-kept told t) [
            | inl x ↦ ap (drop 8192) (search-cleared x) ∙ cleared-beyond work
            | inr (n, e, l) ↦ ap (drop 8192) (search-kept n e l)
          ];
          work_length = elim (cleared-or-kept told t) [
            | inl x ↦ ap length (search-cleared x) ∙ cleared-length work (room x)
            | inr (n, e, l) ↦ ap length (search-kept n e l)
          ];
        }

-- what is told of a search, and what is left in the work bytes
pub search-each : (ts work : List ℕ) (told : Result EntryFigures) (work' : List ℕ)
    → told ≡ find_entry ts (length work)
    → work' ≡ work_after (find_entry ts (length work)) work
    → SearchLeaves ts told work work'
search-each ts work told work' e w =
    subst (λ x. SearchLeaves ts x work work') (sym e)
    (search_leaves ts (find_entry ts (length work)) work work' w (search_tells ts (length work))
    (search-decided ts (length work)) (search-lent ts (length work)))

pub search_answers : SearchAnswers
unfolding told_entry told
search_answers ts work =
    record {
      each = λ r work' c. search-each ts work (told_entry r) work' c.finding c.work_bytes;
      some =
          let (r, e) =
          meets told_entry (λ a. Ok (record { entry = a.entry; power = a.power })) Err (λ a. refl)
          (λ z. refl) search_numbers search-listed (find_entry ts (length work))
          (search_tells ts (length work)) in
          (r, work_after (find_entry ts (length work)) work, record { finding = e; work_bytes = refl });
      one = λ r s _ _ c d. entry_call_determined c d;
    }

pub entry_answers : EntryAnswers
entry_answers i =
    record {
      some = (get_or catalogue i 0, record { answer = refl });
      one = λ r s c d. catalogue_call_determined c d;
    }

-- THE SEARCH
pub found_right : (ts : List ℕ) (work : ℕ) {a : EntryFigures} → find_entry ts work ≡ answered a
    → EntryAnswered ts a
unfolding find_entry entry_table
found_right ts work {a} e =
    let (h, q) = settle_answered _ (entry_table ts work) e in
    let count = count-accepted (length ts) h.count_in_range in
    let x = first_found ts q in
    record {
      entry = listed-entry x.entry;
      least = least-power ts count.0 a.entry x.power;
      first = λ n y l. no_power ts count.0 (entry_listed y) (x.first n (entry_listed y) l);
    }

nineteen_right : (ts : List ℕ) (work : ℕ) → find_entry ts work ≡ refused 19
    → (n : ℕ)
    → Entry n
    → NoPower GF2 (entry_polynomial n) ts
unfolding find_entry entry_table
nineteen_right ts work e n y =
    let (h, z) = settle_refused _ (entry_table ts work) (omega arith) e in
    missing_says ts (count-accepted (length ts) h.count_in_range).0 z n y

entry-right : (ts : List ℕ) (work : ℕ) (told : Result EntryFigures) → told ≡ find_entry ts work
    → EntryRight ts work told
entry-right ts work told q =
    record {
      found = λ a e. found_right ts work (sym q ∙ e);
      nineteen = λ e. nineteen_right ts work (sym q ∙ e);
      zeros = λ n z l k w. q ∙ ap (λ l. find_entry l work) z ∙ zero-entry n work l k w;
    }

pub entry_promise : EntryPromise
entry_promise ts work r work' c = entry-right ts (length work) (told_entry r) c.finding

-- OTHER LANGUAGES
entry_status : (x : Result EntryFigures) → (entry_told x).status ≡ status_of x
unfolding entry_told status_of
entry_status (refused n) = refl
entry_status (answered a) = refl

pub search_export : SearchExport
unfolding holds_for_some
search_export ts work r work' x =
    let result = find_entry ts (length work) in
    record {
      told = result;
      status_told =
          status_told search_numbers result r.status (no_zero search_numbers tt)
          (search_tells ts (length work)) (ap (λ t. t.status) x.told ∙ entry_status result);
      entry-told = x.told;
      answers = search-each ts work result work' refl x.work_bytes;
      right = entry-right ts (length work) result refl;
    }

pub search_export_answers : SearchExportAnswers
search_export_answers ts work =
    record {
      some = (_, record { told = refl; work_bytes = refl });
      one = λ r s c d.
          let tolds = c.told ∙ sym d.told in
          let works = c.work_bytes ∙ sym d.work_bytes in
          λ i. (tolds i, works i);
    }
