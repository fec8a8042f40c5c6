-- The catalogue and its search, as statements about the contracts of their calls. The signs are those of
-- Promises.
--
--   GF2              == GF(2), the field of the catalogue
--   search_numbers    == the numbers by which the search is refused; search_conditions == when it is
--   Entry n          == n is an entry of the catalogue
--   SearchAnswers    == demand 1 of the search; EntryAnswers == of the question for entry i, which is refused
--                       by nothing
--   CatalogueRight   == what the catalogue holds: the irreducible binary polynomials of degree 1 to 10, and
--                       no others, as 226 rising numbers; and what the question for entry i answers
--   EntryRight ts work told == what the search tells of the period ts with so many work bytes: the first
--                       entry with a power, its least power, what 19 means, and what zeros give
--   SearchExport     == the same of the search for other languages, and SearchExportAnswers == its demand 1.
--                       (The exported question for entry i has the contract `CatalogueCall`, and so its
--                       promises and its demand 1, EntryAnswers.)
use Rattle.meaning.specs.Answers.{Reply}
use Rattle.std.specs.Prelude.{ℕ, suc, ◌≤◌, ◌<◌, ◌≡◌, ◌⊎◌, ◌↔◌, List, [], ◌∷◌, length, get_or, take, drop}
use Rattle.std.specs.Prelude.{replicate, T}
use Rattle.meaning.specs.declared.Entry as struct
use Rattle.meaning.specs.declared.EntryRating.{EntryRating}
use Rattle.meaning.specs.Field.{Field, prime}
use Rattle.meaning.specs.Polynomial.{Polynomial, degree, is_monic_over, NotAProduct}
use Rattle.meaning.specs.Sequence.{periodic, LeastPower}
use Rattle.meaning.specs.Result.{Result, refused, answered, clearing}
use Rattle.meaning.specs.Conditions.{count_out_of_range, term_out_of_field}
use Rattle.meaning.specs.Period.{NoPower}
use Rattle.meaning.specs.Catalogue.{EntryFigures, entry_polynomial, catalogue}
use Rattle.meaning.specs.Answers.{told_entry}
use Rattle.meaning.specs.Calls.{EntryCall, CatalogueCall}
use Rattle.meaning.specs.Exports.{entry_told, EntryExported}
use Rattle.theorems.specs.Answering.{Answered, OneOf, Tells, Condition, Decided}
use Rattle.theorems.specs.OtherLanguages.{StatusTold, ExactlyOne}

abbrev pub GF2 : Field
GF2 = prime 2

abbrev pub search_numbers : List ℕ
search_numbers = 7 ∷ 8 ∷ 16 ∷ 19 ∷ []

abbrev pub Entry : ℕ → Type 0
Entry n = OneOf n catalogue

-- 19: no entry has a power that annihilates the endless repetition
abbrev pub search_conditions : List ℕ → ℕ → List Condition
search_conditions ts work =
    (7, T (count_out_of_range (length ts)))
    ∷ (8, T (term_out_of_field GF2 ts))
    ∷ (16, (work < 8192))
    ∷ (19, ((n : ℕ) → Entry n → NoPower GF2 (entry_polynomial n) ts))
    ∷ []

-- DEMAND 1. The work bytes are as they were after every refusal but those of `clearing`, so after 7, 8 and
-- 16; after 19 and after an answer their first 8,192 are 0; those beyond are as they were in every case.

pub record SearchLeaves (ts : List ℕ) (told : Result EntryFigures) (work work' : List ℕ) : Type 0 where
  pub tells : Tells search_numbers told
  pub decided : Decided (search_conditions ts (length work)) told
  pub work-kept : (n : ℕ) → told ≡ refused n → (OneOf n clearing → ⊥) → work' ≡ work
  pub work_cleared : Answered told ⊎ (told ≡ refused 19) → take 8192 work' ≡ replicate 8192 0
  pub work_beyond : drop 8192 work' ≡ drop 8192 work
  pub work_length : length work' ≡ length work

pub record Searching (ts work : List ℕ) : Type 0 where
  pub each : (r : Reply EntryRating) (work' : List ℕ)
      → EntryCall ts work r work'
      → SearchLeaves ts (told_entry r) work work'
  pub some : (r : Reply EntryRating) × (work' : List ℕ) × EntryCall ts work r work'
  pub one : (r s : Reply EntryRating) (work' work'' : List ℕ)
      → EntryCall ts work r work'
      → EntryCall ts work s work''
      → (r ≡ s) × (work' ≡ work'')

abbrev pub SearchAnswers : Type 0
SearchAnswers = (ts work : List ℕ) → Searching ts work

pub record AskingEntry (i : ℕ) : Type 0 where
  pub some : (r : ℕ) × CatalogueCall i r
  pub one : (r s : ℕ) → CatalogueCall i r → CatalogueCall i s → r ≡ s

abbrev pub EntryAnswers : Type 0
EntryAnswers = (i : ℕ) → AskingEntry i

-- THE CATALOGUE: an entry is a number from 2 to 2,047 whose polynomial is irreducible; these are the monic
-- irreducible polynomials over GF(2) of degree 1 to 10, each with one number; there are 226, and each is less
-- than the next. What is told for i below 226 are entries, which rise with i, and so all of them; for every
-- other i it is 0, which is no entry.

pub record CatalogueRight : Type 0 where
  pub entries : (n : ℕ) → Entry n ↔ ((2 ≤ n) × (n < 2048) × NotAProduct GF2 (entry_polynomial n))
  pub of_entry : (n : ℕ) → Entry n
      → T (is_monic_over GF2 (entry_polynomial n))
      × (1 ≤ degree (entry_polynomial n))
      × (degree (entry_polynomial n) ≤ 10)
  pub polynomials : (f : Polynomial)
      → T (is_monic_over GF2 f)
      → 1 ≤ degree f
      → degree f ≤ 10
      → NotAProduct GF2 f ↔ ((n : ℕ) × Entry n × (entry_polynomial n ≡ f))
  pub one_number : (n m : ℕ) → Entry n → Entry m → entry_polynomial n ≡ entry_polynomial m → n ≡ m
  pub count : length catalogue ≡ 226
  pub rising : (i : ℕ) → suc i < length catalogue → get_or catalogue i 0 < get_or catalogue (suc i) 0
  pub told : (i r : ℕ) → CatalogueCall i r → (i < 226 → Entry r) × (226 ≤ i → r ≡ 0)
  pub told_rising : (i j r s : ℕ) → CatalogueCall i r → CatalogueCall j s → i < j → j < 226 → r < s

abbrev pub CataloguePromise : Type 0
CataloguePromise = CatalogueRight

-- THE SEARCH: the entry found has a power that annihilates the endless repetition, the power told is the
-- least, and no entry that is a smaller number has one.

pub record EntryAnswered (ts : List ℕ) (a : EntryFigures) : Type 0 where
  pub entry : Entry a.entry
  pub least : LeastPower GF2 (entry_polynomial a.entry) (periodic ts) a.power
  pub first : (n : ℕ) → Entry n → n < a.entry → NoPower GF2 (entry_polynomial n) ts

-- 19 means that no entry has a power. Zeros, from 1 to 4,096 of them, give x, which is 2, and the power 0.
pub record EntryRight (ts : List ℕ) (work : ℕ) (told : Result EntryFigures) : Type 0 where
  pub found : (a : EntryFigures) → told ≡ answered a → EntryAnswered ts a
  pub nineteen : told ≡ refused 19 → (n : ℕ) → Entry n → NoPower GF2 (entry_polynomial n) ts
  pub zeros : (n : ℕ) → ts ≡ replicate n 0 → 1 ≤ n → n ≤ 4096 → 8192 ≤ work
      → told ≡ answered (record { entry = 2; power = 0 })

abbrev pub EntryPromise : Type 0
EntryPromise =
    (ts work : List ℕ) (r : Reply EntryRating) (work' : List ℕ)
    → EntryCall ts work r work'
    → EntryRight ts (length work) (told_entry r)

-- OTHER LANGUAGES: `struct.Entry` is what the exported search returns

pub record SearchExportRight (ts work : List ℕ) (r : struct.Entry) (work' : List ℕ) : Type 0 where
  pub told : Result EntryFigures
  pub status_told : StatusTold told r.status
  pub entry-told : r ≡ entry_told told
  pub answers : SearchLeaves ts told work work'
  pub right : EntryRight ts (length work) told

abbrev pub SearchExport : Type 0
SearchExport =
    (ts work : List ℕ) (r : struct.Entry) (work' : List ℕ)
    → EntryExported ts work r work'
    → SearchExportRight ts work r work'

abbrev pub SearchExportAnswers : Type 0
SearchExportAnswers =
    (ts work : List ℕ) → ExactlyOne {R = struct.Entry × List ℕ} (λ r. EntryExported ts work r.0 r.1)
