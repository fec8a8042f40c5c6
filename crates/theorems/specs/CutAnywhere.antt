-- Demand 3, as a statement about the contracts of the calls: the same polynomial wherever the stretch is cut,
-- however long it is, and whichever way rates it. The signs are those of Promises.
--
--   …Returns         == whatever meets the contract of the call on these terms, with accepted lent bytes,
--                       rates them and returns g
--   CutAnywhere      == one polynomial, the minimal polynomial of the sequence: every way returns it on
--                       every cut
--   CutAnywherePromise == so it is of every sequence that the product of accepted factors annihilates
use Rattle.meaning.specs.Answers.{Reply}
use Rattle.std.specs.Prelude.{ℕ, ◌*◌, ◌≤◌, ◌≡◌, false, List, [], ◌∷◌, map, length, T}
use Rattle.meaning.specs.declared.FieldName.{FieldName}
use Rattle.meaning.specs.declared.PowerRating.{PowerRating}
use Rattle.meaning.specs.declared.SetRating.{SetRating}
use Rattle.meaning.specs.declared.FreeRating.{FreeRating}
use Rattle.meaning.specs.Search.{holds_for_some}
use Rattle.meaning.specs.Polynomial.{Polynomial, degree, product, monic_multiple}
use Rattle.meaning.specs.Sequence.{Sequence, InField, cut, Period, AnnihilatesEndless, MinimalPolynomial}
use Rattle.meaning.specs.Result.{answered}
use Rattle.meaning.specs.Conditions.{named, total_degree, accepted_lent}
use Rattle.meaning.specs.Power.{PowerFigures, is_x}
use Rattle.meaning.specs.Portion.{accepted_factors}
use Rattle.meaning.specs.Free.{FreeFigures}
use Rattle.meaning.specs.Answers.{SetTold, told_power, told_set, told_free}
use Rattle.meaning.specs.Calls.{PeriodCall, SetCall, FreeCall}
use Rattle.theorems.specs.Ratings.{GF, Returns}

-- Whatever meets the contract of the call on these terms, with accepted lent bytes, rates them and returns g.
abbrev pub SetReturns : FieldName → List Polynomial → List ℕ → List ℕ → Polynomial → Type 0
SetReturns name fs vs ts g =
    (answer work : List ℕ)
    → T (accepted_lent (length answer) (length work))
    → (r : Reply SetRating) (answer' work' : List ℕ)
    → SetCall name fs vs ts answer work r answer' work'
    → (a : SetTold) × (told_set r ≡ answered a) × Returns g a.degree answer'

abbrev pub PeriodReturns : FieldName → Polynomial → List ℕ → Polynomial → Type 0
PeriodReturns name f ts g =
    (answer work : List ℕ)
    → T (accepted_lent (length answer) (length work))
    → (r : Reply PowerRating) (answer' work' : List ℕ)
    → PeriodCall name f ts answer work r answer' work'
    → (a : PowerFigures) × (told_power r ≡ answered a) × Returns g a.degree answer'

abbrev pub FreeReturns : FieldName → List ℕ → Polynomial → Type 0
FreeReturns name ts g =
    (answer work : List ℕ)
    → T (accepted_lent (length answer) (length work))
    → (r : Reply FreeRating) (answer' work' : List ℕ)
    → FreeCall name ts answer work r answer' work'
    → (a : FreeFigures) × (told_free r ≡ answered a) × Returns g a.degree answer'

-- One polynomial g, the minimal polynomial of s from its first term: the set way, which is the way for
-- portions with one factor or more, returns it on every stretch of m terms from place k, m from the total
-- degree to 4,096; with one factor the period way on every period of n terms, n up to 4,096; the free way on
-- every stretch of at least twice its degree, of 1 to 4,096 terms.
pub record CutAnywhere (name : FieldName) (fs : List Polynomial) (vs : List ℕ) (s : Sequence) : Type 0 where
  pub g : Polynomial
  pub minimal : MinimalPolynomial (GF name) g s
  pub set-way : (k m : ℕ) → total_degree (named fs vs) ≤ m → m ≤ 4096 → SetReturns name fs vs (cut s k m) g
  pub period-way : (f : Polynomial)
      → fs ≡ f ∷ []
      → (k n : ℕ)
      → Period s n
      → n ≤ 4096
      → PeriodReturns name f (cut s k n) g
  pub free-way : (k m : ℕ) → 2 * degree g ≤ m → 1 ≤ m → m ≤ 4096 → FreeReturns name (cut s k m) g

-- So it is for every sequence of the field that the product of accepted factors annihilates, none of them x
-- or a multiple of x. The factors are as they are given, with any leading coefficient but 0.
abbrev pub CutAnywherePromise : Type 0
CutAnywherePromise =
    (name : FieldName) (fs : List Polynomial) (vs : List ℕ) (s : Sequence)
    → T (accepted_factors name fs vs)
    → holds_for_some is_x (map (monic_multiple (GF name)) fs) ≡ false
    → InField (GF name) s
    → AnnihilatesEndless (GF name) (product (GF name) (named fs vs)) s
    → CutAnywhere name fs vs s
