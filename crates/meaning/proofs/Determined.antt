-- What an answer tells determines it: no two answers tell the same. With the equations of the contracts,
-- whatever meets a contract is one answer.
--
--   refusal_of n   == the refusal with the number n, none for a number that is not 1 to 20
--   refusal_number, refusal_found == the numbers of the list are those of the refusals
--   …-determined  == two answers that tell the same are the same
--   period_call_determined and its like == two runs of a call on the same input agree in the answer and in
--                    every byte
-- Assumes nothing.
use Prim.Native.Nat.{ℕ}
use mathlib.Core.Path.{◌≡◌, refl, sym, ap, ◌∙◌}
use mathlib.Core.Bool.{Bool, true, false}
use mathlib.Core.List.{List, [], ◌∷◌}
use mathlib.Core.Option.{Option, some, none-ne-some}
use lib.Dec.{T, eqb}
use borrow.Author.Tests.{eqb-true}
use Rattle.meaning.specs.declared.FieldName.{FieldName}
use Rattle.meaning.specs.declared.Refusal.{Refusal}
use Rattle.meaning.specs.declared.PowerRating.{PowerRating}
use Rattle.meaning.specs.declared.SetRating.{SetRating}
use Rattle.meaning.specs.declared.FreeRating.{FreeRating}
use Rattle.meaning.specs.declared.Meter.{Meter}
use Rattle.meaning.specs.declared.MeterStep.{MeterStep}
use Rattle.meaning.specs.declared.EntryRating.{EntryRating}
use Rattle.meaning.specs.declared.FileOutcome.{FileOutcome}
use Rattle.meaning.specs.declared.FileRating.{FileRating}
use Rattle.meaning.specs.declared.Refusal.TheVariants.{FileTooLong, UnknownKind, FileCutShort}
use Rattle.meaning.specs.declared.Refusal.TheVariants.{RecordOutOfPlace, ModeUnsuited, NotPrime}
use Rattle.meaning.specs.declared.Refusal.TheVariants.{CountOutOfRange, TermOutOfField, FactorCount}
use Rattle.meaning.specs.declared.Refusal.TheVariants.{DegreeOutOfRange, CoefficientOutOfRange}
use Rattle.meaning.specs.declared.Refusal.TheVariants.{Reducible}
use Rattle.meaning.specs.declared.Refusal.TheVariants.{EqualFactors, UpperPowers, TooFewTerms}
use Rattle.meaning.specs.declared.Refusal.TheVariants.{LentTooShort, NotAnnihilated, MeterFull}
use Rattle.meaning.specs.declared.Refusal.TheVariants.{NoEntry, NotBinaryField}
use Rattle.meaning.specs.Search.{map_option, holds_for_all}
use Rattle.meaning.specs.Route.{look_up}
use Rattle.meaning.specs.Result.{Result, refused, answered, Rated}
use Rattle.meaning.specs.Free.{FreeFigures}
use Rattle.meaning.specs.Meter.{MeterModel, Holding}
use Rattle.meaning.specs.Calls.{LentAfter, IrreducibleCall, PeriodCall, SetCall}
use Rattle.meaning.specs.Calls.{FreeCall, StartCall, TermCall, ReadingCall, ContinueCall, FileCall}
use Rattle.meaning.specs.Calls.{EntryCall, CatalogueCall}
use Rattle.meaning.specs.Calls.{RecordCall}
use Rattle.meaning.specs.Answers.{number_of, told_irreducible, told_filling, told_power, told_free, SetTold}
use Rattle.meaning.specs.Answers.{told_start, told_entry, told_set, Reply, told, free_figures_of, set_places}
use Rattle.meaning.specs.Answers.{file_places, file_told_of}
use Rattle.std.specs.Prelude.{Ok, Err}
use Rattle.meaning.specs.Answers.{FileTold, with_powers, with_one, with_some, told_file, told_record}

unfoldable pub refusals : List (ℕ × Refusal)
refusals =
    (1, FileTooLong)
    ∷ (2, UnknownKind)
    ∷ (3, FileCutShort)
    ∷ (4, RecordOutOfPlace)
    ∷ (5, ModeUnsuited)
    ∷ (6, NotPrime)
    ∷ (7, CountOutOfRange)
    ∷ (8, TermOutOfField)
    ∷ (9, FactorCount)
    ∷ (10, DegreeOutOfRange)
    ∷ (11, CoefficientOutOfRange)
    ∷ (12, Reducible)
    ∷ (13, EqualFactors)
    ∷ (14, UpperPowers)
    ∷ (15, TooFewTerms)
    ∷ (16, LentTooShort)
    ∷ (17, NotAnnihilated)
    ∷ (18, MeterFull)
    ∷ (19, NoEntry)
    ∷ (20, NotBinaryField)
    ∷ []

unfoldable pub refusal_of : ℕ → Option Refusal
refusal_of n = look_up n refusals

pub refusal_number : (r : Refusal) → refusal_of (number_of r) ≡ some r
unfolding refusal_of refusals look_up number_of
refusal_number FileTooLong = refl
refusal_number UnknownKind = refl
refusal_number FileCutShort = refl
refusal_number RecordOutOfPlace = refl
refusal_number ModeUnsuited = refl
refusal_number NotPrime = refl
refusal_number CountOutOfRange = refl
refusal_number TermOutOfField = refl
refusal_number FactorCount = refl
refusal_number DegreeOutOfRange = refl
refusal_number CoefficientOutOfRange = refl
refusal_number Reducible = refl
refusal_number EqualFactors = refl
refusal_number UpperPowers = refl
refusal_number TooFewTerms = refl
refusal_number LentTooShort = refl
refusal_number NotAnnihilated = refl
refusal_number MeterFull = refl
refusal_number NoEntry = refl
refusal_number NotBinaryField = refl

some_same : {A : Type 0} (a b : A) → some a ≡ some b → a ≡ b
some_same a b e = cc

numbered : ℕ × Refusal → Bool
numbered e = eqb (number_of e.1) e.0

looked_up : (l : List (ℕ × Refusal)) (n : ℕ) {x : Refusal} → T (holds_for_all numbered l) → look_up n l ≡
    some x
    → number_of x ≡ n
unfolding look_up holds_for_all numbered
looked_up [] n h e = absurd (none-ne-some _ e)
looked_up (c ∷ l) n {x} h e = go (looked_up l n) (numbered c) refl (eqb n c.0) refl
  where
    go : (T (holds_for_all numbered l) → look_up n l ≡ some x → number_of x ≡ n)
        → (t : Bool)
        → numbered c ≡ t
        → (b : Bool)
        → eqb n c.0 ≡ b
        → number_of x ≡ n
    go rest false t b q = absurd (rw (t, holds_for_all) at h)
    go rest true t true q =
        let same : c.1 ≡ x = some_same c.1 x (rw (q, look_up) at e) in
        sym (ap number_of same) ∙ eqb-true (number_of c.1) c.0 t ∙ sym (eqb-true n c.0 q)
    go rest true t false q = rest (rw (t, holds_for_all) at h) (rw (q, look_up) at e)

-- and so do numbers
pub refusal_found : (n : ℕ) {x : Refusal} → refusal_of n ≡ some x → number_of x ≡ n
unfolding refusal_of refusals holds_for_all numbered number_of
refusal_found n e = looked_up refusals n tt e

-- a map that another undoes takes no two things to one
determined : {A B : Type 0} (f : A → B) (g : B → Option A) → ((a : A) → g (f a) ≡ some a)
    → (a b : A)
    → f a ≡ f b
    → a ≡ b
determined f g back a b e = some_same a b (sym (back a) ∙ ap g e ∙ back b)

-- the reply that tells a result, where g undoes what is told of its value
reply : {A B : Type 0} → (B → Option A) → Result B → Option (Reply A)
reply g (refused n) = map_option Err (refusal_of n)
reply g (answered b) = map_option Ok (g b)

reply-told : {A B : Type 0} (f : A → B) (g : B → Option A) → ((a : A) → g (f a) ≡ some a)
    → (r : Reply A)
    → reply g (told f r) ≡ some r
unfolding told reply map_option
reply-told f g back (Ok a) = ap (map_option Ok) (back a)
reply-told f g back (Err r) = ap (map_option Err) (refusal_number r)

-- two replies that tell the same are the same
pub told-determined : {A B : Type 0} (f : A → B) (g : B → Option A) → ((a : A) → g (f a) ≡ some a)
    → (r s : Reply A)
    → told f r ≡ told f s
    → r ≡ s
told-determined f g back = determined (told f) (reply g) (reply-told f g back)

themselves-determined : {A : Type 0} (r s : Reply A) → told (λ a. a) r ≡ told (λ a. a) s → r ≡ s
themselves-determined = told-determined (λ a. a) some (λ a. refl)

pub irreducible-determined : (r s : Reply Bool) → told_irreducible r ≡ told_irreducible s → r ≡ s
unfolding told_irreducible
irreducible-determined = themselves-determined

pub filling-determined : (r s : Reply (Unit {0})) → told_filling r ≡ told_filling s → r ≡ s
unfolding told_filling
filling-determined = themselves-determined

pub start-determined : (r s : Reply Meter) → told_start r ≡ told_start s → r ≡ s
unfolding told_start
start-determined = themselves-determined

pub record_determined : (r s : Reply ℕ) → told_record r ≡ told_record s → r ≡ s
unfolding told_record
record_determined = themselves-determined

pub power-determined : (r s : Reply PowerRating) → told_power r ≡ told_power s → r ≡ s
unfolding told_power
power-determined =
    told-determined _ (λ a. some (record { power = a.power; degree = a.degree; repeat = a.repeat }))
    (λ a. refl)

pub entry-determined : (r s : Reply EntryRating) → told_entry r ≡ told_entry s → r ≡ s
unfolding told_entry
entry-determined = told-determined _ (λ a. some (record { entry = a.entry; power = a.power })) (λ a. refl)

free_of : FreeFigures → Option FreeRating
free_of a = elim a.unique [
  | true ↦ some (FreeRating.Unique a.degree)
  | false ↦ some (FreeRating.Several a.degree)
]

free_of-figures : (r : FreeRating) → free_of (free_figures_of r) ≡ some r
unfolding free_of free_figures_of
free_of-figures (FreeRating.Unique d) = refl
free_of-figures (FreeRating.Several d) = refl

pub free-determined : (r s : Reply FreeRating) → told_free r ≡ told_free s → r ≡ s
unfolding told_free
free-determined = told-determined free_figures_of free_of free_of-figures

-- of a set and of a file the eight powers stand beside what is told
set_of : Result SetTold × List ℕ → Option (Reply SetRating)
set_of (refused n, rs) = map_option Err (refusal_of n)
set_of (answered a, rs) =
    some (Ok (record { degree = a.degree; repeat = a.repeat; count = a.count; powers = rs }))

set_of-told : (r : Reply SetRating) → set_of (told_set r, set_places r) ≡ some r
unfolding set_of told_set told set_places map_option
set_of-told (Ok a) = refl
set_of-told (Err r) = ap (map_option Err) (refusal_number r)

pub set-determined : (r s : Reply SetRating) → told_set r ≡ told_set s → set_places r ≡ set_places s → r ≡ s
set-determined r s e f =
    determined (λ r. (told_set r, set_places r)) set_of set_of-told r s (λ i. (e i, f i))

file_of : Result FileTold × List ℕ → Option (Reply FileOutcome)
file_of (refused n, rs) = map_option Err (refusal_of n)
file_of (answered (with_powers d m n), rs) = some (Ok (FileOutcome.Powers d m n rs))
file_of (answered (with_one d m), rs) = some (Ok (FileOutcome.Unique d m))
file_of (answered (with_some d m), rs) = some (Ok (FileOutcome.Several d m))

file_of-told : (r : Reply FileOutcome) → file_of (told_file r, file_places r) ≡ some r
unfolding file_of told_file file_told_of told file_places map_option
file_of-told (Ok (FileOutcome.Powers d m n rs)) = refl
file_of-told (Ok (FileOutcome.Unique d m)) = refl
file_of-told (Ok (FileOutcome.Several d m)) = refl
file_of-told (Err r) = ap (map_option Err) (refusal_number r)

pub file-determined : (r s : Reply FileOutcome) → told_file r ≡ told_file s → file_places r ≡ file_places s
    → r ≡ s
file-determined r s e f =
    determined (λ r. (told_file r, file_places r)) file_of file_of-told r s (λ i. (e i, f i))

-- The calls: two runs on the same input agree.
pub irreducible_call_determined :
    {name : FieldName} {f : List ℕ} {r s : Reply Bool}
    → IrreducibleCall name f r
    → IrreducibleCall name f s
    → r ≡ s
irreducible_call_determined {r = r} {s = s} c d = irreducible-determined r s (c.answer ∙ sym d.answer)

-- the lent bytes after one result
pub lent-determined :
    {A : Type 0} {result : Result (Rated A)} {answer work a b w x : List ℕ}
    → LentAfter result answer work a w
    → LentAfter result answer work b x
    → (a ≡ b) × (w ≡ x)
lent-determined c d = (c.answer_bytes ∙ sym d.answer_bytes, c.work_bytes ∙ sym d.work_bytes)

pub period_call_determined :
    {name : FieldName} {f ts answer work a b w x : List ℕ} {r s : Reply PowerRating}
    → PeriodCall name f ts answer work r a w
    → PeriodCall name f ts answer work s b x
    → (r ≡ s) × ((a ≡ b) × (w ≡ x))
period_call_determined {r = r} {s = s} c d =
    (power-determined r s (c.rating ∙ sym d.rating), lent-determined c.lent d.lent)

pub set_call_determined :
    {name : FieldName} {fs : List (List ℕ)} {vs ts answer work a b w x : List ℕ} {r s : Reply SetRating}
    → SetCall name fs vs ts answer work r a w
    → SetCall name fs vs ts answer work s b x
    → (r ≡ s) × ((a ≡ b) × (w ≡ x))
set_call_determined {r = r} {s = s} c d = (
  set-determined r s (c.rating ∙ sym d.rating) (c.powers ∙ sym d.powers),
  lent-determined c.lent d.lent,
)

pub free_call_determined :
    {name : FieldName} {ts answer work a b w x : List ℕ} {r s : Reply FreeRating}
    → FreeCall name ts answer work r a w
    → FreeCall name ts answer work s b x
    → (r ≡ s) × ((a ≡ b) × (w ≡ x))
free_call_determined {r = r} {s = s} c d =
    (free-determined r s (c.rating ∙ sym d.rating), lent-determined c.lent d.lent)

pub start_call_determined :
    {model : MeterModel} {name : FieldName} {work w x : List ℕ} {r s : Reply Meter}
    → StartCall model name work r w
    → StartCall model name work s x
    → (r ≡ s) × (w ≡ x)
start_call_determined {r = r} {s = s} c d = (
  start-determined r s (c.starting ∙ sym d.starting),
  c.work_bytes ∙ sym d.work_bytes,
)

-- of a meter that holds terms
pub term_call_determined :
    {model : MeterModel} {name : FieldName} {ts : List ℕ} {m : Meter} {t : ℕ} {terms work a b w x : List ℕ}
    {r s : MeterStep}
    → Holding model name ts m terms work
    → TermCall model m t terms work r a w
    → TermCall model m t terms work s b x
    → (r ≡ s) × ((a ≡ b) × (w ≡ x))
term_call_determined {name = name} {ts = ts} {r = r} {s = s} h c d =
    let y = c.taken name ts h in
    let z = d.taken name ts h in
    let readings = free-determined r.reading s.reading (y.reading ∙ sym z.reading) in
    let meters = y.meter ∙ sym z.meter in (
      λ i. record { reading = readings i; meter = meters i },
      (y.term_bytes ∙ sym z.term_bytes, y.work_bytes ∙ sym z.work_bytes),
    )

pub reading_call_determined :
    {model : MeterModel} {name : FieldName} {ts terms work : List ℕ} {m : Meter} {r s : Reply FreeRating}
    → Holding model name ts m terms work
    → ReadingCall model m r
    → ReadingCall model m s
    → r ≡ s
reading_call_determined {name = name} {ts = ts} {terms = terms} {work = work} {r = r} {s = s} h c d =
    free-determined r s (c.reading name ts terms work h ∙ sym (d.reading name ts terms work h))

pub entry_call_determined :
    {ts work w x : List ℕ} {r s : Reply EntryRating}
    → EntryCall ts work r w
    → EntryCall ts work s x
    → (r ≡ s) × (w ≡ x)
entry_call_determined {r = r} {s = s} c d = (
  entry-determined r s (c.finding ∙ sym d.finding),
  c.work_bytes ∙ sym d.work_bytes,
)

pub catalogue_call_determined : {i r s : ℕ} → CatalogueCall i r → CatalogueCall i s → r ≡ s
catalogue_call_determined c d = c.answer ∙ sym d.answer

pub continue_call_determined :
    {name : FieldName} {g start buffer : List ℕ} {place : ℕ} {b c : List ℕ} {r s : Reply (Unit {0})}
    → ContinueCall name g start buffer place r b
    → ContinueCall name g start buffer place s c
    → (r ≡ s) × (b ≡ c)
continue_call_determined {r = r} {s = s} c d =
    (filling-determined r s (c.filling ∙ sym d.filling), c.buffer_bytes ∙ sym d.buffer_bytes)

pub file_call_determined :
    {input answer work a b w x : List ℕ} {r s : FileRating}
    → FileCall input answer work r a w
    → FileCall input answer work s b x
    → (r ≡ s) × ((a ≡ b) × (w ≡ x))
file_call_determined {r = r} {s = s} c d =
    let senders = c.sender ∙ sym d.sender in
    let outcomes = file-determined r.outcome s.outcome (c.rating ∙ sym d.rating) (c.powers ∙ sym d.powers) in
    (λ i. record { sender = senders i; outcome = outcomes i }, lent-determined c.lent d.lent)

pub record_call_determined :
    {input : List ℕ} {n : ℕ} {r s : Reply ℕ} {a b : List ℕ}
    → RecordCall input n r a
    → RecordCall input n s b
    → (r ≡ s) × (a ≡ b)
record_call_determined {r = r} {s = s} c d =
    (record_determined r s (c.found ∙ sym d.found), c.part ∙ sym d.part)
