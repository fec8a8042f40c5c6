-- The density of a period is the degree over the least period of the endless sequence, from the contracts
-- alone.
-- Assumes nothing.
use Prim.Native.Nat.{ℕ, ◌+◌}
use mathlib.Core.Path.{◌≡◌, refl, sym, ap, subst, ◌∙◌}
use mathlib.Core.Logic.{◌⊎◌, inl, inr}
use mathlib.Core.List.{List, ◌++◌, map}
use mathlib.Core.Option.{some-injective}
use native.Mathlib.Nat.{le_antisymm}
use lib.ListN.{take}
use Rattle.meaning.specs.Sequence.{Sequence, periodic, Period, LeastPeriod}
use Rattle.meaning.specs.Result.{Result, refused, answered}
use Rattle.meaning.specs.Route.{RouteRecord, period_mode, mode_of, byte_of, box_of}
use Rattle.meaning.specs.File.{terms_of}
use Rattle.meaning.specs.Print.{text, decimal, joined, header}
use Rattle.meaning.specs.Answers.{FileTold, with_powers, with_one, with_some}
use Rattle.bridge.proofs.Basics.Searches.{answered_same}
use Rattle.bridge.proofs.Sequences.Repeats.{shortest_exists, shortest-least, least-shortest, shortest-divides}
use Rattle.theorems.specs.Ratings.{list_in}
use Rattle.theorems.specs.Files.{Holds, RatedBy, PeriodFile, FileRight, PrintedRight, lines_told}
use Rattle.theorems.specs.Density.{DensityTold, DensitySame, RefusalPrinted, PeriodPrinted}
use Rattle.theorems.specs.Density.{DensityPrinted, ShortestWords, DensityPromise}
use Rattle.theorems.proofs.Files.{file_promise}
use Rattle.theorems.proofs.Program.{program_promise}

-- what is right of a file in mode 1: it has no other records, and no other mode
period-right :
    {file : List ℕ} {rs : List RouteRecord} {told : Result FileTold} {eight answer' : List ℕ}
    → Holds file rs period_mode
    → FileRight file told eight answer'
    → (a : FileTold)
    → told ≡ answered a
    → PeriodFile rs a eight answer'
period-right {rs = rs} {eight = eight} {answer' = answer'} h x a e =
    let (qs, m, k, y) = x.rated a e in
    let same : qs ≡ rs = answered_same (sym k.its_records ∙ h.its_records) in
    let mode : m ≡ period_mode =
    some-injective _ _ (sym k.its_mode ∙ ap (λ z. mode_of (byte_of 3 z)) same ∙ h.its_mode) in
    subst (λ z. RatedBy period_mode z a eight answer') same
    (subst (λ z. RatedBy z qs a eight answer') mode y)

density-told : DensityTold
density-told file rs n x =
    let y = file_promise file x.answer x.work x.rating x.answer' x.work' x.call in
    let z = period-right x.holds y (with_powers x.degree n x.count) x.told in
    subst (LeastPeriod (periodic (terms_of rs))) (sym (ap denominator_of z.tells))
    z.rated.repeat
  where
    denominator_of : FileTold → ℕ
    denominator_of (with_powers d m k) = m
    denominator_of (with_one d m) = m
    denominator_of (with_some d m) = m

-- equal sequences have one least period
least-same : {s t : Sequence} {m n : ℕ} → LeastPeriod s m → LeastPeriod t n → ((i : ℕ) → s i ≡ t i) → m ≡ n
least-same {s} {t} {m} {n} x y e =
    le_antisymm (x.least n (moved t s n (λ i. sym (e i)) y.period))
    (y.least m (moved s t m e x.period))
  where
    moved : (u v : Sequence) (k : ℕ) → ((i : ℕ) → u i ≡ v i) → Period u k → Period v k
    moved u v k h p =
        record { positive = p.positive; repeats = λ i. sym (h (i + k)) ∙ p.repeats i ∙ h i }

density-same : DensitySame
density-same file file' rs rs' n n' x y e =
    least-same (density-told file rs n x) (density-told file' rs' n' y) e

module _ {input output : List ℕ} {rs : List RouteRecord} (h : Holds input rs period_mode)
    (x : PrintedRight input output) where
  lines_of : {t : Result FileTold} → x.told ≡ t
      → output ≡ header ++ lines_told (box_of input) t x.eight x.left
  lines_of e = x.lines ∙ ap (λ t. header ++ lines_told (box_of input) t x.eight x.left) e

  by-told : (t : Result FileTold) → x.told ≡ t
      → RefusalPrinted input output ⊎ PeriodPrinted input output (terms_of rs)
  by-told (refused k) e = inl (k, lines_of e)
  by-told (answered a) e =
      let y = period-right h x.right a e in
      inr
      (record {
        degree = y.figures.degree;
        denominator = y.figures.repeat;
        word = joined (text ",") (map decimal (take 1 x.eight));
        polynomial = list_in x.left y.figures.degree;
        lines = lines_of (e ∙ ap answered y.tells);
        shortest = y.rated.repeat;
      })

density-printed : DensityPrinted
density-printed input output rs call h = by-told h (program_promise input output call) _ refl

shortest-words : ShortestWords
shortest-words ts l =
    let (n, e, _) = shortest_exists ts l in
    record {
      some_number = (n, e);
      words = λ n. (shortest-least ts l, least-shortest ts l);
      divides = λ n. shortest-divides ts l;
    }

pub density_promise : DensityPromise
density_promise =
    record {
      told = density-told;
      same = density-same;
      printed = density-printed;
      shortest-words = shortest-words;
    }
