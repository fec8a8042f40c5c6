-- The calls for other languages keep the promises of the calls that they wrap, from their contracts alone.
--
--   status_told      == the status that is told, of a result that is refused by its own numbers alone
--   part_body        == the part of a file from `body_start` on is the body of the record
-- Assumes nothing.
use Prim.Native.Nat.{ℕ, zero, suc, ◌+◌, ◌≤◌}
use native.Mathlib.Omega.{arith}
use mathlib.Core.Path.{◌≡◌, refl, sym, ap, subst, subst₂, ◌∙◌}
use mathlib.Core.Logic.{inl, inr}
use mathlib.Core.Bool.{Bool, true, false}
use mathlib.Core.List.{List, [], ◌∷◌, ◌++◌, map}
use lib.ListN.{length, get_or, take, drop, length-append}
use lib.Seq.{take_at, drop_at, drop-drop}
use Rattle.meaning.specs.Answers.{told}
use Rattle.meaning.specs.declared.Rating.{Rating}
use Rattle.meaning.specs.declared.Found.{Found}
use Rattle.meaning.specs.Result.{Result, refused, answered, Rated, figures_of, map_result}
use Rattle.meaning.specs.Field.{prime_in_range}
use Rattle.meaning.specs.Search.{holds_for_some}
use Rattle.meaning.specs.Polynomial.{monic_multiple}
use Rattle.meaning.specs.Power.{PowerFigures}
use Rattle.meaning.specs.Period.{rate_period}
use Rattle.meaning.specs.Portion.{SetFigures, rate_set}
use Rattle.meaning.specs.Free.{FreeFigures, rate_free}
use Rattle.meaning.specs.Continuation.{continue_sequence}
use Rattle.meaning.specs.Route.{RouteRecord, end_record, records, read_record}
use Rattle.meaning.specs.Answers.{told_power, told_free, told_filling, told_irreducible, told_record}
use Rattle.meaning.specs.Answers.{set_figures_told, set_padded}
use Rattle.meaning.specs.Calls.{PeriodCall, SetCall, FreeCall, ContinueCall, body_after}
use Rattle.meaning.specs.Exports.{named_by, status_of, period_told, set_told, free_told, RatingExported}
use Rattle.meaning.specs.Exports.{answer_told, body_start, record_told}
use Rattle.meaning.proofs.Determined.{lent-determined}
use Rattle.bridge.proofs.Basics.Searches.{map_answered, answered_same, refused_same, never_answered}
use Rattle.bridge.proofs.Files.Records.{flat, records-whole}
use Rattle.theorems.specs.Answering.{period_numbers, set_numbers, free_numbers, reader_numbers}
use Rattle.theorems.specs.Answering.{lists_conditions, RatingAnswers}
use Rattle.theorems.specs.Answering.{continue_numbers, irreducible_numbers, OneOf, Tells}
use Rattle.theorems.specs.Ratings.{GF, SetRight}
use Rattle.theorems.specs.OtherLanguages.{StatusTold, ExactlyOne, PeriodExport, SetExport, FreeExport}
use Rattle.theorems.specs.OtherLanguages.{ContinueExport, IrreducibleExport, part_of, RecordExport}
use Rattle.theorems.specs.OtherLanguages.{ExportAnswers}
use Rattle.theorems.proofs.Telling.{keeping-zero, no_zero, lent-after}
use Rattle.theorems.proofs.Answering.{period_answers, set_answers, free_answers}
use Rattle.theorems.proofs.Answering.{continue_answers, irreducible_answers, period-keeping}
use Rattle.theorems.proofs.Answering.{set-keeping, free-keeping, continue_keeping, irreducible-keeping}
use Rattle.theorems.proofs.FileAnswers.{record_answers}
use Rattle.theorems.proofs.Ways.{period_promise, set_promise, free_promise}
use Rattle.theorems.proofs.Words.{continue_promise, irreducible_promise}

-- THE STATUS
pub status_told :
    {A : Type 0} (numbers : List ℕ) (told : Result A) (status : ℕ)
    → ¬ OneOf 0 numbers
    → Tells numbers told
    → status ≡ status_of told
    → StatusTold told status
unfolding status_of
status_told numbers told status z (inl a) s = record { is = s; zero = λ _. a }
status_told numbers told status z (inr (n, e, h)) s =
    record {
      is = s;
      zero = λ q. absurd (z (subst (λ k. OneOf k numbers) (sym (s ∙ ap status_of e) ∙ q) h));
    }

status_map : {A B : Type 0} (g : A → B) (x : Result A) → status_of x ≡ status_of (map_result g x)
unfolding status_of map_result
status_map g (refused n) = refl
status_map g (answered a) = refl

-- the status of what is told with fewer figures
status_unmap : {A B : Type 0} (g : A → B) (x : Result A) (status : ℕ) → StatusTold (map_result g x) status
    → StatusTold x status
status_unmap g x status s =
    record {
      is = s.is ∙ sym (status_map g x);
      zero = λ q. let (b, e) = s.zero q in let (a, r, _) = map_answered g x e in (a, r);
    }

-- the status stands first in each struct
period_status : (x : Result PowerFigures) → (period_told x).status ≡ status_of x
unfolding period_told status_of
period_status (refused n) = refl
period_status (answered a) = refl

set_status : (x : Result SetFigures) → (set_told x).status ≡ status_of x
unfolding set_told status_of
set_status (refused n) = refl
set_status (answered a) = refl

free_status : (x : Result FreeFigures) → (free_told x).status ≡ status_of x
unfolding free_told status_of
free_status (refused n) = refl
free_status (answered a) = refl

answer_status : (x : Result Bool) → (answer_told x).status ≡ status_of x
unfolding answer_told status_of
answer_status (refused n) = refl
answer_status (answered true) = refl
answer_status (answered false) = refl

-- THE PERIOD WAY
pub period_export : PeriodExport
period_export field f ts answer work r answer' work' x =
    let name = named_by field in
    let numbers = period_numbers name in
    let answers = period_answers name f ts answer work in
    let (s, _, _, c₀) = answers.some in
    let c : PeriodCall name f ts answer work s answer' work' =
    record { rating = c₀.rating; lent = x.lent } in
    let each = answers.each s answer' work' c in
    let told = x.told ∙ ap period_told (sym c₀.rating) in
    record {
      told = told_power s;
      status_told =
          status_told numbers (told_power s) r.status (keeping-zero numbers (period-keeping name))
          each.tells
          (ap (λ (t : Rating). t.status) told ∙ period_status (told_power s));
      rating_told = told;
      answers = each;
      right = period_promise name f ts answer work s answer' work' c;
    }

-- THE SET WAY
set-powers : (x : Result SetFigures) → (set_told x).powers ≡ set_padded x
unfolding set_told set_padded
set-powers (refused n) = refl
set-powers (answered a) = refl

pub set_export : SetExport
set_export field fs vs ts answer work r answer' work' x =
    let name = named_by field in
    let numbers = set_numbers name in
    let result = figures_of (rate_set name fs vs ts (length answer) (length work)) in
    let answers = set_answers name fs vs ts answer work in
    let (s, _, _, c₀) = answers.some in
    let c : SetCall name fs vs ts answer work s answer' work' =
    record { rating = c₀.rating; powers = c₀.powers; lent = x.lent } in
    let each =
    subst
    (λ y.
    RatingAnswers numbers (lists_conditions name fs vs ts (length answer) (length work)) (λ a. a.degree) y
    answer work answer' work')
    c₀.rating (answers.each s answer' work' c) in
    record {
      told = result;
      status_told =
          status_unmap set_figures_told result r.status
          (status_told numbers (map_result set_figures_told result) r.status
          (keeping-zero numbers (set-keeping name)) each.tells
          (ap (λ (t : Rating). t.status) x.told ∙ set_status result ∙ status_map set_figures_told result));
      rating_told = x.told;
      answers = each;
      right =
          subst₂
          (λ y places. SetRight (GF name) (map (monic_multiple (GF name)) fs) vs ts y places answer')
          c₀.rating
          (c₀.powers ∙ sym (ap (λ (t : Rating). t.powers) x.told ∙ set-powers result))
          (set_promise name fs vs ts answer work s answer' work' c);
    }

-- THE FREE WAY
pub free_export : FreeExport
free_export field ts answer work r answer' work' x =
    let name = named_by field in
    let numbers = free_numbers name in
    let answers = free_answers name ts answer work in
    let (s, _, _, c₀) = answers.some in
    let c : FreeCall name ts answer work s answer' work' =
    record { rating = c₀.rating; lent = x.lent } in
    let each = answers.each s answer' work' c in
    let told = x.told ∙ ap free_told (sym c₀.rating) in
    record {
      told = told_free s;
      status_told =
          status_told numbers (told_free s) r.status (keeping-zero numbers (free-keeping name))
          each.tells
          (ap (λ (t : Rating). t.status) told ∙ free_status (told_free s));
      rating_told = told;
      answers = each;
      right = free_promise name ts answer work s answer' work' c;
    }

-- THE CONTINUATION AND THE QUESTION
pub continue_export : ContinueExport
continue_export field g start buffer place status buffer' x =
    let name = named_by field in
    let numbers = continue_numbers name in
    let answers = continue_answers name g start buffer place in
    let (r, _, c₀) = answers.some in
    let c : ContinueCall name g start buffer place r buffer' =
    record { filling = c₀.filling; buffer_bytes = x.lent } in
    let tells = answers.tells r buffer' c in
    record {
      told = told_filling r;
      status_told =
          status_told numbers (told_filling r) status (keeping-zero numbers (continue_keeping name)) tells
          (x.told
          ∙ status_map (λ _. tt) (continue_sequence name g start place buffer)
          ∙ ap status_of (sym c₀.filling));
      answers = tells;
      decided = answers.decided r buffer' c;
      right = continue_promise name g start buffer place r buffer' c;
    }

pub irreducible_export : IrreducibleExport
irreducible_export field f r x =
    let name = named_by field in
    let numbers = irreducible_numbers name in
    let answers = irreducible_answers name f in
    let (s, c) = answers.some in
    let tells = answers.tells s c in
    let told = x.told ∙ ap answer_told (sym c.answer) in
    record {
      told = told_irreducible s;
      status_told =
          status_told numbers (told_irreducible s) r.status
          (keeping-zero numbers (irreducible-keeping name)) tells
          (ap (λ a. a.status) told ∙ answer_status (told_irreducible s));
      told_answer = told;
      answers = tells;
      decided = answers.decided s c;
      right = irreducible_promise name f s c;
    }

-- THE READER

-- records one after another: the part from `body_start` on is the body, and it ends inside
start_none : (n : ℕ) → body_start [] n ≡ 0
unfolding body_start
start_none n = refl

start_first : (r : RouteRecord) (rs : List RouteRecord) → body_start (r ∷ rs) 0 ≡ 1
unfolding body_start
start_first r rs = refl

start-later : (r : RouteRecord) (rs : List RouteRecord) (n : ℕ)
    → body_start (r ∷ rs) (suc n) ≡ 1 + length r.body + body_start rs n
unfolding body_start
start-later r rs n = refl

module _ (r : RouteRecord) (rs : List RouteRecord) where
  flat-length : length (flat (r ∷ rs)) ≡ 1 + length r.body + length (flat rs)
  flat-length = let e = length-append r.body (flat rs) in omega arith

  drop-body : drop (1 + length r.body) (flat (r ∷ rs)) ≡ flat rs
  drop-body = drop_at (r.kind ∷ r.body) (flat rs) (1 + length r.body) (omega arith)

  drop_kind : drop 1 (flat (r ∷ rs)) ≡ r.body ++ flat rs
  drop_kind = refl

end-length : length end_record.body ≡ 0
unfolding end_record
end-length = refl

part_body : (rs : List RouteRecord) (n : ℕ)
    → take (length (get_or rs n end_record).body) (drop (body_start rs n) (flat rs)) ≡
    (get_or rs n end_record).body
unfolding end_record
part_body [] n = refl
part_body (r ∷ rs) zero =
    ap (λ k. take (length r.body) (drop k (flat (r ∷ rs)))) (start_first r rs)
    ∙ take_at r.body (flat rs) (length r.body) refl
part_body (r ∷ rs) (suc n) =
    ap (λ k. take (length (get_or rs n end_record).body) (drop k (flat (r ∷ rs)))) (start-later r rs n)
    ∙ ap (take (length (get_or rs n end_record).body))
    (sym (drop-drop (body_start rs n) (1 + length r.body) (flat (r ∷ rs)))
    ∙ ap (drop (body_start rs n)) (drop-body r rs))
    ∙ part_body rs n

body-inside : (rs : List RouteRecord) (n : ℕ)
    → body_start rs n + length (get_or rs n end_record).body ≤ length (flat rs)
body-inside [] n = omega (arith, start_none n, end-length)
body-inside (r ∷ rs) zero = omega (arith, start_first r rs, flat-length r rs)
body-inside (r ∷ rs) (suc n) = omega (arith, start-later r rs n, flat-length r rs, body-inside rs n)

-- record n, from the records of a file
abbrev read_in : Result (List RouteRecord) → ℕ → Result RouteRecord
read_in x n = elim x [ refused k ↦ refused k | answered rs ↦ answered (get_or rs n end_record) ]

-- what the struct says, by the records of the file
module _ (file : List ℕ) (n : ℕ) where
  record_status : (x : Result (List RouteRecord))
      → (record_told x n).status ≡ status_of (map_result (λ a. a.kind) (read_in x n))
  unfolding record_told status_of map_result
  record_status (refused k) = refl
  record_status (answered rs) = refl

  record_kind : (x : Result (List RouteRecord)) (k : ℕ)
      → map_result (λ a. a.kind) (read_in x n) ≡ answered k
      → (record_told x n).kind ≡ k
  unfolding record_told map_result
  record_kind (refused j) k e = never_answered e
  record_kind (answered rs) k e = answered_same e

  record_zeros : (x : Result (List RouteRecord)) (k : ℕ)
      → map_result (λ a. a.kind) (read_in x n) ≡ refused k
      → record_told x n ≡ record { status = k; kind = 0; from = 0; length = 0 }
  unfolding record_told map_result
  record_zeros (refused j) k e =
      ap (λ (m : ℕ). record { status = m; kind = 0; from = 0; length = 0 }) (refused_same e)
  record_zeros (answered rs) k e = never_answered (sym e)

  record_part : (x : Result (List RouteRecord)) → records file ≡ x
      → part_of file (record_told x n) ≡ body_after (read_in x n)
  unfolding record_told body_after
  record_part (refused k) e = refl
  record_part (answered rs) e =
      ap (λ l. take (length (get_or rs n end_record).body) (drop (body_start rs n) l))
      (sym (records-whole file e).0)
      ∙ part_body rs n

  record_inside : (x : Result (List RouteRecord)) → records file ≡ x
      → (record_told x n).from + (record_told x n).length ≤ length file
  unfolding record_told
  record_inside (refused k) e = omega arith
  record_inside (answered rs) e = omega (arith, body-inside rs n, ap length (records-whole file e).0)

pub record_export : RecordExport
unfolding read_record holds_for_some
record_export file n r x =
    let answers = record_answers file n in
    let (o, body, c₀) = answers.some in
    let tells = answers.tells o body c₀ in
    record {
      told = told_record o;
      status_told =
          status_told reader_numbers (told_record o) r.status (no_zero reader_numbers tt) tells
          (ap (λ (t : Found). t.status) x.told
          ∙ record_status file n (records file)
          ∙ ap status_of (sym c₀.found));
      answers = tells;
      decided = answers.decided o body c₀;
      handed_back = λ kind e. (
        ap (λ (t : Found). t.kind) x.told ∙ record_kind file n (records file) kind (sym c₀.found ∙ e),
        (
          o,
          record {
            found = c₀.found;
            part = ap (part_of file) x.told ∙ record_part file n (records file) refl;
          },
          e,
        ),
      );
      inside =
          subst (λ (t : Found). t.from + t.length ≤ length file) (sym x.told)
          (record_inside file n (records file) refl);
      zeros = λ k e. x.told ∙ record_zeros file n (records file) k (sym c₀.found ∙ e);
    }

-- DEMAND 1: the contracts are equations

exactly-rated : {A : Type 0} (tell : Result A → Rating) (result : Result (Rated A)) (answer work : List ℕ)
    → ExactlyOne {R = Rating × List ℕ × List ℕ}
    (λ r. RatingExported tell result answer work r.0 r.1 r.2)
exactly-rated tell result answer work =
    record {
      some = (_, record { told = refl; lent = lent-after result answer work });
      one = λ r s c d.
          let tolds = c.told ∙ sym d.told in
          let (answers, works) = lent-determined c.lent d.lent in
          λ i. (tolds i, answers i, works i);
    }

pub export_answers : ExportAnswers
export_answers =
    record {
      period = λ field f ts answer work.
          exactly-rated period_told (rate_period (named_by field) f ts (length answer) (length work)) answer
          work;
      set = λ field fs vs ts answer work.
          exactly-rated set_told (rate_set (named_by field) fs vs ts (length answer) (length work)) answer
          work;
      free = λ field ts answer work.
          exactly-rated free_told (rate_free (named_by field) ts (length answer) (length work)) answer work;
      continuation = λ field g start buffer place. record {
        some = (_, record { told = refl; lent = refl });
        one = λ r s c d.
            let status = c.told ∙ sym d.told in
            let buffers = c.lent ∙ sym d.lent in
            λ i. (status i, buffers i);
      };
      irreducibility = λ field f. record {
        some = (_, record { told = refl });
        one = λ r s c d. c.told ∙ sym d.told;
      };
      records = λ file n. record {
        some = (_, record { told = refl });
        one = λ r s c d. c.told ∙ sym d.told;
      };
      primes = λ n. record {
        some = (prime_in_range n, record { answer = refl });
        one = λ r s c d. c.answer ∙ sym d.answer;
      };
      versions = record { some = (_, refl); one = λ r s c d. c ∙ sym d };
    }
