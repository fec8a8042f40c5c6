-- What the reader of route files tells, as numbers.
-- Assumes nothing.
use Prim.Native.Nat.{ℕ}
use mathlib.Core.Path.{◌≡◌, refl, sym, ap, ◌∙◌}
use mathlib.Core.List.{List}
use lib.ListN.{length, get_or}
use Rattle.std.specs.Prelude.{Ok, Err}
use Rattle.meaning.specs.declared.Refusal.{Refusal}
use Rattle.meaning.specs.Result.{Result, refused, answered, map_result}
use Rattle.meaning.specs.Route.{RouteRecord, end_record, records, read_record}
use Rattle.meaning.specs.Answers.{number_of, told_record, told}
use Rattle.meaning.specs.Calls.{body_after, RecordCall}
use Rattle.meaning.specs.Exports.{body_start, record_told, RecordExported}
use Rattle.bridge.proofs.Basics.Searches.{never_answered, answered_same, refused_same}
use Rattle.route.specs.reader.Reading.{BodyStart}

-- record n, from the records of a file
abbrev read_in : Result (List RouteRecord) → ℕ → Result RouteRecord
read_in x n = elim x [ refused k ↦ refused k | answered rs ↦ answered (get_or rs n end_record) ]

found-told : (n : ℕ) (x : Result (List RouteRecord)) (k : ℕ) (body : List ℕ) (s : ℕ)
    → answered k ≡ map_result (λ a. a.kind) (read_in x n)
    → body ≡ body_after (read_in x n)
    → ((rs : List RouteRecord) → x ≡ answered rs → s ≡ body_start rs n)
    → record { status = 0; kind = k; from = s; length = length body } ≡ record_told x n
unfolding map_result body_after record_told
found-told n (refused j) k body s t b h = absurd (never_answered (sym t))
found-told n (answered rs) k body s t b h =
    let y = answered_same t in
    let z = h rs refl in
    λ i. record { status = 0; kind = y i; from = z i; length = length (b i) }

refused_told : (n : ℕ) (x : Result (List RouteRecord)) (k : ℕ)
    → refused k ≡ map_result (λ a. a.kind) (read_in x n)
    → record { status = k; kind = 0; from = 0; length = 0 } ≡ record_told x n
unfolding map_result record_told
refused_told n (refused j) k t =
    ap (λ (m : ℕ). record { status = m; kind = 0; from = 0; length = 0 }) (refused_same t)
refused_told n (answered rs) k t = absurd (never_answered t)

module _ {file : List ℕ} {n k : ℕ} {body : List ℕ} where
  pub record_found : {j s : ℕ} → RecordCall file n (Ok k) body
      → j ≡ k
      → BodyStart file n s
      → RecordExported file n (record { status = 0; kind = j; from = s; length = length body })
  unfolding told_record told read_record
  record_found {j} {s} c e h =
      record { told = found-told n (records file) j body s (ap answered e ∙ c.found) c.part h.place }

  pub record_refused : {x : Refusal} → RecordCall file n (Err x) body → k ≡ number_of x
      → RecordExported file n (record { status = k; kind = 0; from = 0; length = 0 })
  unfolding told_record told read_record
  record_refused c i = record { told = refused_told n (records file) k (ap refused i ∙ c.found) }
