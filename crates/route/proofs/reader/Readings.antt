-- What the reader finds in a file, by the verdict on it.
-- Assumes nothing.
use Prim.Native.Nat.{ℕ}
use mathlib.Core.Path.{◌≡◌, sym, ap, ◌∙◌}
use mathlib.Core.List.{List, [], ◌∷◌}
use native.Mathlib.Nat.{add-zero}
use lib.Seq.{get_or-drop}
use Rattle.std.specs.Prelude.{Option, Some, None, MatchOption, unwrap_or}
use Rattle.meaning.specs.declared.FoundRecord.{FoundRecord}
use Rattle.route.specs.framing.Iterating.{read}
use lib.ListN.{get_or, drop}
use Rattle.meaning.specs.Result.{Result, refused, answered, map_result}
use Rattle.meaning.specs.Route.{RouteRecord, records, end_record, read_record}
use Rattle.route.specs.framing.Framing.{records_from}
use Rattle.route.specs.walk.Walking.{verdict_of}
use Rattle.route.proofs.acceptance.Accepting.{records-known}

first : (rs : List RouteRecord) (n : ℕ) → get_or rs n end_record ≡ get_or (drop n rs) 0 end_record
first rs n = rw (get_or-drop, add-zero)

-- where v is the verdict
module _ (file : List ℕ) (n : ℕ) {v : Result (Unit {0})} (told : v ≡ verdict_of (records file)) where
  pub read_refused : {k : ℕ} → v ≡ refused k → read_record file n ≡ refused k
  unfolding read_record map_result
  read_refused e = rw (records-known file told, e, read_record)

  pub read_found : v ≡ answered tt → {r : RouteRecord} → r ≡ get_or (records_from file 0) n end_record
      → read_record file n ≡ answered r
  unfolding read_record map_result
  read_found e h = rw (records-known file told, e, read_record, h)

-- the record that was reached, or else the end record
pub end_or : (rs : List RouteRecord) (n : ℕ) (d : FoundRecord) → read d ≡ end_record
    → (o : Option FoundRecord) (more : List RouteRecord)
    → MatchOption o (drop n rs ≡ []) (λ r. drop n rs ≡ read r ∷ more)
    → read (unwrap_or o d) ≡ get_or rs n end_record
end_or rs n d h None more e = h ∙ sym (first rs n ∙ ap (λ l. get_or l 0 end_record) e)
end_or rs n d h (Some r) more e = sym (first rs n ∙ ap (λ l. get_or l 0 end_record) e)
