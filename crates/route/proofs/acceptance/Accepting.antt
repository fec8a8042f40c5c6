-- The records of a file are those by their lengths, under the verdict of the walk and of the mode.
-- Assumes nothing.
use Prim.Native.Nat.{ℕ, ◌<◌, ◌≤◌}
use mathlib.Core.Path.{◌≡◌, refl, sym, ap, ◌∙◌}
use mathlib.Core.Bool.{true, false}
use mathlib.Core.List.{List}
use lib.ListN.{length}
use Rattle.meaning.specs.Result.{Result, refused, answered, map_result}
use Rattle.meaning.specs.Route.{RouteRecord, at_start, walk, mode_unsuited, suited, records}
use Rattle.route.specs.framing.Framing.{records_from}
use Rattle.bridge.proofs.Files.Records.{records-long, records-short, walk-walked}
use Rattle.bridge.proofs.Files.Records as bridge
use Rattle.route.specs.walk.Walking.{verdict_of}
use Rattle.route.proofs.walk.Walks.{AnswersWhole, walked_whole}

-- of such a result the verdict is all that is left
answer-known : (x : Result (List RouteRecord)) (rs : List RouteRecord) → AnswersWhole x rs
    → x ≡ map_result (λ _. rs) (verdict_of x)
unfolding verdict_of map_result
answer-known (refused n) rs h = refl
answer-known (answered qs) rs h = ap answered h.0

module _ (file : List ℕ) where
  walk-whole : AnswersWhole (walk file 0 at_start) (records_from file 0)
  unfolding records_from
  walk-whole = walked_whole file (walk file 0 at_start) (walk-walked file 0 at_start)

  pub records-whole : AnswersWhole (records file) (records_from file 0)
  unfolding records_from
  records-whole = walked_whole file (records file) (bridge.records-walked file)

  -- the records of an accepted file
  pub records-known : {v : Result (Unit {0})} → v ≡ verdict_of (records file)
      → records file ≡ map_result (λ _. records_from file 0) v
  records-known told = rw told (answer-known _ _ records-whole)

  pub verdict_long : 16384 < length file → refused 1 ≡ verdict_of (records file)
  unfolding verdict_of map_result
  verdict_long h = sym (ap verdict_of (records-long file h))

  module _ (short : length file ≤ 16384) {v : Result (Unit {0})}
      (walked : v ≡ verdict_of (walk file 0 at_start)) where
    records-walked : records file ≡ suited (map_result (λ _. records_from file 0) v)
    records-walked = records-short file short ∙ ap suited (rw walked (answer-known _ _ walk-whole))

    pub verdict_refused : {n : ℕ} → v ≡ refused n → refused n ≡ verdict_of (records file)
    unfolding verdict_of map_result suited
    verdict_refused e = rw (records-walked, e)

    module _ (e : v ≡ answered tt) where
      pub verdict_unsuited : mode_unsuited (records_from file 0) ≡ true → refused 5 ≡ verdict_of
          (records file)
      unfolding verdict_of map_result suited
      verdict_unsuited t = rw (records-walked, e, t, suited)

      pub verdict_suited : mode_unsuited (records_from file 0) ≡ false → answered tt ≡ verdict_of
          (records file)
      unfolding verdict_of map_result suited
      verdict_suited t = rw (records-walked, e, t, suited)
