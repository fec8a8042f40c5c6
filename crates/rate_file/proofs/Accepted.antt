-- What holds of an accepted file: its records are those by their lengths, and no body is cut.
-- Assumes nothing.
use Prim.Native.Nat.{ℕ, zero, suc, ◌<◌}
use mathlib.Core.Path.{◌≡◌, refl, sym, ap, ◌∙◌}
use mathlib.Core.Bool.{Bool, true, false}
use mathlib.Core.List.{List, [], ◌∷◌}
use native.Mathlib.Nat.{le_of_suc-le-suc, not-suc-le-zero}
use borrow.Author.Tests.{eqb-true}
use lib.Dec.{eqb}
use lib.ListN.{length, get_or}
use Rattle.meaning.specs.Result.{answered, map_result}
use Rattle.meaning.specs.Route.{RouteRecord, bodies, records}
use Rattle.route.specs.framing.Framing.{body_length, records_from}
use Rattle.route.specs.walk.Walking.{verdict_of}
use Rattle.bridge.proofs.Files.Records.{Whole}
use Rattle.route.proofs.walk.Walks.{length_found, AnswersWhole}
use Rattle.route.proofs.acceptance.Accepting.{records-whole, records-known}

module _ (k : ℕ) where
  abbrev AllWhole : List (List ℕ) → Type 0
  AllWhole bs = (i : ℕ) → i < length bs → length (get_or bs i []) ≡ body_length k

  whole-cons : (b : List ℕ) (bs : List (List ℕ)) → length b ≡ body_length k → AllWhole bs → AllWhole (b ∷ bs)
  whole-cons b bs e rest zero h = e
  whole-cons b bs e rest (suc i) h = rest i (le_of_suc-le-suc h)

  bodies-whole : (rs : List RouteRecord) → Whole rs → AllWhole (bodies k rs)
  unfolding bodies
  bodies-whole [] w = λ i h. absurd (not-suc-le-zero h)
  bodies-whole (r ∷ rs) w = go (bodies-whole rs w.1) (eqb r.kind k) refl
    where
      go : AllWhole (bodies k rs) → (t : Bool) → eqb r.kind k ≡ t → AllWhole (bodies k (r ∷ rs))
      go rest true e =
          let n = sym (length_found r.kind w.0) ∙ ap body_length (eqb-true r.kind k e) in
          rw (e, bodies) (whole-cons r.body (bodies k rs) n rest)
      go rest false e = rw (e, bodies) rest

module _ (file : List ℕ) (accepted : answered tt ≡ verdict_of (records file)) where
  pub records-accepted : records file ≡ answered (records_from file 0)
  unfolding map_result
  records-accepted = records-known file accepted

  pub bodies-accepted : (k i : ℕ) → i < length (bodies k (records_from file 0))
      → length (get_or (bodies k (records_from file 0)) i []) ≡ body_length k
  bodies-accepted k = bodies-whole k (records_from file 0) (go (rw records-accepted at (records-whole file)))
    where
      go : AnswersWhole (answered (records_from file 0)) (records_from file 0) → Whole (records_from file 0)
      go h = h.1
