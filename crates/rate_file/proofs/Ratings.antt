-- The rating of a file, by the verdict on its records.
-- Assumes nothing.
use Prim.Native.Nat.{ℕ}
use mathlib.Core.Path.{◌≡◌}
use mathlib.Core.Bool.{false}
use mathlib.Core.List.{List}
use lib.ListN.{length}
use Rattle.meaning.specs.declared.FileRating.{FileRating}
use Rattle.meaning.specs.Result.{refused, answered, map_result, clears}
use Rattle.meaning.specs.Route.{records, box_of}
use Rattle.meaning.specs.File.{rate_records, rate_file}
use Rattle.meaning.specs.Calls.{FileCall}
use Rattle.route.specs.framing.Framing.{records_from}
use Rattle.bridge.proofs.Files.Records.{records-suited}
use Rattle.bridge.proofs.Files.FileRatings.{accepted-file, refused_file}
use Rattle.rate_file.specs.modes.Outcomes.{RatedFile}
use Rattle.rate_file.specs.records.Accepted.{AcceptedRecords}
use Rattle.route.specs.walk.Walking.{verdict_of}
use Rattle.route.proofs.acceptance.Accepting.{records-whole, records-known}
use Rattle.rate_file.proofs.Accepted.{records-accepted, bodies-accepted}

module _ (file : List ℕ) where
  pub file-accepted : answered tt ≡ verdict_of (records file) → AcceptedRecords (records_from file 0)
  file-accepted v =
      record { whole = bodies-accepted file v 4; suited = records-suited file (records-accepted file v) }

  -- the result for a file, by the verdict on its records
  module _ (answer work : ℕ) where
    pub file-rated : answered tt ≡ verdict_of (records file)
        → rate_file file answer work ≡ rate_records (records_from file 0) answer work
    file-rated v = accepted-file file answer work (records-accepted file v)

    pub file_refused : {n : ℕ} → refused n ≡ verdict_of (records file)
        → rate_file file answer work ≡ refused n
    unfolding map_result
    file_refused v = refused_file file answer work (records-known file v)

  pub file-number : {n : ℕ} → refused n ≡ verdict_of (records file) → clears n ≡ false
  unfolding map_result
  file-number v = rw (records-known file v) at (records-whole file)

  -- the contract of the call
  pub file_call : {answer work : List ℕ} {r : FileRating} {answer' work' : List ℕ} → r.sender ≡ box_of file
      → RatedFile (rate_file file (length answer) (length work)) answer work r.outcome answer' work'
      → FileCall file answer work r answer' work'
  file_call e h = record { sender = e; rating = h.rating; powers = h.powers; lent = h.lent }
