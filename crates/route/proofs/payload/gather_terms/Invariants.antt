-- `payload::gather_terms` meets its contract. The count and the number of the terms that are left are all,
-- their stores leave what all stores leave, and no more terms were counted than bytes were read.
-- Assumes nothing.
use Prim.Native.Nat.{◌+◌, ◌≤◌}
use mathlib.Core.Path.{◌≡◌}
use lib.ListN.{length}
use lib.Seq.{sets}
use Rattle.meaning.specs.File.{terms_of}
use Rattle.route.specs.framing.Framing.{records_from}
use Rattle.route.specs.framing.Iterating.{left, size_of}
use Rattle.route.proofs.payload.gather_terms.Given as goal

abbrev pub invariant-loop-record : goal.invariant-loop-record
invariant-loop-record l = record {
  count :
      l.count + length (terms_of (left l.record-iterator)) ≡ length (terms_of (records_from l.file 0));
  stores :
      sets l.terms l.count (terms_of (left l.record-iterator))
      ≡ sets l.initial.terms 0 (terms_of (records_from l.file 0));
  few : l.count + size_of (left l.record-iterator) ≤ length l.file;
}
