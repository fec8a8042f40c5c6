-- `pack_factors` meets its contract. The invariant is `Packing` of the first factors.
-- Assumes nothing.
use lib.ListN.{length}
use Rattle.poly.proofs.parts.Packing.{Packing}
use Rattle.rate_file.specs.factors.Written.{polynomials_in}
use Rattle.rate_file.proofs.factors.pack_factors.Given as goal

abbrev pub invariant-loop-i : goal.invariant-loop-i
invariant-loop-i l = Packing (polynomials_in l.file) l.initial.to (length l.yielded) l.at l.lengths l.to
