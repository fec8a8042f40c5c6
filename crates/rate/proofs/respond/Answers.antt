-- `respond` meets its contract: the rating of the bytes that were kept, and its lines. The buffer holds more
-- than 16,384 bytes, so the lines are those of the whole input.
-- Assumes nothing.
use native.Mathlib.Omega.{arith}
use Prim.Native.Nat.{ℕ}
use lib.ListN.{length-replicate}
use Rattle.rate.proofs.Responding.{respond_call}
use Rattle.rate.proofs.respond.Goals as goal

pub returns : goal.returns
returns c =
    respond_call c.args.buffer.now c.args.count (omega arith) c.part.ensures
    (length-replicate {A = ℕ} 4097 0) (length-replicate {A = ℕ} 8192 0)
    c.rate_file-rating.ensures
    c.print_rating.ensures
