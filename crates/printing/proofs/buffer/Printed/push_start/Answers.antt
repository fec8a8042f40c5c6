-- `Printed::push_start` meets its contract: its parts one after the other.
-- Assumes nothing.
use Rattle.std.proofs.Common.{append_assoc, arith}
use Rattle.meaning.specs.Print.{text}
use Rattle.printing.proofs.buffer.Printed.push_start.Goals as goal

pub returns : goal.returns
unfolding text
returns c =
    record {
      put =
          rw (c.push_figure-3.ensures.put, c.push_figure-2.ensures.put, c.push_figure.ensures.put)
          (simp append_assoc);
      within = omega arith;
    }
