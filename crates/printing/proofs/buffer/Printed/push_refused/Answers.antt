-- `Printed::push_refused` meets its contract: its parts one after the other.
-- Assumes nothing.
use Rattle.std.proofs.Common.{append_assoc, arith}
use Rattle.meaning.specs.Print.{text, joined, line, result_line}
use Rattle.printing.proofs.buffer.Printed.push_refused.Goals as goal

pub returns : goal.returns
unfolding text joined line result_line
returns c =
    record {
      put = rw (c.push_figure-2.ensures.put, c.push_figure.ensures.put) (simp append_assoc);
      within = omega arith;
    }
