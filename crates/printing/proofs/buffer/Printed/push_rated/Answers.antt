-- `Printed::push_rated` meets its contract: its parts one after the other.
-- Assumes nothing.
use Rattle.std.proofs.Common.{◌∷◌, [], append_assoc, arith, ap, length, length-append}
use Rattle.meaning.specs.Print.{text}
use Rattle.printing.proofs.buffer.Printed.push_rated.Goals as goal

pub returns : goal.returns
unfolding text
returns c =
    record {
      put =
          rw (
            c.push.ensures,
            c.push_label.ensures.put,
            c.push_start.ensures.put,
            c.density-degree.ensures.0,
            c.density-degree.ensures.1,
          )
          (simp append_assoc);
      within = omega (arith, ap length c.push.ensures, length-append c.push_label.new.self (10 ∷ []));
    }
