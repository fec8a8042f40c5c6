-- `Printed::push_powers` meets its contract: the first power, and then the others.
-- Assumes nothing.
use Rattle.std.proofs.Common.{map, append_assoc, arith, rules, ap, length}
use Rattle.meaning.specs.Print.{text, decimal}
use Rattle.printing.proofs.words.Joining.{joined-led, joined-none}
use Rattle.printing.proofs.buffer.Printed.push_powers.Goals as goal

pub returns-in-Some : goal.returns-in-Some
unfolding text
returns-in-Some c =
    let all = c.in-Some.ensures.cases.0 in
    let led = joined-led (text ",") (decimal c.in-Some.first.now) (map decimal c.in-Some.others.now) in
    record {
      put = rw (all, c.push_led.ensures.put, c.push_number.ensures.put, led) (simp append_assoc);
      within = omega (arith, ap length all);
    }

pub returns-in_default : goal.returns-in_default
returns-in_default c =
    record {
      put = joined-none c.args.self.now (text ",") c.args.powers.now (search rules);
      within = omega arith;
    }
