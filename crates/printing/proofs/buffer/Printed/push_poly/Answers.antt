-- `Printed::push_poly` meets its contract: its parts one after the other.
-- Assumes nothing.
use Rattle.std.proofs.Common.{◌∷◌, [], map, append_assoc, arith, ap, length, length-append}
use Rattle.meaning.specs.Print.{text, decimal, line}
use Rattle.printing.proofs.words.Joining.{joined-led}
use Rattle.printing.proofs.buffer.Printed.push_poly.Goals as goal

pub returns : goal.returns
unfolding text line
returns c =
    let led = joined-led (text " ") (text "poly") (map decimal c.args.coefficients.now) in
    record {
      put =
          rw (c.push.ensures, c.push_led.ensures.put, c.push_word.ensures, led) (simp append_assoc);
      within =
          omega (
            arith,
            ap length c.push.ensures,
            length-append c.push_led.new.self (10 ∷ []),
            ap length c.push_word.ensures,
            length-append c.args.self.now (text "poly"),
          );
    }
