-- `Printed::push_led` meets its contract: the first numbers are put.
-- Assumes nothing.
use Rattle.std.proofs.Common.{◌∷◌, [], append-nil, append_assoc, arith, sym, ap, length, length-append}
use Rattle.meaning.specs.Print.{decimal}
use Rattle.printing.specs.words.Words.{led}
use Rattle.printing.proofs.words.Joining.{led_more}
use Rattle.printing.proofs.buffer.Printed.push_led.Goals as goal

pub loop-number-init : goal.loop-number-init
unfolding led
loop-number-init g c = record { put = sym (append-nil c.args.self.now); within = omega arith }

pub loop-number-preserved : goal.loop-number-preserved
loop-number-preserved g c =
    let more = led_more (λ n. decimal (g.T.Figure.value n)) (c.args.separator ∷ []) c.args.numbers.now
    c.loop-number.number-index c.number-item.result c.loop-number-test.true c.number-item.is in
    record {
      put =
          rw (c.push_number.ensures.put, c.push.ensures, c.loop-number.invariant.put, more)
          (simp append_assoc);
      within =
          omega (arith, ap length c.push.ensures, length-append c.loop-number.self (c.args.separator ∷ []));
    }
