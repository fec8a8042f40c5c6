-- `Printed::push_digits` meets its contract: the digits before the last one are put, and then the last one.
-- Assumes nothing.
use Rattle.std.proofs.Common.{◌≡◌, [], ◌∷◌, ◌++◌, ◌+◌, ◌%◌, ap, ◌∙◌, arith, length, length-append}
use Rattle.meaning.specs.Print.{decimal}
use Rattle.printing.proofs.words.Decimals.{length_more, digits_first, digits_next}
use Rattle.printing.proofs.buffer.Printed.+push_digits.Goals.{then-n-ge10, else-n-ge10}
use Rattle.printing.proofs.buffer.Printed.+push_digits.Goals as goal

pub push_digits-requires : goal.push_digits-requires
push_digits-requires t c = (omega arith, omega (arith, length_more c.args.n c.if-n-ge10.true))

pub push-requires : goal.push-requires
push-requires t c =
    let n = c.args.n in
    let old = c.args.self.now in
    let mid = c.if-n-ge10.self in
    let e : mid ++ ((48 + n % 10) ∷ []) ≡ old ++ decimal n =
    elim c.if-n-ge10.branch [
      | then-n-ge10 w ↦ digits_next n old mid w.if-n-ge10.true (w.self-is ∙ w.push_digits.ensures)
      | else-n-ge10 w ↦ digits_first n old mid w.if-n-ge10.false w.self-is
    ] in
    omega (arith, ap length e, length-append mid ((48 + n % 10) ∷ []), length-append old (decimal n))

pub returns : goal.returns
returns t c =
    let n = c.args.n in
    let old = c.args.self.now in
    let mid = c.if-n-ge10.self in
    let e : mid ++ ((48 + n % 10) ∷ []) ≡ old ++ decimal n =
    elim c.if-n-ge10.branch [
      | then-n-ge10 w ↦ digits_next n old mid w.if-n-ge10.true (w.self-is ∙ w.push_digits.ensures)
      | else-n-ge10 w ↦ digits_first n old mid w.if-n-ge10.false w.self-is
    ] in
    c.push.ensures ∙ e
