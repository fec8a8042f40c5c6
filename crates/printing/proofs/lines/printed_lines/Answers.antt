-- `lines::printed_lines` meets its contract: the header, the result line and the poly line are put one after
-- the other, and there is room for them.
-- Assumes nothing.
use Rattle.std.proofs.Common.{ℕ, ap, arith, length, length-append}
use Rattle.std.proofs.lemmas.List.{length-take}
use Rattle.meaning.specs.Print.{text}
use Rattle.printing.proofs.result_line.Lines.{lines_refused, lines_rated}
use Rattle.printing.proofs.lines.printed_lines.Goals as goal

-- the lengths, whatever the words and the arrays are
pub push_poly-requires : goal.push_poly-requires
push_poly-requires c =
    omega (
      arith,
      length-take {A = ℕ},
      length-append {A = ℕ},
      ap length c.coefficients.ensures,
      ap length c.new-lines.ensures,
      ap length c.push_word.ensures,
    )

pub returns-in-Err : goal.returns-in-Err
unfolding text
returns-in-Err c =
    lines_refused c.args.rating c.args.answer.now c.new-lines.ensures c.push_word.ensures c.in-Err.is
    c.from.ensures
    c.push_refused.ensures.put

pub returns-in-Ok : goal.returns-in-Ok
unfolding text
returns-in-Ok c =
    lines_rated c.args.rating c.args.answer.now c.new-lines.ensures c.push_word.ensures c.in-Ok.is
    c.push_rated.ensures.put
    cc
