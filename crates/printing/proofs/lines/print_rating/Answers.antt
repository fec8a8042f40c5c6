-- `lines::print_rating` meets its contract: the lines are copied to the front of the lent bytes.
-- Assumes nothing.
use Rattle.std.proofs.Common.{ap, ◌∙◌, ◌++◌, length, drop, arith}
use Rattle.meaning.specs.Result.{written}
use Rattle.printing.proofs.lines.print_rating.Goals as goal

pub returns : goal.returns
unfolding written
returns c =
    let b = c.as_bytes-bytes.result.now in
    let out = c.args.out.now in
    let e = c.as_bytes-bytes.ensures.put ∙ c.printed_lines-lines.ensures in record {
      count = ap length e;
      fits = omega (arith, c.as_bytes-bytes.ensures.within);
      bytes = ap (λ u. u ++ drop (length b) out) c.copy_from_slice.ensures.after
          ∙ ap (λ u. written u out) e;
    }
