-- `payload::box_of` meets its contract: each way out is a law of the box number.
-- Assumes nothing.
use mathlib.Core.Path.{sym, ◌∙◌}
use Rattle.route.proofs.payload.Numbers.{box-short, box-long, box-other, box_here}
use Rattle.route.proofs.payload.box_of.Goals.{then-file-lt5-via-then-file-lt5}
use Rattle.route.proofs.payload.box_of.Goals.{then-file-lt5-via-else-file-lt5+then-file-gt-MOST_BYTES}
use Rattle.route.proofs.payload.box_of.Goals as goal

pub returns-then-file-lt5 : goal.returns-then-file-lt5
returns-then-file-lt5 c =
    elim c.then-file-lt5.branch [
      | then-file-lt5-via-then-file-lt5 w ↦ box-short _ w.if-file-lt5.true
      | then-file-lt5-via-else-file-lt5+then-file-gt-MOST_BYTES w ↦ box-long _ w.if-file-gt-MOST_BYTES.true
      | goal.then-file-lt5-via-else-file-lt5+else-file-gt-MOST_BYTES+then-file-from w ↦
          box-other _ w.if-file-lt5.false w.if-file-gt-MOST_BYTES.false
          (λ e. w.if-file-from.true (e ∙ sym w.from.ensures))
    ]

pub returns : goal.returns
returns c =
    c.big_endian.ensures
    ∙ box_here _ c.if-file-lt5.false c.if-file-gt-MOST_BYTES.false (c.if-file-from.false ∙ c.from.ensures)
