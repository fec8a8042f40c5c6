-- `reading` meets its contract. Assumes nothing.
use mathlib.Core.Path.{sym, ap, ◌∙◌}
use Rattle.meaning.specs.Result.{answered}
use Rattle.meaning.specs.Answers.{told_free, told}
use Rattle.meter.proofs.Keeping.{holding_reading}
use Rattle.meter.proofs.reading.Goals as goal

pub returns : goal.returns
unfolding told_free told
returns c =
    record { reading = λ p ts terms work h. ap answered c.figures.ensures ∙ sym (holding_reading h) }
