-- A number of 64 bits has at most 20 digits.
-- Assumes nothing.
use Rattle.printing.proofs.words.Decimals.{word-digits}
use Rattle.printing.proofs.words.U64Figure.value.Goals as goal

pub returns-clause-short : goal.returns-clause-short
returns-clause-short c = word-digits c.ranges.self
