-- A byte has at most 3 digits.
-- Assumes nothing.
use native.Mathlib.Omega.{arith}
use Rattle.printing.proofs.words.Decimals.{byte_digits}
use Rattle.printing.proofs.words.U8Figure.value.Goals as goal

pub returns-clause-short : goal.returns-clause-short
returns-clause-short c = byte_digits c.from.result (omega (arith, c.from.ensures))
