-- `enter_term` meets its contract: the term is handed in, and its entry made. Assumes nothing.
use native.Mathlib.Omega.{arith}
use Rattle.exports.proofs.profile.Entries.{status_byte, term_entered}
use Rattle.exports.proofs.profile.enter_term.Goals as goal

pub overflow_cast-status : goal.overflow_cast-status
overflow_cast-status c = omega (arith, status_byte c.take_term-reading.result.reading, c.status.ensures)

pub returns : goal.returns
returns c =
    term_entered c.take_term-reading.ensures c.status.ensures c.reading.ensures c.entry_of-entry.ensures
