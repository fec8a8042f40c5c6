-- `search_entry` meets its contract: the coefficients of entry i are handed to the search.
-- Assumes nothing.
use Rattle.find_entry.proofs.Entries.{binary-level, entry-coefficients, entry-input, entry-searched}
use Rattle.find_entry.proofs.search_entry.Goals as goal

pub search_after_look-requires-clause-period_input : goal.search_after_look-requires-clause-period_input
search_after_look-requires-clause-period_input c =
    entry-input c.requires.field_named c.requires.binary_period c.requires.i_bound
    (entry-coefficients c.catalogue_entry.ensures c.unpack-count.ensures)

pub search_after_look-requires-clause-dividing : goal.search_after_look-requires-clause-dividing
search_after_look-requires-clause-dividing c = binary-level c.requires.field_named c.requires.dividing

pub returns : goal.returns
returns c =
    entry-searched c.requires.field_named c.requires.binary_period c.requires.i_bound
    (entry-coefficients c.catalogue_entry.ensures c.unpack-count.ensures)
    c.search_after_look.result c.search_after_look.ensures
