-- `catalogue_entry` meets its contract: the constant is the table that is the catalogue. Assumes nothing.
use mathlib.Core.Path.{sym, ap}
use native.Mathlib.Omega.{arith}
use lib.ListN.{get_or, get_or-eq_default}
use Rattle.meaning.specs.Catalogue.{catalogue}
use Rattle.bridge.proofs.Binary.CatalogueTable.{table, catalogue-table, catalogue-count}
use Rattle.catalogue.proofs.catalogue_entry.Goals as goal

pub returns-then-i-lt226 : goal.returns-then-i-lt226
unfolding table
returns-then-i-lt226 c = record { answer = ap (λ l. get_or l c.args.i 0) (sym catalogue-table) }

pub returns-else-i-lt226 : goal.returns-else-i-lt226
returns-else-i-lt226 c =
    record { answer = sym (get_or-eq_default catalogue 0 (omega (arith, catalogue-count))) }
