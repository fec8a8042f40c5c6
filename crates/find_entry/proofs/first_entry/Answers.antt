-- `first_entry` meets its contract. The invariant: no entry before entry i has a power. Assumes nothing.
use borrow.Author.Rules.{rules}
use Rattle.find_entry.proofs.Entries.{searching_more, searching_found, searching_end}
use Rattle.find_entry.proofs.first_entry.Goals as goal

pub returns-in-Some : goal.returns-in-Some
returns-in-Some c =
    searching_found c.loop-i.invariant (search rules) c.search_entry.result c.search_entry.ensures
    c.in-Some.is
    c.catalogue_entry.ensures

pub loop-i-preserved : goal.loop-i-preserved
loop-i-preserved c =
    searching_more c.loop-i.invariant (search rules) c.search_entry.result c.search_entry.ensures
    c.in_default.is

pub returns : goal.returns
returns c = searching_end c.loop-i.invariant (search rules)
