-- `lists::largest` meets its contract. Assumes nothing.
use Rattle.std.proofs.Common.{◌∙◌}
use Rattle.std.proofs.lemmas.Iterator.{YieldsList-from_slice}
use Rattle.std.proofs.lemmas.Iterator.Consumers.{max_from_yields_List, YieldsList-from_copied}
use Rattle.refusals.proofs.conditions.lists.Maximum.{largest_is}
use Rattle.refusals.proofs.conditions.lists.largest.Goals as goal

pub returns : goal.returns
returns c =
    let l = c.args.l.now in
    let m = max_from_yields_List {all = l} _ c.max.result c.max.ensures.ran
    (YieldsList-from_copied (YieldsList-from_slice _ cc)) in
    c.unwrap_or.ensures ∙ largest_is c.max.result l m
