-- `largest_power` meets its contract. Assumes nothing.
use mathlib.Core.Path.{◌∙◌}
use lib.ListN.{length, take}
use Rattle.std.proofs.lemmas.Iterator.{YieldsList-from_slice}
use Rattle.std.proofs.lemmas.Iterator.Consumers.{max_from_yields_List, YieldsList-from_copied}
use Rattle.repeat.proofs.Factors.{largest_of, largest_is}
use Rattle.repeat.proofs.largest_power.Goals as goal

pub returns : goal.returns
returns c =
    let fs = c.args.set.factors.now in
    let rs = c.args.set.powers.now in
    let m = max_from_yields_List {all = take (length fs) rs} _ c.max.result c.max.ensures.ran
    (YieldsList-from_copied (YieldsList-from_slice _ cc)) in
    c.unwrap_or.ensures ∙ largest_is fs rs c.requires (largest_of c.max.result (take (length fs) rs) m)
