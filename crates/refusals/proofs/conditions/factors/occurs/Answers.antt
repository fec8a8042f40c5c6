-- `occurs` meets its contract: the same test of each factor. Assumes nothing.
use Rattle.std.proofs.Common.{◌∙◌, rules, tests}
use Rattle.std.proofs.lemmas.Iterator.{YieldsList-from_slice}
use Rattle.std.proofs.lemmas.Iterator.Search.{any_from_yields_List}
use Rattle.meaning.specs.Polynomial.{same}
use Rattle.refusals.proofs.conditions.factors.Scan.{any-holds}
use Rattle.refusals.proofs.conditions.factors.occurs.Goals as goal

pub returns : goal.returns
returns c =
    any_from_yields_List (λ g. same c.args.f.now g.now) _ _ c.any.result c.any.ensures.ran
    (YieldsList-from_slice c.args.factors.now cc)
    (λ x b q k. search (rules, tests))
    ∙ any-holds (same c.args.f.now) c.args.factors.now
