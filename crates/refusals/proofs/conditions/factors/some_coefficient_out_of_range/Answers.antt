-- `some_coefficient_out_of_range` meets its contract: the same test of each factor. Assumes nothing.
use Rattle.std.proofs.Common.{◌∙◌, rules, tests}
use Rattle.std.proofs.lemmas.Iterator.{YieldsList-from_slice}
use Rattle.std.proofs.lemmas.Iterator.Search.{any_from_yields_List}
use Rattle.meaning.specs.Conditions.{coefficient_out_of_range}
use Rattle.arith.specs.Represented.{field_of}
use Rattle.refusals.proofs.conditions.factors.Scan.{any-holds}
use Rattle.refusals.proofs.conditions.factors.some_coefficient_out_of_range.Goals as goal

pub returns : goal.returns
returns c =
    any_from_yields_List (λ f. coefficient_out_of_range (field_of c.args.field) f.now) _ _ c.any.result
    c.any.ensures.ran
    (YieldsList-from_slice c.args.factors.now cc)
    (λ x b q k. search (rules, tests))
    ∙ any-holds (coefficient_out_of_range (field_of c.args.field)) c.args.factors.now
