-- `lists::leading` meets its contract.
-- Assumes nothing.
use Rattle.std.proofs.Common.{arith}
use Rattle.std.proofs.lemmas.Grind.{common_steps}
use Rattle.refusals.proofs.conditions.lists.Coefficients.{leading-last, leading_none}
use Rattle.refusals.proofs.conditions.lists.leading.Goals as goal

pub returns-in-Some : goal.returns-in-Some
returns-in-Some c = rw (leading-last c.args.factor.now) (grind (arith, common_steps))

pub returns-in-None : goal.returns-in-None
returns-in-None c = leading_none _ (grind (arith, common_steps))
