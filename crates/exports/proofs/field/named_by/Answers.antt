-- `named_by` meets its contract: the degree decides.
-- Assumes nothing.
use Rattle.exports.proofs.Exported.{named-prime, named-binary}
use Rattle.exports.proofs.field.named_by.Goals as goal

pub returns-then-degree-eq0 : goal.returns-then-degree-eq0
returns-then-degree-eq0 c = named-prime c.args.field c.if-degree-eq0.true

pub returns-else-degree-eq0 : goal.returns-else-degree-eq0
returns-else-degree-eq0 c = named-binary c.args.field c.if-degree-eq0.false
