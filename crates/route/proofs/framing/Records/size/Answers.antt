-- `Records::size` meets its contract.
-- Assumes nothing.
use Rattle.std.proofs.Common.{arith}
use Rattle.route.proofs.framing.Frames.{framed-size}
use Rattle.route.proofs.framing.Records.size.Goals as goal

pub returns : goal.returns
returns c = omega (arith, framed-size c.args.self.now.rest.now 0)
