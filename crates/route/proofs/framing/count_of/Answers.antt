-- `framing::count_of` meets its contract: each record takes a byte at least, so the count does not wrap.
-- Assumes nothing.
use Rattle.std.proofs.Common.{inl, ap, length, arith}
use Rattle.route.specs.framing.Framing.{records_from}
use Rattle.route.proofs.framing.Frames.{bodies_few, records-size}
use Rattle.route.proofs.framing.count_of.Goals as goal

pub count-requires-clause-fits : goal.count-requires-clause-fits
count-requires-clause-fits c =
    let file = c.args.file.now in
    let few = bodies_few c.args.kind (records_from file 0) in
    inl (omega (arith, ap length c.of.ensures, few, records-size file))
