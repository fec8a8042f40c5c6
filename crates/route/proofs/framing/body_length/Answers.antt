-- `framing::body_length` meets its contract: 255 where the byte is no kind.
-- Assumes nothing.
use Rattle.std.proofs.Common.{◌∙◌}
use Rattle.route.proofs.framing.Frames.{length_told}
use Rattle.route.proofs.framing.body_length.Goals as goal

pub returns : goal.returns
returns c = c.unwrap_or.ensures ∙ length_told c.args.kind c.known_length.result c.known_length.ensures
