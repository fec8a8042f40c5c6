-- `gobashe_is_irreducible` meets its contract: it tells what the call that it wraps answers.
-- Assumes nothing.
use Rattle.exports.proofs.Exported.{question_exported}
use Rattle.exports.proofs.asking.gobashe_is_irreducible.Goals as goal

pub returns : goal.returns
returns c =
    question_exported c.named_by.ensures c.is_irreducible-answer.ensures c.answer_told.ensures
