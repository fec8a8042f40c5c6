-- `files::file_degree_out_of_range` meets its contract.
-- Assumes nothing.
use mathlib.Core.Path.{◌∙◌, sym}
use borrow.Author.Tests.{eqb-true}
use Rattle.meaning.specs.File.{file_degree_out_of_range, file_factor}
use Rattle.refusals.proofs.conditions.files.FileFactor.{file-degree-empty}
use Rattle.refusals.proofs.conditions.files.file_degree_out_of_range.Goals as goal

pub returns-then-is_empty : goal.returns-then-is_empty
returns-then-is_empty c =
    c.if-is_empty.true
    ∙ file-degree-empty _ _ (eqb-true _ _ (sym c.is_empty.ensures ∙ c.if-is_empty.true))

pub returns-else-is_empty : goal.returns-else-is_empty
unfolding file_degree_out_of_range file_factor
returns-else-is_empty c = c.degree_out_of_range.ensures
