-- `files::file_coefficient_out_of_range` meets its contract.
-- Assumes nothing.
use mathlib.Core.Path.{◌∙◌, ap, sym}
use lib.Dec.{ltb}
use Rattle.refusals.proofs.conditions.files.FileFactor.{file-without-coefficients, file-without-upper}
use Rattle.refusals.proofs.conditions.files.FileFactor.{file_foreign, file-upper}
use Rattle.refusals.proofs.conditions.files.file_coefficient_out_of_range.Goals as goal

pub returns-then-n-le3 : goal.returns-then-n-le3
returns-then-n-le3 c = file-without-coefficients _ _ c.if-n-le3.true

pub returns-then-n-end : goal.returns-then-n-end
returns-then-n-end c = c.term_out_of_field.ensures ∙ file-without-upper _ _ c.if-n-end.true

pub returns-then-term_out_of_field : goal.returns-then-term_out_of_field
returns-then-term_out_of_field c =
    c.if-term_out_of_field.true
    ∙ file_foreign _ _ (sym c.term_out_of_field-2.ensures ∙ c.if-term_out_of_field.true)

pub returns-else-term_out_of_field : goal.returns-else-term_out_of_field
returns-else-term_out_of_field c =
    ap (ltb 0) c.largest.ensures
    ∙ file-upper _ _
    (sym c.term_out_of_field-2.ensures ∙ c.if-term_out_of_field.false)
