-- `binary::frobenius_in` meets its contract.
-- Assumes nothing.
use mathlib.Core.Path.{sym, ◌∙◌}
use Rattle.bridge.proofs.Ways.Accepted.{terms-accepted}
use Rattle.leaves.proofs.binary.Naming.{squares_out, squares_in}
use Rattle.leaves.proofs.binary.frobenius_in.Goals as goal

pub frobenius-requires : goal.frobenius-requires
frobenius-requires c =
    terms-accepted _ _ (sym c.term_out_of_field.ensures ∙ c.if-not-term_out_of_field.true)

pub returns-then-not-term_out_of_field : goal.returns-then-not-term_out_of_field
returns-then-not-term_out_of_field c =
    squares_in _ _
    (terms-accepted _ _ (sym c.term_out_of_field.ensures ∙ c.if-not-term_out_of_field.true))
    c.frobenius.ensures

pub returns-else-not-term_out_of_field : goal.returns-else-not-term_out_of_field
returns-else-not-term_out_of_field c =
    squares_out _ _ c.term_out_of_field.ensures c.if-not-term_out_of_field.false
