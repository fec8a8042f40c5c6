-- `field_name` meets its contract: the first body of kind 9 names the field, or else that of kind 2.
-- Assumes nothing.
use mathlib.Core.Path.{sym, ◌∙◌}
use Rattle.meaning.specs.File.{field_in}
use Rattle.rate_file.proofs.records.field_name.Goals as goal

pub returns-in-Some : goal.returns-in-Some
unfolding field_in
returns-in-Some c =
    let nine = sym c.of.ensures ∙ c.in-Some.ensures.steps in rw (c.binary_name.ensures, nine, field_in)

pub returns-in-None : goal.returns-in-None
unfolding field_in
returns-in-None c =
    let none = sym c.of.ensures ∙ c.in-None.ensures.steps.0 in
    rw (none, field_in, c.from.ensures, c.byte_of.ensures)
