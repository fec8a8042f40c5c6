-- `answer_told` meets its contract: at each arm the answer is what the arm names.
-- Assumes nothing.
use mathlib.Core.Path.{◌≡◌, refl, sym, ap, ◌∙◌}
use mathlib.Core.Bool.{Bool, true, false}
use mir.Val.{bool_byte}
use Rattle.std.specs.Prelude.{Ok}
use Rattle.meaning.specs.Answers.{told_irreducible, told}
use Rattle.meaning.specs.Exports.{answer_told}
use Rattle.exports.proofs.asking.answer_told.Goals as goal

yes_told : (b : Bool) → record { status = 0; yes = bool_byte b } ≡ answer_told (told_irreducible (Ok b))
unfolding told_irreducible told answer_told
yes_told true = refl
yes_told false = refl

pub returns-in-Ok : goal.returns-in-Ok
returns-in-Ok c =
    ap (λ n. record { status = 0; yes = n }) c.into.ensures
    ∙ yes_told c.in-Ok.yes
    ∙ sym (ap (λ r. answer_told (told_irreducible r)) c.in-Ok.is)

pub returns-in-Err : goal.returns-in-Err
unfolding told_irreducible told answer_told
returns-in-Err c = rw (c.in-Err.is, c.into-in-Err.ensures)
