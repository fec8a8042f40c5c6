-- `multiples::common_within` meets its contract. Assumes nothing.
use mathlib.Core.Logic.{⊎_elim}
use mathlib.Core.Path.{ap₂, ◌∙◌}
use Rattle.bridge.proofs.Basics.Within.{common_within}
use Rattle.repeat.proofs.multiples.Trying.{common_none, common_sorted, common_swapped}
use Rattle.repeat.proofs.multiples.common_within.Goals as goal

pub returns-then-n-eq0 : goal.returns-then-n-eq0
returns-then-n-eq0 c =
    let a = c.args in
    ⊎_elim (λ e. common_none a.limit a.n e)
    (λ e. common_none a.limit a.m e.1 ∙ common_swapped a.limit a.n a.m)
    c.if-n-eq0.either

pub returns-else-n-eq0 : goal.returns-else-n-eq0
returns-else-n-eq0 c =
    let a = c.args in
    c.first_multiple.ensures
    ∙ ap₂ (common_within a.limit) c.max.ensures c.min.ensures
    ∙ common_sorted a.limit a.m a.n
