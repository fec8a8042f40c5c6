-- `multiple_irreducible` meets its contract: a monic polynomial is asked itself, and of another the copy that
-- is made monic. Assumes nothing.
use native.Mathlib.Omega.{arith}
use mathlib.Core.Path.{sym, ap, subst, ◌∙◌}
use lib.ListN.{replicate}
use lib.Seq.{length-take-le}
use Rattle.meaning.specs.Polynomial.{irreducible}
use Rattle.irreducible.specs.Accepted.{Accepted}
use Rattle.arith.specs.Represented.{field_of}
use Rattle.arith.proofs.Represented.{field-is_field}
use Rattle.questions.proofs.Question.{asked-some, asked-accepted, asked-short}
use Rattle.questions.proofs.Question.{asked-itself}
use Rattle.questions.proofs.Question.{asked-leads, asked-front, asked-room}
use Rattle.questions.proofs.multiple_irreducible.Goals as goal

pub overflow_sub-n : goal.overflow_sub-n
overflow_sub-n c = omega (arith, asked-some (field-is_field c.args.field) c.requires)

pub bounds-f-n : goal.bounds-f-n
bounds-f-n c = omega (arith, asked-some (field-is_field c.args.field) c.requires)

pub is_irreducible-requires : goal.is_irreducible-requires
is_irreducible-requires c =
    let I = field-is_field c.args.field in
    subst (Accepted (field_of c.args.field)) (asked-itself I c.requires c.if-f-n-eq1.true)
    (asked-accepted I c.requires)

pub returns-then-f-n-eq1 : goal.returns-then-f-n-eq1
returns-then-f-n-eq1 c =
    c.is_irreducible.ensures
    ∙ ap (irreducible (field_of c.args.field))
    (sym (asked-itself (field-is_field c.args.field) c.requires c.if-f-n-eq1.true))

pub monic_multiple-requires : goal.monic_multiple-requires
monic_multiple-requires c =
    let I = field-is_field c.args.field in
    record { leads = asked-leads I c.requires; f_in_bounds = asked-short I c.requires }

pub slice_bounds-multiple-end : goal.slice_bounds-multiple-end
slice_bounds-multiple-end c =
    asked-room (field-is_field c.args.field) c.requires (replicate 33 0) c.monic_multiple.ensures

pub slice_bounds-is_irreducible-end : goal.slice_bounds-is_irreducible-end
slice_bounds-is_irreducible-end c =
    sym (length-take-le _ _
    (asked-room (field-is_field c.args.field) c.requires (replicate 33 0) c.monic_multiple.ensures))

pub is_irreducible-requires-2 : goal.is_irreducible-requires-2
is_irreducible-requires-2 c =
    let I = field-is_field c.args.field in
    subst (Accepted (field_of c.args.field))
    (sym (asked-front I c.requires (replicate 33 0) c.monic_multiple.ensures))
    (asked-accepted I c.requires)
