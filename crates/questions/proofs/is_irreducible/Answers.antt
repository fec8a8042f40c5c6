-- `is_irreducible` meets its contract: the name or the factor is refused, or the answer is that for the
-- monic multiple. Assumes nothing.
use mathlib.Core.Path.{sym, subst}
use Rattle.meaning.specs.Calls.{IrreducibleCall}
use Rattle.meaning.proofs.Replies.{handed_on}
use Rattle.questions.proofs.Question.{question_refused, question_asked, question_answered, question_declined}
use Rattle.questions.proofs.is_irreducible.Goals as goal

pub multiple_irreducible-requires : goal.multiple_irreducible-requires
multiple_irreducible-requires c =
    question_asked c.in_ok-field.ensures _ c.factor_verdict.ensures c.in_ok-factor_verdict.was

pub returns-in_err-field : goal.returns-in_err-field
returns-in_err-field c =
    subst (IrreducibleCall c.args.name c.args.coefficients.now) (sym (handed_on _ c.from_residual.ensures))
    (question_declined _ c.in_err-field.ensures)

pub returns-in_err-factor_verdict : goal.returns-in_err-factor_verdict
returns-in_err-factor_verdict c =
    subst (IrreducibleCall c.args.name c.args.coefficients.now)
    (sym (handed_on _ c.from_residual-in_err-factor_verdict.ensures))
    (question_refused c.in_ok-field.ensures _ c.factor_verdict.ensures c.in_err-factor_verdict.was)

pub returns : goal.returns
returns c =
    question_answered c.in_ok-field.ensures _ c.factor_verdict.ensures c.in_ok-factor_verdict.was
    c.multiple_irreducible.ensures
