-- `write_profile` meets its contract. The invariant: the first i terms were handed in and their entries
-- written. The measure is the number of terms that are left. Assumes nothing.
use native.Mathlib.Omega.{arith}
use mathlib.Core.Path.{sym, subst}
use Rattle.exports.specs.profile.Entries.{TermEntered}
use Rattle.exports.proofs.profile.Profiles.{entered_none, entered_more, entered_all}
use Rattle.exports.proofs.profile.write_profile.Goals as goal

pub loop-i-init : goal.loop-i-init
loop-i-init c = (omega arith, omega (arith, c.min-i-end.ensures), entered_none _)

pub loop-i-preserved : goal.loop-i-preserved
loop-i-preserved c =
    let (_, e, x) = c.loop-i.invariant in
    let i = c.loop-i-test.true in (
      omega (arith, i),
      e,
      entered_more c.args.terms.now x (omega (arith, i, e)) (omega (arith, i, e, x.size))
          (omega (arith, c.copy_from_slice.ensures.len))
          (subst (TermEntered _ _ _ _ _ _ _) (sym c.copy_from_slice.ensures.after) c.enter_term.ensures),
    )

pub returns : goal.returns
returns c =
    let (_, e, x) = c.loop-i.invariant in
    entered_all c.args.terms.now x (omega arith)
