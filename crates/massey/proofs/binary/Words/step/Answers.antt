-- `binary::Words::step` meets its contract: all terms are seen, or f does not fit the next. Assumes nothing.
use mathlib.Core.Path.{sym, ap, subst, ◌∙◌}
use lib.Arith.{lt_of_le-ne}
use Rattle.massey.specs.binary.Binary.{WordsHold}
use Rattle.massey.proofs.binary.Standing.{hold_reached, hold_misfit, hold_aligned, misfit_aligned}
use native.Mathlib.Omega.{arith}
use Rattle.massey.proofs.binary.Words.step.Goals as goal

pub returns-then-n-m-clause-advanced : goal.returns-then-n-m-clause-advanced
returns-then-n-m-clause-advanced c ts h =
    let e = ap (λ r. r.seen) c.reached-self.ensures in
    record {
      more = omega (arith, c.next_one-n.ensures.low, c.next_one-n.ensures.high);
      most = omega (arith, c.next_one-n.ensures.high);
      holds = hold_reached h c.requires.1 c.next_one-n.ensures c.reached-self.ensures;
    }

pub returns-clause-advanced : goal.returns-clause-advanced
returns-clause-advanced c ts h =
    let l = lt_of_le-ne c.next_one-n.ensures.high c.if-n-m.false in
    let p = c.requires.1 in
    let w = c.align.new.self in
    let m = c.align.ensures.moved in
    let e = ap (λ r. r.seen) m.numbers ∙ ap (λ r. r.seen) c.reached-self.ensures in
    let s =
    c.correct.ensures.stepped ts
    (subst (λ f. WordsHold ts w.known f w.g w.lowest) (sym c.align.ensures.kept.0)
    (subst (λ a. WordsHold ts w.known c.args.self.now.f w.g a) (sym c.align.ensures.kept.1)
    (hold_aligned ts m (hold_reached h p c.next_one-n.ensures c.reached-self.ensures))))
    (misfit_aligned ts m (hold_misfit h p c.next_one-n.ensures l c.reached-self.ensures)) in
    record {
      more = omega (arith, s.seen, c.next_one-n.ensures.low);
      most = omega (arith, s.seen);
      holds = s.holds;
    }
