-- `binary::Words::cancel` meets its contract. Assumes nothing.
use Prim.Native.Nat.{◌+◌, ◌-◌, ◌/◌, ◌%◌}
use mathlib.Core.Path.{sym, subst, ◌∙◌}
use lib.ListN.{get_or}
use Rattle.bridge.proofs.Binary.WordLists.{digit-below, one_bit}
use Rattle.massey.specs.words.Words.{Added}
use Rattle.massey.specs.binary.Binary.{taken}
use native.Mathlib.Omega.{arith}
use Rattle.massey.proofs.binary.Words.cancel.Goals as goal

pub returns-clause-cancelled : goal.returns-clause-cancelled
returns-clause-cancelled c =
    let r = c.args.self.now.known in
    let j = 4157 + r.degree + r.earlier - r.seen in
    let l = digit-below (get_or c.args.self.now.f (j / 64) 0) (j % 64) in
    let w = c.align.new.self in
    let k = w.known.seen + 1 - w.known.aligned in
    taken (sym c.bit_at.ensures ∙ one_bit _ (omega arith) c.if-bit_at-eq0.false) c.align.ensures.moved
    (subst (λ f. Added f w.g c.args.self.now.lowest k c.add_moved.new.f) c.align.ensures.kept.0
    (subst (λ a. Added w.f w.g a k c.add_moved.new.f) c.align.ensures.kept.1 c.add_moved.ensures))
