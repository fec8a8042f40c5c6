-- `actions::act_all` meets its contract. The invariant: what the factors that have come leave of the terms
-- stands at `at`. Assumes nothing.
use lib.ListN.{length}
use Rattle.meaning.specs.Slices.{lists_of}
use Rattle.set_way.proofs.actions.Passing.{Passing}
use Rattle.set_way.proofs.actions.act_all.Given as goal

abbrev pub invariant-loop-f : goal.invariant-loop-f
invariant-loop-f l =
    Passing l.field (lists_of l.set.factors.now) l.set.powers.now l.terms l.initial.work l.work
    l.at.half l.at.count (length l.yielded)
