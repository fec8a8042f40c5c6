-- `actions::act_all` meets its contract. The invariant: what the factors that have come leave of the terms
-- stands at `at`. Assumes nothing.
use native.Mathlib.Omega.{arith}
use borrow.Author.Rules.{rules}
use lib.ListN.{length-append}
use Rattle.meaning.proofs.Slices.{lists_length}
use Rattle.powers.proofs.product.Pairs.{pair_turn, pairs_end}
use Rattle.set_way.proofs.actions.Inputs.{enough_uppers}
use Rattle.set_way.proofs.actions.Passing.{passing_start, passing_actable, passing_more}
use Rattle.set_way.proofs.actions.Passing.{passing_end}
use Rattle.set_way.proofs.actions.act_all.Goals as goal

pub loop-f-init : goal.loop-f-init
loop-f-init c = passing_start c.args.field c.requires.set_input c.requires.in_bounds c.load.ensures

pub act_power-at-requires-clause-actable : goal.act_power-at-requires-clause-actable
act_power-at-requires-clause-actable c =
    let pair =
    pair_turn c.args.set.factors.now c.args.set.powers.now c.loop-f.yielded _ _ c.next.new.self _
    (search rules)
    (search rules) c.loop-f.yielded_by _ c.in-Some.is c.next.ensures.steps in
    rw (← pair.factor, ← pair.power)
    (passing_actable c.args.field c.requires.set_input c.loop-f.invariant pair.has_factor)

pub loop-f-preserved : goal.loop-f-preserved
loop-f-preserved c =
    let pair =
    pair_turn c.args.set.factors.now c.args.set.powers.now c.loop-f.yielded _ _ c.next.new.self _
    (search rules)
    (search rules) c.loop-f.yielded_by _ c.in-Some.is c.next.ensures.steps in
    rw length-append
    (passing_more c.args.field c.requires.set_input c.loop-f.invariant pair.has_factor
    (rw (pair.factor, pair.power) c.act_power-at.ensures))

pub returns : goal.returns
returns c =
    passing_end c.args.field c.requires.set_input c.loop-f.invariant c.load.ensures
    (pairs_end c.args.set.factors.now c.args.set.powers.now c.loop-f.yielded _ _ c.next.new.self _
    (search rules) (search rules) c.loop-f.yielded_by c.in-None.is c.next.ensures.steps
    (omega (arith, enough_uppers c.requires.set_input, lists_length c.args.set.factors.now)))
