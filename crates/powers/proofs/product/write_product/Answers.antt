-- `product::write_product` meets its contract. The invariant: the product of the powers of the factors that
-- have come is written, and n is its degree. Assumes nothing.
use mathlib.Core.Path.{refl, ◌∙◌}
use native.Mathlib.Omega.{arith}
use borrow.Author.Rules.{rules}
use lib.ListN.{length-set, length-append}
use Rattle.arith.specs.Represented.{field_of}
use Rattle.arith.proofs.Represented.{field-is_field}
use Rattle.meaning.specs.Slices.{lists_of}
use Rattle.meaning.proofs.Slices.{lists_length}
use Rattle.powers.proofs.product.Pairs.{pair_turn, pairs_end}
use Rattle.powers.proofs.product.Products.{multiplying_start, multiplying_end}
use Rattle.powers.proofs.product.Products.{multiplying_raising, multiplying_more}
use Rattle.powers.proofs.product.write_product.Goals as goal

pub loop-f-init : goal.loop-f-init
loop-f-init c = (
  multiplying_start (field_of c.args.field) (lists_of c.args.set.factors.now) c.args.set.powers.now
      c.args.answer.now c.requires.in_bounds,
  refl,
)

pub times_power-n-requires : goal.times_power-n-requires
times_power-n-requires c =
    let pair =
    pair_turn c.args.set.factors.now c.args.set.powers.now c.loop-f.yielded _ _ c.next.new.self _
    (search rules) (search rules)
    c.loop-f.yielded_by _ c.in-Some.is c.next.ensures.steps in
    rw (← pair.factor, ← pair.power)
    (multiplying_raising (field-is_field c.args.field) c.requires.product_input
    c.loop-f.invariant.0 pair.has_factor
    (omega (arith, c.requires.in_bounds, length-set c.args.answer.now 0 1)))

pub loop-f-preserved : goal.loop-f-preserved
loop-f-preserved c =
    let pair =
    pair_turn c.args.set.factors.now c.args.set.powers.now c.loop-f.yielded _ _ c.next.new.self _
    (search rules) (search rules)
    c.loop-f.yielded_by _ c.in-Some.is c.next.ensures.steps in (
      rw length-append
          (multiplying_more (field-is_field c.args.field) c.requires.product_input c.loop-f.invariant.0
          pair.has_factor (rw (pair.factor, pair.power) c.times_power-n.ensures)),
      c.times_power-n.auto.answer ∙ c.loop-f.invariant.1,
    )

pub returns : goal.returns
returns c =
    multiplying_end (field-is_field c.args.field) c.requires.product_input c.loop-f.invariant.0
    c.args.answer.now c.requires.in_bounds refl
    (pairs_end c.args.set.factors.now c.args.set.powers.now c.loop-f.yielded _ _ c.next.new.self _
    (search rules) (search rules)
    c.loop-f.yielded_by c.in-None.is c.next.ensures.steps
    (omega (arith, c.requires.product_input.enough, lists_length c.args.set.factors.now)))
