-- `pack_factors` meets its contract. The invariant is `Packing` of the first factors.
-- Assumes nothing.
use Rattle.std.proofs.Common.{length, refl, sym, arith, length-append, inl}
use lib.ListN.{length-map}
use Rattle.meaning.specs.File.{polynomial_of}
use Rattle.poly.proofs.parts.Packing.{packing_start, packed}
use Rattle.rate_file.specs.factors.Written.{bodies_in, factors_in}
use Rattle.rate_file.proofs.factors.Turns.{body_turn, body_end, places_fit}
use Rattle.rate_file.proofs.factors.Places.{factors-count, factor-place, factor-room, factor-packed}
use Rattle.rate_file.proofs.factors.pack_factors.Goals as goal

pub loop-i-init-derived : goal.loop-i-init-derived
loop-i-init-derived c =
    let fit = places_fit (bodies_in c.args.file.now) c.into_iter-i-iterator.ensures.into_iter_gives
    c.enumerate-i-items.ensures.source c.enumerate-i-items.ensures.count c.of.ensures
    (omega (arith, factors-count c.args.file.now)) in
    ((tt, tt, inl fit), tt)

pub loop-i-init : goal.loop-i-init
loop-i-init c = packing_start _ _ refl

pub lay_factor-n-requires : goal.lay_factor-n-requires
lay_factor-n-requires c =
    let t = body_turn (bodies_in c.args.file.now) c.into_iter-i-iterator.ensures.into_iter_gives
    c.enumerate-i-items.ensures.source c.enumerate-i-items.ensures.count c.of.ensures c.loop-i.yielded _
    c.loop-i.yielded_by c.next.result c.next.new.self c.in-Some.i c.in-Some.body c.in-Some.is
    c.next.ensures.steps in
    factor-place c.args.file.now (length c.loop-i.yielded) c.in-Some.body.now t.here
    (omega (arith, t.inside, factors-count c.args.file.now)) c.requires.1 c.loop-i.invariant

pub bounds-lengths-i : goal.bounds-lengths-i
bounds-lengths-i c =
    let t = body_turn (bodies_in c.args.file.now) c.into_iter-i-iterator.ensures.into_iter_gives
    c.enumerate-i-items.ensures.source c.enumerate-i-items.ensures.count c.of.ensures c.loop-i.yielded _
    c.loop-i.yielded_by c.next.result c.next.new.self c.in-Some.i c.in-Some.body c.in-Some.is
    c.next.ensures.steps in
    omega (arith, t.place, t.inside, factors-count c.args.file.now)

pub overflow_add-at : goal.overflow_add-at
overflow_add-at c =
    let t = body_turn (bodies_in c.args.file.now) c.into_iter-i-iterator.ensures.into_iter_gives
    c.enumerate-i-items.ensures.source c.enumerate-i-items.ensures.count c.of.ensures c.loop-i.yielded _
    c.loop-i.yielded_by c.next.result c.next.new.self c.in-Some.i c.in-Some.body c.in-Some.is
    c.next.ensures.steps in
    let room = factor-room c.args.file.now (length c.loop-i.yielded) c.in-Some.body.now t.here
    (omega (arith, t.inside, factors-count c.args.file.now)) c.requires.1 c.loop-i.invariant
    c.lay_factor-n.ensures in
    omega (arith, c.loop-i.invariant.size, room)

pub loop-i-preserved : goal.loop-i-preserved
loop-i-preserved c =
    let t = body_turn (bodies_in c.args.file.now) c.into_iter-i-iterator.ensures.into_iter_gives
    c.enumerate-i-items.ensures.source c.enumerate-i-items.ensures.count c.of.ensures c.loop-i.yielded _
    c.loop-i.yielded_by c.next.result c.next.new.self c.in-Some.i c.in-Some.body c.in-Some.is
    c.next.ensures.steps in
    let next = factor-packed c.args.file.now (length c.loop-i.yielded) c.in-Some.body.now t.here
    (omega (arith, t.inside, factors-count c.args.file.now)) c.requires.1 c.loop-i.invariant
    c.lay_factor-n.ensures c.requires.0 in
    rw (length-append, t.place) next

pub returns : goal.returns
returns c =
    let file = c.args.file.now in
    let all = body_end (bodies_in file) c.into_iter-i-iterator.ensures.into_iter_gives
    c.enumerate-i-items.ensures.source c.enumerate-i-items.ensures.count c.of.ensures c.loop-i.yielded _
    c.loop-i.yielded_by c.next.result c.next.new.self c.in-None.is c.next.ensures.steps in
    packed c.loop-i.invariant (sym (length-map (factors_in file) polynomial_of))
    (omega (arith, all, factors-count file))
