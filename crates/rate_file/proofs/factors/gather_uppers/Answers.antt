-- `gather_uppers` meets its contract. The invariant: the first upper powers stand in their places.
-- Assumes nothing.
use Rattle.std.proofs.Common.{length, refl, sym, ◌∙◌, arith, length-append, length-set, inl}
use Rattle.meaning.specs.File.{file_factor}
use Rattle.rate_file.specs.factors.Written.{bodies_in, factors_in}
use Rattle.rate_file.proofs.factors.Turns.{Turn, body_turn, body_end, places_fit}
use Rattle.rate_file.proofs.factors.Places.{factors-count, number-next, numbers-all}
use Rattle.rate_file.proofs.factors.gather_uppers.Goals as goal

pub loop-i-init-derived : goal.loop-i-init-derived
loop-i-init-derived c =
    let fit = places_fit (bodies_in c.args.file.now) c.into_iter-i-iterator.ensures.into_iter_gives
    c.enumerate-i-items.ensures.source c.enumerate-i-items.ensures.count c.of.ensures
    (omega (arith, factors-count c.args.file.now)) in
    ((tt, tt, inl fit), tt)

turn : (c : goal.After-upper_power)
    → Turn (bodies_in c.args.file.now) c.in-Some.i (length c.loop-i.yielded) c.in-Some.body.now
turn c =
    body_turn (bodies_in c.args.file.now) c.into_iter-i-iterator.ensures.into_iter_gives
    c.enumerate-i-items.ensures.source c.enumerate-i-items.ensures.count c.of.ensures c.loop-i.yielded _
    c.loop-i.yielded_by c.next.result c.next.new.self c.in-Some.i c.in-Some.body c.in-Some.is
    c.next.ensures.steps

pub bounds-uppers-i : goal.bounds-uppers-i
bounds-uppers-i c = omega (arith, (turn c).place, (turn c).inside, factors-count c.args.file.now)

pub offset_bounds-uppers-i : goal.offset_bounds-uppers-i
offset_bounds-uppers-i c = omega (arith, (turn c).place, (turn c).inside, factors-count c.args.file.now)

pub loop-i-preserved : goal.loop-i-preserved
unfolding file_factor
loop-i-preserved c =
    let t = turn c in
    let n = factors-count c.args.file.now in
    let next = number-next c.args.file.now (length c.loop-i.yielded) c.in-Some.body.now t.here (λ f. f.upper)
    c.loop-i.uppers c.upper_power.result (omega (arith, t.inside, n, c.loop-i.invariant.eight))
    (omega (arith, t.inside, n)) c.loop-i.invariant.first c.upper_power.ensures in
    record {
      eight = simp length-set c.loop-i.invariant.eight;
      first = rw (length-append, t.place) next;
    }

pub returns : goal.returns
returns c =
    let file = c.args.file.now in
    let all = body_end (bodies_in file) c.into_iter-i-iterator.ensures.into_iter_gives
    c.enumerate-i-items.ensures.source c.enumerate-i-items.ensures.count c.of.ensures c.loop-i.yielded _
    c.loop-i.yielded_by c.next.result c.next.new.self c.in-None.is c.next.ensures.steps in
    numbers-all file (λ f. f.upper) (length c.loop-i.yielded) (length (factors_in file)) c.loop-i.uppers
    (all ∙ sym (factors-count file)) refl c.loop-i.invariant.first
