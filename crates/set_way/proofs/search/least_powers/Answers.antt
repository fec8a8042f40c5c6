-- `search::least_powers` meets its contract. Assumes nothing.
use Prim.Native.Nat.{ℕ, ◌≤◌}
use mathlib.Core.Path.{◌≡◌, sym, ◌∙◌}
use native.Mathlib.Omega.{arith}
use lib.ListN.{length, take, drop, replicate, length-take, length-drop, length-append}
use Rattle.meaning.proofs.Slices.{lists_length}
use Rattle.set_way.proofs.search.Parts.{settled-searched, halves-kept}
use Rattle.set_way.proofs.search.least_powers.Goals as goal

-- the places of at most eight factors
places : {n m : ℕ} → m ≡ n → m ≤ 8 → length (take n (replicate {A = ℕ} 8 0)) ≡ n
places {n} e l = omega (arith, length-take n (replicate {A = ℕ} 8 0))

pub slice_bounds-powers-end : goal.slice_bounds-powers-end
slice_bounds-powers-end c =
    omega (arith, c.requires.set_input.eight, lists_length c.args.set.factors.now)

pub slice_bounds-settle-end : goal.slice_bounds-settle-end
slice_bounds-settle-end c =
    sym (places (lists_length c.args.set.factors.now) c.requires.set_input.eight)

pub settle-requires-clause-powers_len : goal.settle-requires-clause-powers_len
settle-requires-clause-powers_len c =
    places (lists_length c.args.set.factors.now) c.requires.set_input.eight

pub returns : goal.returns
returns c =
    record {
      powers =
          settled-searched c.settle.ensures
          (c.settle.auto.powers ∙ places (lists_length c.args.set.factors.now) c.requires.set_input.eight);
      kept =
          halves-kept c.args.work.now c.settle.new.work
          (omega (
            arith,
            c.requires.in_bounds,
            length-append c.settle.new.work (drop 8192 c.args.work.now),
            length-drop 8192 c.args.work.now,
          ))
          c.requires.in_bounds;
    }
