-- `multiples::pack_multiples` meets its contract. The invariant is `Packing`. Assumes nothing.
use Prim.Native.Nat.{◌+◌, ◌<◌, ◌≤◌}
use mathlib.Core.Path.{◌≡◌, refl, sym, subst, ◌∙◌}
use mathlib.Core.List.{map}
use native.Mathlib.Omega.{arith}
use lib.ListN.{length, get_or, length-map}
use Rattle.meaning.specs.Polynomial.{monic_multiple}
use Rattle.meaning.specs.Slices.{lists_of}
use Rattle.meaning.proofs.Slices.{lists_length, lists_at, nowhere}
use Rattle.bridge.proofs.Lists.Multiples.{Leads}
use Rattle.arith.specs.Represented.{field_of}
use Rattle.arith.proofs.Represented.{field-is_field}
use Rattle.lent.proofs.Parts.{lent_length}
use Rattle.poly.proofs.parts.Packing.{packing_start, packed}
use Rattle.poly.proofs.multiples.MonicMultiples.{multiple-room, multiple-packed}
use Rattle.poly.proofs.multiples.pack_multiples.Goals as goal

pub loop-i-init : goal.loop-i-init
loop-i-init c = packing_start _ _ refl

pub slice_bounds-monic_multiple-end : goal.slice_bounds-monic_multiple-end
slice_bounds-monic_multiple-end c =
    let within : c.loop-i.i < length (lists_of c.args.factors.now) =
    omega (arith, lists_length c.args.factors.now, c.loop-i-test.true) in
    let fits : let fs = c.args.factors.now in
    c.loop-i.at + length (get_or fs c.loop-i.i nowhere).now ≤ length c.loop-i.to =
    subst (λ f. c.loop-i.at + length f ≤ length c.loop-i.to) (lists_at c.args.factors.now c.loop-i.i)
    (multiple-room (field-is_field c.args.field) c.requires (within) c.loop-i.invariant) in
    omega (arith, fits)

pub monic_multiple-requires : goal.monic_multiple-requires
monic_multiple-requires c =
    let within : c.loop-i.i < length (lists_of c.args.factors.now) =
    omega (arith, lists_length c.args.factors.now, c.loop-i-test.true) in
    let fits : let fs = c.args.factors.now in
    c.loop-i.at + length (get_or fs c.loop-i.i nowhere).now ≤ length c.loop-i.to =
    subst (λ f. c.loop-i.at + length f ≤ length c.loop-i.to) (lists_at c.args.factors.now c.loop-i.i)
    (multiple-room (field-is_field c.args.field) c.requires (within) c.loop-i.invariant) in
    let n = length (get_or c.args.factors.now c.loop-i.i nowhere).now in record {
      leads = subst (Leads (field_of c.args.field)) (lists_at c.args.factors.now c.loop-i.i)
          (c.requires.leads c.loop-i.i (within));
      f_in_bounds = omega (arith, lent_length c.loop-i.to c.loop-i.at n (fits));
    }

pub loop-i-preserved : goal.loop-i-preserved
loop-i-preserved c =
    let within : c.loop-i.i < length (lists_of c.args.factors.now) =
    omega (arith, lists_length c.args.factors.now, c.loop-i-test.true) in
    multiple-packed (field-is_field c.args.field) c.requires (within) c.loop-i.invariant
    (lists_at c.args.factors.now c.loop-i.i)
    c.monic_multiple.ensures

pub returns : goal.returns
returns c =
    let fs = c.args.factors.now in
    let size : length fs ≡ length (map (monic_multiple (field_of c.args.field)) (lists_of fs)) =
    sym (length-map (lists_of fs) (monic_multiple (field_of c.args.field)) ∙ lists_length fs) in
    packed c.loop-i.invariant size c.loop-i-test.false
