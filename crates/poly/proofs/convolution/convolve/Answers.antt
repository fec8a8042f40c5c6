-- `convolution::convolve` meets its contract. The invariant: the places after the first `left` are
-- made, and all others as they were. The measure is `left`. Assumes nothing.
use Prim.Native.Nat.{◌-◌}
use mathlib.Core.Path.{refl}
use native.Mathlib.Omega.{arith}
use Rattle.arith.specs.Represented.{field_of}
use Rattle.poly.proofs.convolution.Made.{blocks_more, blocks_all}
use Rattle.poly.proofs.convolution.convolve.Goals as goal

pub loop-left-preserved : goal.loop-left-preserved
loop-left-preserved c =
    let a = c.args in
    let h = c.min-count.result in (
      omega arith,
      blocks_more (field_of a.field) a.f.now a.q a.w.now a.to a.at a.m c.requires
          c.loop-left.invariant.0
          c.loop-left.invariant.1
          (c.loop-left.left - h)
          h
          (omega arith)
          refl
          c.act_block.ensures,
    )

pub returns : goal.returns
returns c =
    let a = c.args in
    blocks_all (field_of a.field) a.f.now a.q a.w.now a.to a.at a.m c.requires
    (omega arith)
    c.loop-left.invariant.1
