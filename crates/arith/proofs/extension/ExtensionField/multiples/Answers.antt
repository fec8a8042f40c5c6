-- `arith::ExtensionField::multiples` meets its contract. Assumes nothing.
use Rattle.arith.proofs.extension.Elements.{element_under, double_under, multiples_of}
use Rattle.arith.proofs.extension.ExtensionField.multiples.Goals as goal

pub double-m2-requires : goal.double-m2-requires
double-m2-requires c = double_under c.args.self _ c.double-m1.ensures

pub double-m3-requires : goal.double-m3-requires
double-m3-requires c = double_under c.args.self _ c.double-m2.ensures

pub double-m4-requires : goal.double-m4-requires
double-m4-requires c = double_under c.args.self _ c.double-m3.ensures

pub double-m5-requires : goal.double-m5-requires
double-m5-requires c = double_under c.args.self _ c.double-m4.ensures

pub double-m6-requires : goal.double-m6-requires
double-m6-requires c = double_under c.args.self _ c.double-m5.ensures

pub double-m7-requires : goal.double-m7-requires
double-m7-requires c = double_under c.args.self _ c.double-m6.ensures

pub invariant_of-result : goal.invariant_of-result
invariant_of-result c =
    record {
      is_element = element_under c.args.self c.args.c c.element-m0.ensures;
      are_multiples = multiples_of c.args.self c.double-m1.ensures c.double-m2.ensures c.double-m3.ensures
          c.double-m4.ensures
          c.double-m5.ensures
          c.double-m6.ensures
          c.double-m7.ensures;
    }
