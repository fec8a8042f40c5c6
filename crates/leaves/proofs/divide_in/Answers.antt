-- `divide_in` meets its contract.
-- Assumes nothing.
use mathlib.Core.Path.{sym, ◌∙◌}
use Rattle.bridge.proofs.Ways.Accepted.{terms-accepted}
use Rattle.bridge.proofs.Lists.Multiples.{coefficients_lead}
use Rattle.leaves.proofs.Remaindering.{kept-coefficient, kept_out_of_field}
use Rattle.leaves.proofs.divide_in.Goals as goal

pub returns-then-coefficient_out_of_range : goal.returns-then-coefficient_out_of_range
returns-then-coefficient_out_of_range c =
    kept-coefficient _ _ _ c.coefficient_out_of_range.ensures c.if-coefficient_out_of_range.true

pub returns-then-term_out_of_field : goal.returns-then-term_out_of_field
returns-then-term_out_of_field c =
    kept_out_of_field _ _ _ c.term_out_of_field.ensures c.if-term_out_of_field.true

pub divide-requires : goal.divide-requires
divide-requires c =
    let lead = coefficients_lead _ _ (sym c.coefficient_out_of_range.ensures ∙
    c.if-coefficient_out_of_range.false) in
    record {
      divisor = lead.elements;
      nonzero = lead.nonzero;
      elements = terms-accepted _ _ (sym c.term_out_of_field.ensures ∙ c.if-term_out_of_field.false);
    }

pub shape_of-f : goal.shape_of-f
shape_of-f c = c.divide.ensures.size

pub returns : goal.returns
returns c =
    let lead = coefficients_lead _ _
    (sym c.coefficient_out_of_range.ensures ∙ c.if-coefficient_out_of_range.false) in
    record {
      divided = λ t d. c.divide.ensures;
      kept = λ n. absurd (n tt record {
        divisor = lead.elements;
        nonzero = lead.nonzero;
        elements = terms-accepted _ _ (sym c.term_out_of_field.ensures ∙ c.if-term_out_of_field.false);
      });
    }
