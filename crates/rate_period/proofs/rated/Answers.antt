-- `rated` meets its contract: nothing found is 17, and else the power is written and the shortest period
-- told. Assumes nothing.
use Rattle.arith.proofs.Represented.{field-is_field}
use Rattle.rate_period.proofs.Answer.{power-input, degree_decides, nothing-rated, power-rated}
use Rattle.rate_period.proofs.rated.Goals as goal

pub write_power-degree-requires : goal.write_power-degree-requires
write_power-degree-requires c =
    record {
      in_bounds = c.requires.in_bounds;
      power_input = power-input c.requires.answerable c.in-Some.is;
    }

pub shortest_period-repeat-requires : goal.shortest_period-repeat-requires
shortest_period-repeat-requires c =
    record {
      terms_nonzero = c.requires.answerable.at_least_one;
      deciding = degree_decides c.requires.answerable c.in-Some.is (field-is_field c.args.field)
          c.write_power-degree.ensures;
    }

pub returns-in_default : goal.returns-in_default
returns-in_default c = nothing-rated c.in_default.is

pub returns : goal.returns
returns c =
    power-rated c.in-Some.is c.write_power-degree.ensures c.shortest_period-repeat.ensures
