-- `set_way::search_set` meets its contract. Assumes nothing.
use Rattle.set_way.proofs.Answers.{lent-input, found-powers, found_nothing}
use Rattle.set_way.proofs.search_set.Goals as goal

pub returns-then-not-annihilates : goal.returns-then-not-annihilates
returns-then-not-annihilates c =
    found_nothing c.requires c.annihilates.ensures.annihilated c.if-not-annihilates.true

pub least_powers-requires-clause-set_input : goal.least_powers-requires-clause-set_input
least_powers-requires-clause-set_input c = lent-input c.requires c.total_degree.ensures

pub returns : goal.returns
returns c =
    found-powers c.requires c.total_degree.ensures c.annihilates.ensures.annihilated
    c.if-not-annihilates.false c.least_powers.ensures.powers
