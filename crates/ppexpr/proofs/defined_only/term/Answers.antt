use Rattle.ppexpr.proofs.TruthValues.{defined_truth, negated_truth}
use Rattle.ppexpr.proofs.defined_only.term.Goals as goal

pub returns-in-Some : goal.returns-in-Some
returns-in-Some c = negated_truth c.args.table.now.macros c.args.tokens.now c.in-Some.following.now c.in_ok-holds.rest.now c.in_ok-holds.holds c.in-Some.ensures c.in_ok-holds.ensures

pub returns : goal.returns
returns c = defined_truth c.args.table.now.macros c.args.tokens.now c.in_ok-holds-2.rest.now c.in_ok-holds-2.holds c.in_ok-holds-2.ensures
