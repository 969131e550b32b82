use Rattle.pppool.proofs.ValueUniqueness.{each_once, kept_once}
use Rattle.pppool.proofs.laws.each_unit_has_one_value.Goals as goal

pub returns-clause-values : goal.returns-clause-values
returns-clause-values c = each_once c.one_value.ensures c.growth.ensures

pub returns-clause-retained : goal.returns-clause-retained
returns-clause-retained c = kept_once c.one_value.ensures c.growth.ensures
