use Rattle.ppexpr.proofs.ConditionExistence.{some_condition}
use Rattle.ppexpr.proofs.laws.some_condition.Goals as goal

pub returns : goal.returns
returns c = some_condition
