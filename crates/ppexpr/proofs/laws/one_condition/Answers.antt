use Rattle.ppexpr.proofs.ConditionUniqueness.{same_condition}
use Rattle.ppexpr.proofs.laws.one_condition.Goals as goal

pub returns : goal.returns
returns c = same_condition
