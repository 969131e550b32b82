use Rattle.ppexpr.proofs.ConditionBudgets.{condition_spends}
use Rattle.ppexpr.proofs.laws.budget_is_spent.Goals as goal

pub returns : goal.returns
returns c = λ macros env at tokens meter meter_after c d. condition_spends d
