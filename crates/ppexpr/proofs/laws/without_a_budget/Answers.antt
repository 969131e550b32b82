use Rattle.std.proofs.Common.{refl}
use Rattle.ppexpr.proofs.ConditionBudgets.{condition_leaves_none}
use Rattle.ppexpr.proofs.laws.without_a_budget.Goals as goal

pub returns : goal.returns
returns c = λ macros env at tokens meter meter_after c d. condition_leaves_none refl d
