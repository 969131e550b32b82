use Rattle.std.proofs.Common.{refl}
use Rattle.ppexpr.proofs.ConditionBudgets.{condition_never_refused}
use Rattle.ppexpr.proofs.laws.only_budgets_refuse.Goals as goal

pub returns : goal.returns
returns c = λ macros env at tokens meter meter_after f d. condition_never_refused refl d
