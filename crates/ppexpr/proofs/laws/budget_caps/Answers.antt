use Rattle.ppexpr.proofs.BudgetTheorem.{capped}
use Rattle.ppexpr.proofs.laws.budget_caps.Goals as goal

pub returns : goal.returns
returns c = λ macros env at tokens meter whole_after whole d b limited_after limited other. capped meter d b limited_after limited other
