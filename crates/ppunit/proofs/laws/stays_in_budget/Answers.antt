use Rattle.ppunit.proofs.laws.stays_in_budget.Goals as goal
use Rattle.ppunit.proofs.BudgetSums.{stays_in_budget}

pub returns : goal.returns
returns c = stays_in_budget
