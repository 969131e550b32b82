use Rattle.ppexpand.proofs.BudgetLemmas.{spends}
use Rattle.ppexpand.proofs.laws.budget_is_spent.Goals as goal

pub returns : goal.returns
returns c = λ macros env level steps meter list out d. spends macros env d
