use Rattle.ppexpand.proofs.BudgetLemmas.{capped}
use Rattle.ppexpand.proofs.laws.budget_caps.Goals as goal

pub returns : goal.returns
returns c = λ macros env level steps meter list whole d b out one. capped macros env meter d b one.0 out one.1
