use Rattle.ppunit.proofs.BudgetPrefixes.{unit_gives_no_less}
use Rattle.ppunit.proofs.laws.larger_budgets_give_no_less.Goals as goal

pub returns : goal.returns
returns c = unit_gives_no_less c.one_value.ensures c.some_value.ensures c.growth.ensures
