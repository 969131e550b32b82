use Rattle.ppunit.proofs.BudgetPrefixes.{unit_capped}
use Rattle.ppunit.proofs.laws.budget_caps_units.Goals as goal

pub returns : goal.returns
returns c = unit_capped c.one_value.ensures c.some_value.ensures c.growth.ensures c.only_budgets_refuse.ensures
