use Rattle.ppunit.proofs.UnlimitedUnits.{never_refused}
use Rattle.ppunit.proofs.laws.only_budgets_refuse.Goals as goal

pub returns : goal.returns
returns c = never_refused
