use Rattle.std.proofs.Common.{refl}
use Rattle.ppexpand.proofs.BudgetFaults.{never_refused}
use Rattle.ppexpand.proofs.laws.only_budgets_refuse.Goals as goal

pub returns : goal.returns
returns c = λ macros env level meter list out f d is. never_refused macros env refl d is
