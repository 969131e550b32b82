use Rattle.std.proofs.Common.{refl}
use Rattle.ppexpand.proofs.BudgetLemmas.{remaining_none}
use Rattle.ppexpand.proofs.StandardAgreement.{list_standard, expansion_standard}
use Rattle.ppexpand.proofs.laws.without_a_budget.Goals as goal

pub returns-clause-steps : goal.returns-clause-steps
returns-clause-steps c = λ macros env meter list. refl

pub returns-clause-remaining : goal.returns-clause-remaining
returns-clause-remaining c = λ macros env level meter list out d. remaining_none macros env refl d.1

pub returns-clause-rules : goal.returns-clause-rules
returns-clause-rules c = list_standard

pub returns-clause-expansions : goal.returns-clause-expansions
returns-clause-expansions c = λ macros env meter tokens e. expansion_standard macros env meter tokens e
