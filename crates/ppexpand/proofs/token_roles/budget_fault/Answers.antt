use Rattle.std.proofs.Common.{rules}
use Rattle.ppexpand.proofs.token_roles.budget_fault.Goals as goal

pub returns : goal.returns
returns c = search rules
