use Rattle.std.proofs.Common.{rules}
use Rattle.ppexpand.proofs.predefined.predefined_value.Goals as goal

pub returns-clause-is : goal.returns-clause-is
returns-clause-is c = search rules
