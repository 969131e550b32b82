use Rattle.std.proofs.Common.{rules}
use Rattle.ppunit.proofs.directives.control_any.Goals as goal

pub returns-in-Unknown : goal.returns-in-Unknown
returns-in-Unknown c = search rules
