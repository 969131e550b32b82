use Rattle.std.proofs.Common.{rules}
use Rattle.ppserve.proofs.exit_status.status.Goals as goal

pub returns-in-Ok-true : goal.returns-in-Ok-true
returns-in-Ok-true c = search rules
