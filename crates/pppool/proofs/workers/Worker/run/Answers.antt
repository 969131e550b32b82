use Rattle.std.proofs.Common.{rules}
use Rattle.pppool.proofs.workers.Worker.run.Goals as goal

pub returns : goal.returns
returns g c = search rules
