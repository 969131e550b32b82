use Rattle.std.proofs.Common.{rules}
use Rattle.pppool.proofs.run_units.run_workers.Goals as goal

pub returns-clause-slots : goal.returns-clause-slots
returns-clause-slots g c = search rules
