use Rattle.std.proofs.Common.{rules}
use Rattle.ppshelf.proofs.row.Row.new_observation.Goals as goal

pub returns : goal.returns
returns g c = search rules
