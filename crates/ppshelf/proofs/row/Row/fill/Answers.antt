use Rattle.std.proofs.Common.{rules}
use Rattle.ppshelf.proofs.row.Row.fill.Goals as goal

pub returns-in_ok-loaded-clause-fill_effect : goal.returns-in_ok-loaded-clause-fill_effect
returns-in_ok-loaded-clause-fill_effect g c = search rules
