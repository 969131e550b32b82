use Rattle.std.proofs.Common.{rules}
use Rattle.ppmacro.proofs.hide_sets.HideSets.with_own_name.Goals as goal

pub returns-clause-set : goal.returns-clause-set
returns-clause-set c = search rules
