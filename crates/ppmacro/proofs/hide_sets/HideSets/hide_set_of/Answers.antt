use Rattle.std.proofs.Common.{rules}
use Rattle.ppmacro.proofs.hide_sets.HideSets.hide_set_of.Goals as goal

pub returns-in-Some-clause-set : goal.returns-in-Some-clause-set
returns-in-Some-clause-set c = search rules
