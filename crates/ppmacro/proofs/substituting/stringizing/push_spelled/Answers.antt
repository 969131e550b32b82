use Rattle.std.proofs.Common.{rules}
use Rattle.ppmacro.proofs.substituting.stringizing.push_spelled.Goals as goal

pub returns : goal.returns
returns c = search rules
